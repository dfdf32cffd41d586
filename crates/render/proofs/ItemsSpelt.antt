-- What the items of a statement say can be written where the record has what they ask: names and strings are asked to be, numbers
-- always are, and the words of the table pass a test.
use Prim.Native.Nat.{ℕ, zero, suc, ◌^◌, ◌-◌}
use mathlib.Core.Path.{◌≡◌, refl}
use mathlib.Core.Bool.{Bool, true, false, cond, ◌&&◌, ◌||◌, false≢true}
use mathlib.Core.List.{List, [], ◌∷◌, ◌++◌}
use lib.Dec.{eqb, ltb}
use lib.ListN.{length}
use Rattle.text.specs.Text.{bytes}
use Rattle.lexer.specs.Kinds as Kind
use Rattle.numeral.specs.Numeral.{scaled}
use Rattle.word.specs.Codes.{values_of}
use Rattle.word.specs.Spelling.{first_of, second_of}
use Rattle.word.proofs.Words.{both}
use Rattle.grammar.specs.Grammar.{Item, key, keyword, name, own, x, y, semi, value, first, first_key, second, string, code, if_more, no_name, among, whole}
use Rattle.render.specs.Pieces.{Said, said}
use Rattle.render.specs.Spelt.{all, is_semicolon, is_token, is_spelt, all_spelt}
use Rattle.render.specs.Plain.{Plain}
use Rattle.render.specs.Says.{is_code, numeral, word, number, semicolon, quoted, says, omitted, says_all, holds, holds_all}
use Rattle.render.proofs.Numbers.{number_spelt}
use Rattle.render.proofs.Codes.{each_value, code_passes}

-- ---- tokens
pub spelt_append : (ts us : List Said) → all_spelt ts ≡ true → all_spelt us ≡ true → all_spelt (ts ++ us) ≡ true
unfolding all_spelt
spelt_append [] us e f = f
spelt_append (t ∷ ts) us e f = let (g, h) = both (is_spelt t) (all_spelt ts) e in rw g (spelt_append ts us h f)

none : all_spelt [] ≡ true
unfolding all_spelt
none = refl

one : (t : Said) → is_spelt t ≡ true → all_spelt (t ∷ []) ≡ true
unfolding all_spelt
one t e = rw e

pub semicolon_says : is_spelt semicolon ≡ true
unfolding all is_semicolon is_token is_spelt
semicolon_says = refl

number_says : (v : ℕ) → is_spelt (number v) ≡ true
number_says v = go (ltb v (2 ^ 63))
  where
    go : (t : Bool) → is_spelt (said Kind.number (numeral (cond t (scaled false v) (scaled true (2 ^ 64 - v))))) ≡ true
    go true = number_spelt false v
    go false = number_spelt true (2 ^ 64 - v)

-- ---- the words of values
-- the first word of a value can be written, and the second if there is one
unfoldable pub sayable : ℕ → ℕ → Bool
sayable w v = is_spelt (word w) && (eqb v 0 || is_spelt (word v))

unfoldable pub all_sayable : ℕ → Bool
all_sayable k = each_value sayable (values_of k)

code_says : (k c : ℕ) → all_sayable k ≡ true → is_code k c ≡ true → (is_spelt (word (first_of k c)) ≡ true) × (eqb (second_of k c) 0 || is_spelt (word (second_of k c)) ≡ true)
unfolding all_sayable sayable
code_says k c e h = both (is_spelt (word (first_of k c))) (eqb (second_of k c) 0 || is_spelt (word (second_of k c))) (code_passes k c h sayable e)

-- ---- items
-- the item asks that the code is one of the kind
unfoldable pub asks_code : Item → Bool
asks_code (key w) = false
asks_code (keyword w) = false
asks_code name = false
asks_code own = false
asks_code x = false
asks_code y = false
asks_code semi = false
asks_code value = true
asks_code first = false
asks_code first_key = false
asks_code second = true
asks_code (string n) = false
asks_code (code c) = false
asks_code (if_more n) = false
asks_code no_name = false
asks_code (among vs) = false
asks_code (whole n) = false

unfoldable pub next_asks : List Item → Bool
next_asks [] = false
next_asks (i ∷ is) = asks_code i

-- the words of an item can be written in a record of the kind k; what a first word begins is asked for next
unfoldable pub well_worded : ℕ → Item → List Item → Bool
well_worded k (key w) is = is_spelt (said Kind.name (bytes w))
well_worded k (keyword w) is = is_spelt (said Kind.name (bytes w))
well_worded k name is = true
well_worded k own is = true
well_worded k x is = true
well_worded k y is = true
well_worded k semi is = true
well_worded k value is = all_sayable k
well_worded k first is = next_asks is && all_sayable k
well_worded k first_key is = next_asks is && all_sayable k
well_worded k second is = all_sayable k
well_worded k (string n) is = true
well_worded k (code c) is = true
well_worded k (if_more n) is = true
well_worded k no_name is = true
well_worded k (among vs) is = true
well_worded k (whole n) is = true

unfoldable pub all_worded : ℕ → List Item → Bool
all_worded k [] = true
all_worded k (i ∷ is) = well_worded k i is && all_worded k is

module _ (label lacks : List ℕ) (r : Plain) where
  abbrev Coded : Type 0
  Coded = is_code r.kind r.code ≡ true

  asked_code : (i : Item) → asks_code i ≡ true → holds label lacks r i ≡ true → Coded
  unfolding asks_code holds
  asked_code (key w) e h = absurd (false≢true e)
  asked_code (keyword w) e h = absurd (false≢true e)
  asked_code name e h = absurd (false≢true e)
  asked_code own e h = absurd (false≢true e)
  asked_code x e h = absurd (false≢true e)
  asked_code y e h = absurd (false≢true e)
  asked_code semi e h = absurd (false≢true e)
  asked_code value e h = (both (is_code r.kind r.code) (eqb (second_of r.kind r.code) 0) h).0
  asked_code first e h = absurd (false≢true e)
  asked_code first_key e h = absurd (false≢true e)
  asked_code second e h = h
  asked_code (string n) e h = absurd (false≢true e)
  asked_code (code c) e h = absurd (false≢true e)
  asked_code (if_more n) e h = absurd (false≢true e)
  asked_code no_name e h = absurd (false≢true e)
  asked_code (among vs) e h = absurd (false≢true e)
  asked_code (whole n) e h = absurd (false≢true e)

  pub next_code : (is : List Item) → next_asks is ≡ true → holds_all 0 label lacks is r ≡ true → Coded
  unfolding next_asks holds_all
  next_code [] e h = absurd (false≢true e)
  next_code (i ∷ is) e h = asked_code i e (both (holds label lacks r i) (holds_all (omitted r i is) label lacks is r) h).0

  first_says : all_sayable r.kind ≡ true → Coded → all_spelt (word (first_of r.kind r.code) ∷ []) ≡ true
  first_says e h = one _ (code_says r.kind r.code e h).0

  next_says : (is : List Item) → next_asks is && all_sayable r.kind ≡ true → holds_all 0 label lacks is r ≡ true
      → all_spelt (word (first_of r.kind r.code) ∷ []) ≡ true
  next_says is e h = let (f, g) = both (next_asks is) (all_sayable r.kind) e in first_says g (next_code is f h)

  second_says : all_sayable r.kind ≡ true → Coded
      → all_spelt (cond (eqb (second_of r.kind r.code) 0) [] (word (second_of r.kind r.code) ∷ [])) ≡ true
  unfolding all_spelt
  second_says e h = go (eqb v 0) (code_says r.kind r.code e h).1
    where
      v : ℕ
      v = second_of r.kind r.code

      go : (t : Bool) → t || is_spelt (word v) ≡ true → all_spelt (cond t [] (word v ∷ [])) ≡ true
      go true e = refl
      go false e = one (word v) e

  item_says : (i : Item) (is : List Item) → well_worded r.kind i is ≡ true → holds label lacks r i ≡ true → holds_all (omitted r i is) label lacks is r ≡ true
      → all_spelt (says label r i) ≡ true
  unfolding well_worded holds omitted says
  item_says (key w) is e h g = one _ e
  item_says (keyword w) is e h g = one _ e
  item_says name is e h g = one _ h
  item_says own is e h g = one _ h
  item_says x is e h g = one _ (number_says r.x)
  item_says y is e h g = one _ (number_says r.y)
  item_says semi is e h g = one _ semicolon_says
  item_says value is e h g = first_says e (both (is_code r.kind r.code) (eqb (second_of r.kind r.code) 0) h).0
  item_says first is e h g = next_says is e g
  item_says first_key is e h g = next_says is e g
  item_says second is e h g = second_says e h
  item_says (string n) is e h g = one _ (both (eqb (length r.name) n) (is_spelt (quoted r.name)) h).1
  item_says (code c) is e h g = none
  item_says (if_more n) is e h g = none
  item_says no_name is e h g = none
  item_says (among vs) is e h g = none
  item_says (whole n) is e h g = none

  -- WHAT ITEMS SAY CAN BE WRITTEN
  pub items_say : (m : ℕ) (is : List Item) → all_worded r.kind is ≡ true → holds_all m label lacks is r ≡ true → all_spelt (says_all m label is r) ≡ true
  unfolding all_worded holds_all says_all all_spelt
  items_say m [] e h = refl
  items_say (suc m) (i ∷ is) e h = items_say m is (both (well_worded r.kind i is) (all_worded r.kind is) e).1 h
  items_say zero (i ∷ is) e h =
      let (f, g) = both (well_worded r.kind i is) (all_worded r.kind is) e in
      let (p, q) = both (holds label lacks r i) (holds_all (omitted r i is) label lacks is r) h in
      spelt_append (says label r i) _ (item_says i is f p q) (items_say (omitted r i is) is g q)
