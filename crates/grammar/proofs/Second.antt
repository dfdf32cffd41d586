-- What the table asks after a first word is what the list of the kind's values asks: each row of the table is tested, and so is each
-- value of two words, which a row must begin.
use Prim.Native.Nat.{ℕ}
use mathlib.Core.Path.{◌≡◌, refl, sym}
use mathlib.Core.Bool.{Bool, true, false, cond, not, ◌&&◌, ◌||◌, and-true, and-false}
use mathlib.Core.List.{List, [], ◌∷◌}
use lib.Dec.{eqb}
use borrow.Author.Tests.{ne_eqb, eqb-true}
use Rattle.record.specs.Kinds.{MACRO_CLASS, DIRECTION}
use Rattle.word.specs.Words.{keys, values, words, raised, upper, same, first_where, word_of, word}
use Rattle.word.specs.Codes.{Valued, kind_values, numbers, values_in, values_of, place_of, code_of}
use Rattle.word.proofs.Words.{both}
use Rattle.grammar.specs.Tokens.{Ahead}
use Rattle.grammar.specs.Follows.{Follow, nothing, optional, required, optional_key, First, class_firsts, direction_firsts, firsts_of, follow_in}
use Rattle.grammar.specs.Engine.{parse_follow, parse_second}
use Rattle.grammar.specs.Second.{goes_on, second_key, second_listed}

-- A ROW

-- what the list says of the first word w is what the row says
unfoldable agrees : ℕ → ℕ → Follow → Bool
agrees k w nothing = not (goes_on (values_of k) w)
agrees k w optional = goes_on (values_of k) w && (not (eqb (code_of k w 0) 0) && eqb (second_key w) 0)
agrees k w required = goes_on (values_of k) w && (eqb (code_of k w 0) 0 && eqb (second_key w) 0)
agrees k w (optional_key u) = goes_on (values_of k) w && (not (eqb (code_of k w 0) 0) && (eqb (second_key w) (word u) && not (eqb (word u) 0)))

untrue : (b : Bool) → not b ≡ true → b ≡ false
untrue true e = sym e
untrue false e = refl

module _ {A M : Type 0} (k w : ℕ) (a : Ahead A M) where
  row_listed : (f : Follow) → agrees k w f ≡ true → parse_follow k w f a ≡ second_listed k w a
  unfolding agrees
  row_listed nothing e = rw e
  row_listed optional e =
      let (g, h) = both (goes_on (values_of k) w) _ e in
      let (c, s) = both (not (eqb (code_of k w 0) 0)) _ h in
      rw (g, c, s, and-true)
  row_listed required e =
      let (g, h) = both (goes_on (values_of k) w) _ e in
      let (c, s) = both (eqb (code_of k w 0) 0) _ h in
      rw (g, c, s, and-false)
  row_listed (optional_key u) e =
      let (g, h) = both (goes_on (values_of k) w) _ e in
      let (c, s) = both (not (eqb (code_of k w 0) 0)) _ h in
      let (p, q) = both (eqb (second_key w) (word u)) _ s in
      rw (g, c, eqb-true (second_key w) (word u) p, untrue (eqb (word u) 0) q, and-true)

-- THE TABLE

-- each row agrees with the list
unfoldable all_agree : ℕ → List First → Bool
all_agree k [] = true
all_agree k (r ∷ rs) = agrees k (word r.begin) r.follow && all_agree k rs

-- each value of two words begins with the word of a row
unfoldable led : List First → ℕ → Bool
led [] v = false
led (r ∷ rs) v = eqb (word r.begin) v || led rs v

unfoldable all_led : List First → List ℕ → Bool
all_led rs [] = true
all_led rs (v ∷ []) = true
all_led rs (v ∷ u ∷ l) = (eqb u 0 || led rs v) && all_led rs l

module _ (w : ℕ) where
  -- no value of two words begins with a word that has no row
  unled : (rs : List First) (l : List ℕ) → all_led rs l ≡ true → led rs w ≡ false → goes_on l w ≡ false
  unfolding all_led goes_on
  unled rs [] e n = refl
  unled rs (v ∷ []) e n = refl
  unled rs (v ∷ u ∷ l) e n =
      let (p, q) = both (eqb u 0 || led rs v) (all_led rs l) e in
      go (eqb v w) (eqb u 0) refl p (unled rs l q n)
    where
      go : (c d : Bool) → eqb v w ≡ c → (d || led rs v) ≡ true → goes_on l w ≡ false → ((c && not d) || goes_on l w) ≡ false
      go true true i p h = h
      go true false i p h = sym (rw (← n, ← eqb-true v w i) p)
      go false d i p h = h

  -- the row of the word agrees with the list, and so does `nothing` where there is none
  in_rows : (k : ℕ) (rs : List First) → all_agree k rs ≡ true → (led rs w ≡ false → goes_on (values_of k) w ≡ false) → agrees k w (follow_in rs w) ≡ true
  unfolding agrees all_agree led
  in_rows k [] t n = rw (n refl)
  in_rows k (r ∷ rs) t n =
      let (p, q) = both (agrees k (word r.begin) r.follow) (all_agree k rs) t in
      go (eqb (word r.begin) w) refl p (in_rows k rs q)
    where
      go : (c : Bool) → eqb (word r.begin) w ≡ c → agrees k (word r.begin) r.follow ≡ true
          → ((led rs w ≡ false → goes_on (values_of k) w ≡ false) → agrees k w (follow_in rs w) ≡ true)
          → agrees k w (cond c r.follow (follow_in rs w)) ≡ true
      go true i p f = rw (← eqb-true (word r.begin) w i) p
      go false i p f = f (λ z. n (rw i z))

-- in a table of values, each value of two words begins with a first word of its kind
unfoldable table_led : List Valued → Bool
table_led [] = true
table_led (r ∷ rs) = all_led (firsts_of r.kind) (numbers r.values) && table_led rs

led_in : (rs : List Valued) (k : ℕ) → table_led rs ≡ true → all_led (firsts_of k) (values_in rs k) ≡ true
unfolding table_led values_in all_led
led_in [] k e = refl
led_in (r ∷ rs) k e =
    let (p, q) = both (all_led (firsts_of r.kind) (numbers r.values)) (table_led rs) e in
    go (eqb k r.kind) refl p (led_in rs k q)
  where
    go : (c : Bool) → eqb k r.kind ≡ c → all_led (firsts_of r.kind) (numbers r.values) ≡ true → all_led (firsts_of k) (values_in rs k) ≡ true
        → all_led (firsts_of k) (cond c (numbers r.values) (values_in rs k)) ≡ true
    go true i p h = rw (eqb-true k r.kind i) p
    go false i p h = h

values_led : (k : ℕ) → all_led (firsts_of k) (values_of k) ≡ true
unfolding keys values words raised upper same first_where word_of kind_values values_of table_led led all_led
values_led k = led_in kind_values k refl

-- only classes of macros and directions have values of two words
pub no_second : (w kind : ℕ) → (kind ≡ MACRO_CLASS → ⊥) → (kind ≡ DIRECTION → ⊥) → false ≡ goes_on (values_of kind) w
unfolding led
no_second w kind m n = sym (unled w [] (values_of kind) (rw (ne_eqb kind MACRO_CLASS m, ne_eqb kind DIRECTION n) at (values_led kind)) refl)

class_agrees : all_agree MACRO_CLASS class_firsts ≡ true
unfolding keys values words raised upper same first_where word_of kind_values values_in values_of place_of code_of goes_on agrees all_agree
class_agrees = refl

direction_agrees : all_agree DIRECTION direction_firsts ≡ true
unfolding keys values words raised upper same first_where word_of kind_values values_in values_of place_of code_of goes_on agrees all_agree
direction_agrees = refl

firsts_agree : (k : ℕ) → all_agree k (firsts_of k) ≡ true
unfolding all_agree
firsts_agree k = go (eqb k MACRO_CLASS) (eqb k DIRECTION) refl refl
  where
    go : (c d : Bool) → eqb k MACRO_CLASS ≡ c → eqb k DIRECTION ≡ d → all_agree k (cond c class_firsts (cond d direction_firsts [])) ≡ true
    go true d p q = rw (eqb-true k MACRO_CLASS p) class_agrees
    go false true p q = rw (eqb-true k DIRECTION q) direction_agrees
    go false false p q = refl

-- THE SECOND WORD

pub second_is_listed : {A M : Type 0} (k w : ℕ) (a : Ahead A M) → parse_second k w a ≡ second_listed k w a
unfolding parse_second
second_is_listed k w a = row_listed k w a (follow_in (firsts_of k) w) (in_rows w k (firsts_of k) (firsts_agree k) (unled w (firsts_of k) (values_of k) (values_led k)))
