-- A test of the items of a statement, that what is written of them is read as it was, and which of their tokens stands first: by the cases of the items.
use Prim.Native.Nat.{ℕ, zero, suc}
use mathlib.Core.Path.{◌≡◌}
use mathlib.Core.Bool.{Bool, true, false, not, ◌&&◌, false≢true}
use mathlib.Core.List.{List, [], ◌∷◌, ◌++◌}
use lib.Dec.{eqb}
use Rattle.lexer.specs.Kinds as Kind
use Rattle.word.specs.Words.{word, is_key}
use Rattle.grammar.specs.Grammar.{Item, key, keyword, name, own, x, y, semi, value, first, first_key, second, string, code, if_more, no_name, among, whole}
use Rattle.render.specs.Pieces.{Said}
use Rattle.render.specs.Plain.{Plain}
use Rattle.render.specs.Says.{says, omitted, says_all}
use Rattle.render.proofs.Stands.{ends_no_name}
use Rattle.render.proofs.ItemsSpelt.{next_asks}
use Rattle.render.proofs.TakersBack.{headed}
use Rattle.render.proofs.WordsBack.{well_spelt, key_first}

-- WHAT IS SAID FIRST

-- the items, of which the first m are left out, say something first, of a kind that p allows
unfoldable pub leads : (ℕ → Bool) → ℕ → List Item → Bool
leads p m [] = false
leads p (suc m) (i ∷ is) = leads p m is
leads p zero (key w ∷ is) = p Kind.name
leads p zero (keyword w ∷ is) = p Kind.name
leads p zero (name ∷ is) = p Kind.name
leads p zero (own ∷ is) = p Kind.name
leads p zero (x ∷ is) = p Kind.number
leads p zero (y ∷ is) = p Kind.number
leads p zero (semi ∷ is) = p Kind.semicolon
leads p zero (value ∷ is) = p Kind.name
leads p zero (first ∷ is) = p Kind.name
leads p zero (first_key ∷ is) = p Kind.name
leads p zero (second ∷ is) = false
leads p zero (string n ∷ is) = p Kind.string_literal
leads p zero (code c ∷ is) = leads p 0 is
leads p zero (if_more n ∷ is) = false
leads p zero (no_name ∷ is) = leads p 0 is
leads p zero (among vs ∷ is) = leads p 0 is
leads p zero (whole n ∷ is) = leads p 0 is

module _ (label : List ℕ) (r : Plain) (us : List Said) where
  pub led : (p : ℕ → Bool) (m : ℕ) (is : List Item) → leads p m is ≡ true → headed p (says_all m label is r ++ us) ≡ true
  unfolding leads says_all says omitted
  led p m [] e = absurd (false≢true e)
  led p (suc m) (i ∷ is) e = led p m is e
  led p zero (key w ∷ is) e = e
  led p zero (keyword w ∷ is) e = e
  led p zero (name ∷ is) e = e
  led p zero (own ∷ is) e = e
  led p zero (x ∷ is) e = e
  led p zero (y ∷ is) e = e
  led p zero (semi ∷ is) e = e
  led p zero (value ∷ is) e = e
  led p zero (first ∷ is) e = e
  led p zero (first_key ∷ is) e = e
  led p zero (second ∷ is) e = absurd (false≢true e)
  led p zero (string n ∷ is) e = e
  led p zero (code c ∷ is) e = led p 0 is e
  led p zero (if_more n ∷ is) e = absurd (false≢true e)
  led p zero (no_name ∷ is) e = led p 0 is e
  led p zero (among vs ∷ is) e = led p 0 is e
  led p zero (whole n ∷ is) e = led p 0 is e

-- A TEST OF ITEMS

abbrev pub no_semi : ℕ → Bool
no_semi k = not (eqb k Kind.semicolon)

abbrev pub is_semi : ℕ → Bool
is_semi k = eqb k Kind.semicolon

abbrev pub no_word : ℕ → Bool
no_word k = not (eqb k Kind.name)

-- What is written of a record of the kind k, the first m items left out, is read as it. Where g the first word of a value is given,
-- and where h the number x.
unfoldable pub legible : ℕ → ℕ → Bool → Bool → List Item → Bool
legible k m g h [] = true
legible k (suc m) g h (i ∷ is) = legible k m g h is
legible k zero g h (key w ∷ is) = is_key (word w) && legible k 0 g h is
legible k zero g h (keyword w ∷ is) = legible k 0 g h is
legible k zero g h (name ∷ is) = legible k 0 g h is
legible k zero g h (own ∷ is) = legible k 0 g h is
legible k zero g h (x ∷ is) = legible k 0 g true is
legible k zero g h (y ∷ is) = legible k 0 g h is
legible k zero g h (semi ∷ is) = legible k 0 g h is
legible k zero g h (value ∷ is) = well_spelt k && legible k 0 g h is
legible k zero g h (first ∷ is) = next_asks is && (well_spelt k && legible k 0 true h is)
legible k zero g h (first_key ∷ is) = next_asks is && (well_spelt k && (key_first k && legible k 0 true h is))
legible k zero g h (second ∷ is) = g && (well_spelt k && (leads is_semi 0 is && legible k 0 g h is))
legible k zero g h (string n ∷ is) = legible k 0 g h is
legible k zero g h (code c ∷ is) = legible k 0 g h is
legible k zero g h (if_more n ∷ is) = (leads no_semi 0 is && legible k 0 g h is) && (leads is_semi n is && legible k n g h is)
legible k zero g h (no_name ∷ []) = true
legible k zero g h (no_name ∷ i ∷ is) = leads no_word 0 (i ∷ is) && legible k 0 g h (i ∷ is)
legible k zero g h (among vs ∷ is) = h && legible k 0 g h is
legible k zero g h (whole n ∷ is) = legible k 0 g h is

-- items that forbid a name after them forbid it whatever comes before them
pub ends_later : (i : Item) (is : List Item) → ends_no_name is ≡ true → ends_no_name (i ∷ is) ≡ true
unfolding ends_no_name
ends_later (key w) is e = e
ends_later (keyword w) is e = e
ends_later name is e = e
ends_later own is e = e
ends_later x is e = e
ends_later y is e = e
ends_later semi is e = e
ends_later value is e = e
ends_later first is e = e
ends_later first_key is e = e
ends_later second is e = e
ends_later (string n) is e = e
ends_later (code c) is e = e
ends_later (if_more n) is e = e
ends_later no_name [] e = absurd (false≢true e)
ends_later no_name (i ∷ is) e = e
ends_later (among vs) is e = e
ends_later (whole n) is e = e
