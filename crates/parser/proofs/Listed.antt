-- Laws of the items: the words that they ask for by number, answers one after the other, and a value among numbers.
use Prim.Native.Nat.{ℕ}
use mathlib.Core.Path.{◌≡◌, refl, ap}
use mathlib.Core.Bool.{◌||◌}
use mathlib.Core.List.{List, [], ◌∷◌}
use lib.Dec.{eqb}
use Rattle.std.specs.List.{list_any}
use Rattle.word.specs.Words.{keys, values, words, raised, upper, same, first_where, word_of, word}
use Rattle.grammar.specs.Tokens.{Ahead, Answer, ok, refused, then}
use Rattle.grammar.specs.Engine.{Draft, member}
use Rattle.grammar.specs.Reading.{Mark}
use Rattle.parser.specs.declared.draft.Sketch.{Sketch}
use Rattle.parser.specs.Drafts.{draft_of, flatly}

pub units_word : word "UNITS" ≡ 30
unfolding keys values words raised upper same first_where word_of
units_word = refl

pub microns_word : word "MICRONS" ≡ 94
unfolding keys values words raised upper same first_where word_of
microns_word = refl

module _ {A M : Type 0} where
  pub then_then : {B C D : Type 0} (t : Answer A M B) (k : B → Ahead A M → Answer A M C) (l : C → Ahead A M → Answer A M D) → then (then t k) l ≡ then t (λ b a. then (k b a) l)
  then_then (ok b a) k l = refl
  then_then (refused n m) k l = refl

-- a value compared with each number of a list in turn
pub any_member : (ns : List ℕ) (v : ℕ) → list_any (λ n. eqb n v) ns ≡ member ns v
unfolding member
any_member [] v = refl
any_member (n ∷ ns) v = ap (eqb n v ||◌) (any_member ns v)

-- an answer after which nothing is set has no name to flatten
pub unset_flat : (s : List ℕ) (b : Draft ℕ) (d : Sketch) (p : Answer ℕ Mark ℕ)
    → then p (λ n a. ok (draft_of s b d) a) ≡ flatly (then p (λ n a. ok (draft_of s b d) a))
unset_flat s b d (ok n a) = refl
unset_flat s b d (refused n m) = refl
