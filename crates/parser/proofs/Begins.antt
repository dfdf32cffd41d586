-- Laws of the first word of a value: a value of a list begins with a word where the word by itself is a value, or is the first of two.
use Prim.Native.Nat.{ℕ, suc}
use mathlib.Core.Path.{◌≡◌, refl}
use mathlib.Core.Bool.{Bool, true, false, cond, not, ◌&&◌, ◌||◌, or-true}
use mathlib.Core.List.{List, [], ◌∷◌}
use native.Mathlib.Omega.{arith}
use borrow.Author.Tests.{ne_eqb}
use lib.Dec.{eqb}
use Rattle.word.specs.Codes.{place_of}
use Rattle.grammar.specs.Tokens.{Answer}
use Rattle.grammar.specs.Engine.{Draft, begins}
use Rattle.grammar.specs.Second.{goes_on}
use Rattle.grammar.specs.Reading.{Mark}
use Rattle.parser.specs.Drafts.{flatly}

pub alone_or_first : (n : ℕ) (l : List ℕ) (w : ℕ) → not (eqb (place_of (suc n) l w 0) 0) || goes_on l w ≡ begins l w
unfolding place_of goes_on begins
alone_or_first n [] w = refl
alone_or_first n (v ∷ []) w = refl
alone_or_first n (v ∷ u ∷ l) w = go (eqb v w) (eqb u 0) (alone_or_first (suc n) l w)
  where
    go : (c d : Bool) → not (eqb (place_of (suc (suc n)) l w 0) 0) || goes_on l w ≡ begins l w
        → not (eqb (cond (c && d) (suc n) (place_of (suc (suc n)) l w 0)) 0) || ((c && not d) || goes_on l w) ≡ c || begins l w
    go true true h = rw (ne_eqb (suc n) 0 (λ e. omega (arith, e)))
    go true false h = or-true (not (eqb (place_of (suc (suc n)) l w 0) 0))
    go false d h = h

-- an answer by a test, with its name by the place of its first byte
pub flatly_either : (c : Bool) (p q : Answer ℕ Mark (Draft ℕ)) → flatly (cond c p q) ≡ cond c (flatly p) (flatly q)
flatly_either true p q = refl
flatly_either false p q = refl
