-- The laws of the run that bytes make and of the class of a first byte: each by recursion or by its tests.
use Prim.Native.Nat.{ℕ, zero, suc, ◌+◌, ◌≤◌, ◌<◌}
use mathlib.Core.Path.{◌≡◌, refl, ap}
use mathlib.Core.Bool.{Bool, true, false, cond, ◌&&◌, ◌||◌}
use mathlib.Core.List.{List, [], ◌∷◌, ◌++◌}
use native.Mathlib.Nat.{zero-add}
use native.Mathlib.Omega.{arith}
use borrow.Author.Tests.{leb-true, eqb-true, le-leb, lt-leb, ne_eqb}
use lib.Dec.{leb, eqb}
use lib.ListN.{length, take}
use Rattle.lexer.specs.declared.scan.Class.TheVariants.{Letter, Digit}
use Rattle.lexer.specs.Bytes.{class_of, is_letter, is_digit}
use Rattle.lexer.specs.Run.{run}
use Rattle.word.proofs.Words.{both}
use Rattle.render.specs.Spelt.{all}

-- ---- runs
module _ (p : ℕ → Bool) where
  -- a run goes on over bytes that satisfy its predicate
  pub run_over : (s l : List ℕ) → all p s ≡ true → run p (s ++ l) ≡ length s + run p l
  unfolding all run
  run_over [] l e = rw zero-add
  run_over (b ∷ s) l e =
      let (x, y) = both (p b) (all p s) e in
      rw x (omega (arith, run_over s l y))

  -- a run that ends before the bytes do ends there whatever follows
  pub run_short : (s l : List ℕ) → run p s < length s → run p (s ++ l) ≡ run p s
  unfolding run
  run_short [] l h = absurd (omega arith)
  run_short (b ∷ s) l h = go (p b) h (run_short s l)
    where
      go : (t : Bool) → cond t (suc (run p s)) 0 < suc (length s) → (run p s < length s → run p (s ++ l) ≡ run p s)
          → cond t (suc (run p (s ++ l))) 0 ≡ cond t (suc (run p s)) 0
      go true h ih = ap suc (ih (omega arith))
      go false h ih = refl

  -- the bytes of a run, or fewer, satisfy its predicate
  pub run_holds : (n : ℕ) (s : List ℕ) → n ≤ run p s → all p (take n s) ≡ true
  unfolding all run
  run_holds zero s h = refl
  run_holds (suc n) [] h = refl
  run_holds (suc n) (b ∷ s) h = go (p b) refl h (run_holds n s)
    where
      go : (t : Bool) → p b ≡ t → suc n ≤ cond t (suc (run p s)) 0 → (n ≤ run p s → all p (take n s) ≡ true) → p b && all p (take n s) ≡ true
      go true e h ih = rw (e, ih (omega arith))
      go false e h ih = absurd (omega arith)

-- ---- classes
pub letter_class : (b : ℕ) → is_letter b ≡ true → class_of b ≡ Letter
unfolding class_of
letter_class b e = rw e

pub digit_class : (b : ℕ) → is_digit b || eqb b 45 ≡ true → class_of b ≡ Digit
unfolding class_of
digit_class b e =
    let (lo, hi) = bounds (is_digit b) refl e in
    simp (lt-leb 97 b (omega arith), lt-leb 65 b (omega arith), ne_eqb b 32 (omega arith), ne_eqb b 9 (omega arith), le-leb 11 b (omega arith), lt-leb b 13 (omega arith), e)
  where
    bounds : (t : Bool) → is_digit b ≡ t → t || eqb b 45 ≡ true → (45 ≤ b) × (b ≤ 57)
    bounds true q e =
        let (x, y) = both (leb 48 b) (leb b 57) q in
        let lo = leb-true 48 b x in
        (omega arith, leb-true b 57 y)
    bounds false q e = let h = eqb-true b 45 e in (omega arith, omega arith)
