-- How far two names go together decides which is ahead and whether they are alike: the bytes there, or which of the names ends there.
use Prim.Native.Nat.{ℕ, zero, suc, ◌≤◌, ◌<◌}
use mathlib.Core.Path.{◌≡◌, refl}
use mathlib.Core.Bool.{Bool, true, false, cond, ◌&&◌, ◌||◌, or-false}
use mathlib.Core.List.{List, [], ◌∷◌}
use borrow.Author.Tests.{eqb-true, eqb-false, le-ltb, eq-eqb, ne_eqb}
use native.Mathlib.Omega.{arith}
use lib.Dec.{eqb, ltb}
use lib.ListN.{length, get_or}
use Rattle.entry.specs.Order.{ahead, alike}
use Rattle.entry.specs.Common.{common}

-- where names go together to an index, and one ends there or their bytes there differ, they have so many bytes in common
pub meets : (a b : List ℕ) (i : ℕ) → i ≤ length a → i ≤ length b → ((k : ℕ) → k < i → get_or a k 0 ≡ get_or b k 0)
    → (i < length a → i < length b → get_or a i 0 ≡ get_or b i 0 → ⊥) → i ≡ common a b
unfolding common
meets [] b i p q h f = omega arith
meets (d ∷ a) [] i p q h f = omega arith
meets (d ∷ a) (c ∷ b) zero p q h f = rw (ne_eqb d c (f (omega arith) (omega arith)))
meets (d ∷ a) (c ∷ b) (suc i) p q h f =
    let rest : i ≡ common a b = meets a b i (omega arith) (omega arith) (λ k l. h (suc k) (omega arith)) (λ l m. f (omega arith) (omega arith)) in
    rw (eq-eqb d c (h 0 (omega arith)), ← rest)

pub common_left : (a b : List ℕ) → common a b ≤ length a
unfolding common
common_left [] b = omega arith
common_left (d ∷ a) [] = omega arith
common_left (d ∷ a) (c ∷ b) = go (eqb d c) (common_left a b)
  where
    go : (t : Bool) → common a b ≤ length a → cond t (suc (common a b)) 0 ≤ suc (length a)
    go true l = omega arith
    go false l = omega arith

pub common_right : (a b : List ℕ) → common a b ≤ length b
unfolding common
common_right [] b = omega arith
common_right (d ∷ a) [] = omega arith
common_right (d ∷ a) (c ∷ b) = go (eqb d c) (common_right a b)
  where
    go : (t : Bool) → common a b ≤ length b → cond t (suc (common a b)) 0 ≤ suc (length b)
    go true l = omega arith
    go false l = omega arith

-- names that both go on there: their bytes there decide
pub ahead_there : (a b : List ℕ) → common a b < length a → common a b < length b → ahead a b ≡ ltb (get_or a (common a b) 0) (get_or b (common a b) 0)
unfolding common ahead
ahead_there [] b h k = absurd (omega arith)
ahead_there (d ∷ a) [] h k = absurd (omega arith)
ahead_there (d ∷ a) (c ∷ b) h k = go (eqb d c) refl h k (ahead_there a b)
  where
    go : (t : Bool) → eqb d c ≡ t → cond t (suc (common a b)) 0 < suc (length a) → cond t (suc (common a b)) 0 < suc (length b)
        → (common a b < length a → common a b < length b → ahead a b ≡ ltb (get_or a (common a b) 0) (get_or b (common a b) 0))
        → (ltb d c || (t && ahead a b)) ≡ ltb (get_or (d ∷ a) (cond t (suc (common a b)) 0) 0) (get_or (c ∷ b) (cond t (suc (common a b)) 0) 0)
    go true e l m f = rw (le-ltb d c (omega (arith, eqb-true d c e))) (f (omega arith) (omega arith))
    go false e l m f = or-false (ltb d c)

-- a name that ends there is ahead of one that goes on
pub ahead_longer : (a b : List ℕ) → common a b ≡ length a → common a b < length b → ahead a b ≡ true
unfolding common ahead
ahead_longer [] [] h k = absurd (omega arith)
ahead_longer [] (c ∷ b) h k = refl
ahead_longer (d ∷ a) [] h k = absurd (omega arith)
ahead_longer (d ∷ a) (c ∷ b) h k = go (eqb d c) refl h k (ahead_longer a b)
  where
    go : (t : Bool) → eqb d c ≡ t → cond t (suc (common a b)) 0 ≡ suc (length a) → cond t (suc (common a b)) 0 < suc (length b)
        → (common a b ≡ length a → common a b < length b → ahead a b ≡ true) → (ltb d c || (t && ahead a b)) ≡ true
    go true e l m f = rw (le-ltb d c (omega (arith, eqb-true d c e))) (f (omega arith) (omega arith))
    go false e l m f = absurd (omega arith)

-- and none is ahead of a name that ends there
pub ahead_shorter : (a b : List ℕ) → common a b ≡ length b → ahead a b ≡ false
unfolding common ahead
ahead_shorter a [] h = refl
ahead_shorter [] (c ∷ b) h = absurd (omega arith)
ahead_shorter (d ∷ a) (c ∷ b) h = go (eqb d c) refl h (ahead_shorter a b)
  where
    go : (t : Bool) → eqb d c ≡ t → cond t (suc (common a b)) 0 ≡ suc (length b) → (common a b ≡ length b → ahead a b ≡ false) → (ltb d c || (t && ahead a b)) ≡ false
    go true e l f = rw (le-ltb d c (omega (arith, eqb-true d c e))) (f (omega arith))
    go false e l f = absurd (omega arith)

-- names that both end there are alike
pub alike_ended : (a b : List ℕ) → common a b ≡ length a → common a b ≡ length b → alike a b ≡ true
unfolding common alike
alike_ended [] [] h k = refl
alike_ended [] (c ∷ b) h k = absurd (omega arith)
alike_ended (d ∷ a) [] h k = absurd (omega arith)
alike_ended (d ∷ a) (c ∷ b) h k = go (eqb d c) h k (alike_ended a b)
  where
    go : (t : Bool) → cond t (suc (common a b)) 0 ≡ suc (length a) → cond t (suc (common a b)) 0 ≡ suc (length b)
        → (common a b ≡ length a → common a b ≡ length b → alike a b ≡ true) → (t && alike a b) ≡ true
    go true l m f = f (omega arith) (omega arith)
    go false l m f = absurd (omega arith)

-- and names of which one goes on are not
pub alike_left : (a b : List ℕ) → common a b < length a → alike a b ≡ false
unfolding common alike
alike_left [] b h = absurd (omega arith)
alike_left (d ∷ a) [] h = refl
alike_left (d ∷ a) (c ∷ b) h = go (eqb d c) h (alike_left a b)
  where
    go : (t : Bool) → cond t (suc (common a b)) 0 < suc (length a) → (common a b < length a → alike a b ≡ false) → (t && alike a b) ≡ false
    go true l f = f (omega arith)
    go false l f = refl
