-- What things weigh together does not depend on their order, and no front of a list weighs more than the list.
use Prim.Native.Nat.{ℕ, zero, suc, ◌+◌, ◌≤◌, ◌<◌}
use native.Mathlib.Nat.{le_of_suc-le-suc, not-suc-le-zero}
use native.Mathlib.Omega.{arith}
use mathlib.Core.Path.{◌≡◌, refl, ap, ◌∙◌}
use mathlib.Core.List.{List, [], ◌∷◌, ◌++◌, Permᴰ}
use lib.ListN.{length, get_or}
use Rattle.ordered.specs.Counted.{total, total_to}

module _ {A : Type 0} (weight : A → ℕ) where
  pub total_perm : {k l : List A} → Permᴰ k l → total weight k ≡ total weight l
  unfolding total
  total_perm Permᴰ.nil = refl
  total_perm (Permᴰ.cons e d) = omega (arith, ap weight e, total_perm d)
  total_perm (Permᴰ.swap {a} {b} p q) = omega (arith, ap weight p, ap weight q)
  total_perm (Permᴰ.trans d e) = total_perm d ∙ total_perm e

  -- one thing more at the end
  pub total_more : (l : List A) (a : A) → total weight (l ++ a ∷ []) ≡ total weight l + weight a
  unfolding total
  total_more [] a = omega arith
  total_more (b ∷ l) a = omega (arith, total_more l a)

  pub total_none : total weight [] ≡ 0
  unfolding total
  total_none = refl

  pub total_first : (a : A) (l : List A) → total weight (a ∷ l) ≡ weight a + total weight l
  unfolding total
  total_first a l = refl

  -- the first n, and one more
  pub weighs_none : (f : ℕ → A) → total_to weight f 0 ≡ 0
  unfolding total_to
  weighs_none f = refl

  pub weighs_more : (f : ℕ → A) (n : ℕ) → total_to weight f (n + 1) ≡ total_to weight f n + weight (f n)
  unfolding total_to
  weighs_more f n = let z : n + 1 ≡ suc n = omega arith in ap (total_to weight f) z

  pub weighs_same : (f g : ℕ → A) (n : ℕ) → ((k : ℕ) → k < n → f k ≡ g k) → total_to weight f n ≡ total_to weight g n
  unfolding total_to
  weighs_same f g zero h = refl
  weighs_same f g (suc n) h = omega (arith, weighs_same f g n (λ k p. h k (omega arith)), ap weight (h n (omega arith)))

  -- the first of all, and those behind it
  weighs_first : (f : ℕ → A) (n : ℕ) → total_to weight f (suc n) ≡ weight (f 0) + total_to weight (λ i. f (suc i)) n
  unfolding total_to
  weighs_first f zero = omega arith
  weighs_first f (suc n) = omega (arith, weighs_first f n)

  pub weighs_least : (d : A) (l : List A) (n : ℕ) → n ≤ length l → total_to weight (λ i. get_or l i d) n ≤ total weight l
  unfolding total
  weighs_least d l zero h = omega (arith, weighs_none (λ i. get_or l i d))
  weighs_least d [] (suc n) h = absurd (not-suc-le-zero h)
  weighs_least d (a ∷ l) (suc n) h = omega (arith, weighs_first (λ i. get_or (a ∷ l) i d) n, weighs_least d l n (le_of_suc-le-suc h))
