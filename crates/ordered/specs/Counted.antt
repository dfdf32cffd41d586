-- Inner machinery, which nobody has to believe: how many things of a list do not come after one, and what things weigh together.
use Rattle.std.specs.Prelude.{ℕ, zero, suc, ◌+◌, Bool, cond, List, [], ◌∷◌}

unfoldable pub up_to : {A : Type 0} → (A → A → Bool) → A → List A → ℕ
up_to before a [] = 0
up_to before a (b ∷ l) = cond (before a b) (up_to before a l) (suc (up_to before a l))

-- the weights of a list's things, and those of the first n
unfoldable pub total : {A : Type 0} → (A → ℕ) → List A → ℕ
total weight [] = 0
total weight (a ∷ l) = weight a + total weight l

unfoldable pub total_to : {A : Type 0} → (A → ℕ) → (ℕ → A) → ℕ → ℕ
total_to weight f zero = 0
total_to weight f (suc n) = total_to weight f n + weight (f n)
