-- Inner machinery, which nobody has to believe: how far two names go together.
use Rattle.std.specs.Prelude.{ℕ, suc, cond, List, [], ◌∷◌, eqb}

-- how many bytes from the front on two names have in common
unfoldable pub common : List ℕ → List ℕ → ℕ
common [] b = 0
common (d ∷ a) [] = 0
common (d ∷ a) (c ∷ b) = cond (eqb d c) (suc (common a b)) 0
