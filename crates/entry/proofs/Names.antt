-- The comparison of slices that the library makes is that of the definition: byte by byte.
use Prim.Native.Nat.{ℕ}
use mathlib.Core.Path.{◌≡◌, refl}
use mathlib.Core.List.{List, [], ◌∷◌}
use lib.Dec.{eqb}
use Rattle.std.specs.Cmp.Lexicographic.{pointwise}
use Rattle.entry.specs.Order.{alike}

-- names that are equal byte by byte are alike
pub alike_pointwise : (a b : List ℕ) → pointwise eqb a b ≡ alike a b
unfolding alike
alike_pointwise [] [] = refl
alike_pointwise [] (c ∷ b) = refl
alike_pointwise (d ∷ a) [] = refl
alike_pointwise (d ∷ a) (c ∷ b) = rw (alike_pointwise a b)
