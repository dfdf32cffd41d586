-- The shortest numeral of a number of millionths: no zero in front but the one before a point, no trailing zeros or point.
use Rattle.std.specs.Prelude.{ℕ, zero, suc, ◌+◌, ◌/◌, ◌%◌, ◌^◌, Bool, cond, ◌&&◌, not, List, [], ◌∷◌, ◌++◌, ltb, eqb}
use Rattle.numeral.specs.Numeral.{minus, point}

-- the digits of n with no zero in front, and `0` for 0: its last k + 1 at most
unfoldable pub natural : ℕ → ℕ → List ℕ
natural zero n = (48 + n % 10) ∷ []
natural (suc k) n = cond (ltb n 10) ((48 + n) ∷ []) (natural k (n / 10) ++ ((48 + n % 10) ∷ []))

-- the decimals of f / 10 ^ k, until nothing is left
unfoldable pub fraction : ℕ → ℕ → List ℕ
fraction zero f = []
fraction (suc k) f = cond (eqb f 0) [] ((48 + f / 10 ^ k) ∷ fraction k (f % 10 ^ k))

-- decimals with the point before them, where there are any
abbrev pub pointed : List ℕ → List ℕ
pointed [] = []
pointed (b ∷ s) = point ∷ b ∷ s

-- minus nought is not below nought
abbrev pub below_nought : Bool → ℕ → Bool
below_nought negative m = negative && not (eqb m 0)

-- a minus where the number is below nought
abbrev pub sign : Bool → ℕ → List ℕ
sign negative m = cond (below_nought negative m) (minus ∷ []) []

-- 20 digits hold every number of 64 bits
unfoldable pub shortest : Bool → ℕ → List ℕ
shortest negative m = sign negative m ++ (natural 19 (m / 1000000) ++ pointed (fraction 6 (m % 1000000)))
