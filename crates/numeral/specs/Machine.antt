-- Inner machinery, which nobody has to believe: the numeral read byte by byte, as the contracts of the inner functions cite it. That this is
-- what `numeral_of` says is proved.
use Rattle.std.specs.Prelude.{ℕ, zero, suc, ◌+◌, ◌-◌, ◌*◌, ◌^◌, Bool, false, cond, ◌&&◌, List, [], ◌∷◌, leb, eqb, Option, None}
use Rattle.numeral.specs.declared.Scaled.{Scaled}
use Rattle.numeral.specs.Numeral.{point, digit, bounded}

-- the greatest whole part that is read on: one above it passes the limit, whatever follows
abbrev pub most : ℕ
most = 10000000

-- x with one digit more
abbrev pub pushed : ℕ → ℕ → ℕ
pushed x b = x * 10 + (b - 48)

-- at the end of the bytes: x millionths, or no numeral where no digit was read
abbrev pub ended : Bool → Bool → ℕ → Option Scaled
ended negative empty x = cond empty None (bounded negative x)

-- past the sixth decimal of x millionths: `0` alone
abbrev pub zeros_of : Bool → ℕ → List ℕ → Option Scaled
zeros_of negative x [] = bounded negative x
zeros_of negative x (b ∷ s) = cond (eqb b 48) (zeros_of negative x s) None

-- past the point, after x millionths, where `room` more decimals count
abbrev pub decimals_of : Bool → Bool → ℕ → ℕ → List ℕ → Option Scaled
decimals_of negative empty room x [] = ended negative empty x
decimals_of negative empty zero x (b ∷ s) = zeros_of negative x (b ∷ s)
decimals_of negative empty (suc room) x (b ∷ s) =
    cond (digit b) (decimals_of negative false room (x + (b - 48) * 10 ^ room) s) None

-- before the point
abbrev pub whole_of : Bool → Bool → ℕ → List ℕ → Option Scaled
whole_of negative empty x [] = ended negative empty (x * 1000000)
whole_of negative empty x (b ∷ s) =
    cond (eqb b point) (decimals_of negative empty 6 (x * 1000000) s)
    (cond (digit b && leb (pushed x b) most) (whole_of negative false (pushed x b) s) None)
