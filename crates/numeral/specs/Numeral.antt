-- What a numeral says. Optional minus, digits with at most one point, at least one digit: the answer is a million times the
-- exact value, where that is a whole number whose magnitude does not pass `limit`.
use Rattle.std.specs.Prelude.{ℕ, ◌-◌, ◌+◌, ◌*◌, ◌/◌, ◌%◌, ◌^◌, ◌≤◌, ◌≡◌, Bool, true, false, cond, ◌&&◌, List, [], ◌∷◌, ◌++◌, length, leb, ltb, eqb, Option, Some, None}
use Rattle.numeral.specs.declared.Scaled.{Scaled}

-- the greatest magnitude, in millionths
abbrev pub limit : ℕ
limit = 10000000000000

-- the bytes `-` and `.`
abbrev pub minus : ℕ
minus = 45

abbrev pub point : ℕ
point = 46

-- the bytes `0`, which is 48, to `9`
abbrev pub digit : ℕ → Bool
digit b = leb 48 b && leb b 57

abbrev pub all_digits : List ℕ → Bool
all_digits [] = true
all_digits (b ∷ s) = digit b && all_digits s

-- the bytes before the first point, or all where there is none
abbrev pub before : List ℕ → List ℕ
before [] = []
before (b ∷ s) = cond (eqb b point) [] (b ∷ before s)

-- the bytes after the first point, or none: a second point is among them
abbrev pub after : List ℕ → List ℕ
after [] = []
after (b ∷ s) = cond (eqb b point) s (after s)

-- the whole number that digits spell: each counts ten times for each digit after it
abbrev pub value : List ℕ → ℕ
value [] = 0
value (b ∷ s) = (b - 48) * 10 ^ length s + value s

-- a million times value digits / 10 ^ places, rounded down
abbrev pub millionths : List ℕ → ℕ → ℕ
millionths digits places = value digits * 1000000 / 10 ^ places

-- whether that is exact: there is no remainder
abbrev pub exact : List ℕ → ℕ → Bool
exact digits places = eqb (value digits * 1000000 % 10 ^ places) 0

-- a number of millionths
abbrev pub scaled : Bool → ℕ → Scaled
scaled negative m = record { negative = negative; millionths = m }

-- minus nought is 0
abbrev pub signed : Bool → ℕ → Scaled
signed negative m = cond (eqb m 0) (scaled false 0) (scaled negative m)

-- a magnitude that passes the limit is refused
abbrev pub bounded : Bool → ℕ → Option Scaled
bounded negative m = cond (leb m limit) (Some (signed negative m)) None

-- what digits say of which the last `places` are decimals: at least one, nothing but digits, a whole number of millionths
abbrev pub spelt : Bool → List ℕ → ℕ → Option Scaled
spelt negative digits places =
    cond (all_digits digits && (ltb 0 (length digits) && exact digits places)) (bounded negative (millionths digits places)) None

-- a numeral but for its minus
abbrev pub unsigned_of : Bool → List ℕ → Option Scaled
unsigned_of negative s = spelt negative (before s ++ after s) (length (after s))

-- what a byte string says as a numeral
abbrev pub numeral_of : List ℕ → Option Scaled
numeral_of [] = None
numeral_of (b ∷ s) = cond (eqb b minus) (unsigned_of true s) (unsigned_of false (b ∷ s))

-- what a numeral can say: a magnitude within the limit, and not minus nought
abbrev pub Good : Scaled → Type 0
Good v = (v.millionths ≤ limit) × (v.millionths ≡ 0 → v.negative ≡ false)
