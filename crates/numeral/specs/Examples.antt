-- Worked examples, which antt computes.
use Rattle.std.specs.Prelude.{◌≡◌, refl, true, false, Some, None}
use Rattle.numeral.specs.Numeral.{scaled, numeral_of}
use Rattle.numeral.specs.Shortest.{shortest, natural, fraction}
use Rattle.numeral.specs.Stored.{stored_of, value_of}
use Rattle.numeral.specs.Numbers.{value_numbers}
use Rattle.text.specs.Text.{bytes}

-- ---- taken
greatest : numeral_of (bytes "10000000") ≡ Some (scaled false 10000000000000)
greatest = refl

no_decimals : numeral_of (bytes "5.") ≡ Some (scaled false 5000000)
no_decimals = refl

no_whole : numeral_of (bytes "-.5") ≡ Some (scaled true 500000)
no_whole = refl

zeros_around : numeral_of (bytes "007.50") ≡ Some (scaled false 7500000)
zeros_around = refl

minus_nought : numeral_of (bytes "-0") ≡ Some (scaled false 0)
minus_nought = refl

zero_past_sixth : numeral_of (bytes "0.0000010") ≡ Some (scaled false 1)
zero_past_sixth = refl

-- ---- refused
past_greatest : numeral_of (bytes "10000000.000001") ≡ None
past_greatest = refl

no_whole_millionth : numeral_of (bytes "0.0000001") ≡ None
no_whole_millionth = refl

nothing : numeral_of (bytes "") ≡ None
nothing = refl

minus_alone : numeral_of (bytes "-") ≡ None
minus_alone = refl

no_digit : numeral_of (bytes "-.") ≡ None
no_digit = refl

two_points : numeral_of (bytes "1.2.3") ≡ None
two_points = refl

letter : numeral_of (bytes "1e3") ≡ None
letter = refl

inner_minus : numeral_of (bytes "1-2") ≡ None
inner_minus = refl

-- ---- the shortest numeral
half_more : shortest false 1500000 ≡ bytes "1.5"
unfolding shortest natural fraction
half_more = refl

nought : shortest false 0 ≡ bytes "0"
unfolding shortest natural fraction
nought = refl

below_one : shortest true 500000 ≡ bytes "-0.5"
unfolding shortest natural fraction
below_one = refl

version : shortest false 5800000 ≡ bytes "5.8"
unfolding shortest natural fraction
version = refl

lowest : shortest true 10000000000000 ≡ bytes "-10000000"
unfolding shortest natural fraction
lowest = refl

-- ---- the stored word
minus_one : stored_of true 1 ≡ 0xffff_ffff_ffff_ffff
minus_one = refl

back : value_of 0xffff_ffff_ffff_ffff ≡ scaled true 1
back = refl

-- ---- the numbers of a value
minus_half : value_numbers (numeral_of (bytes "-.5")) ≡ record { refusal = 0; negative = 1; millionths = 500000 }
minus_half = refl

no_numeral : value_numbers (numeral_of (bytes "1e3")) ≡ record { refusal = 9; negative = 0; millionths = 0 }
no_numeral = refl
