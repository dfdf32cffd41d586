-- A value as a record stores it: a word of 64 bits, in two's complement.
use Rattle.std.specs.Prelude.{ℕ, ◌-◌, ◌^◌, ◌%◌, Bool, true, false, cond, ltb, ℤ, pos, neg_ℤ}
use Rattle.numeral.specs.declared.Scaled.{Scaled}
use Rattle.numeral.specs.Numeral.{scaled}

-- the whole number
abbrev pub integer_of : Bool → ℕ → ℤ
integer_of negative m = cond negative (neg_ℤ (pos m)) (pos m)

-- its word: the number modulo 2 ^ 64, for a magnitude of 64 bits
abbrev pub stored_of : Bool → ℕ → ℕ
stored_of negative m = cond negative ((2 ^ 64 - m) % 2 ^ 64) m

-- the value of a word
abbrev pub value_of : ℕ → Scaled
value_of word = cond (ltb word (2 ^ 63)) (scaled false word) (scaled true (2 ^ 64 - word))
