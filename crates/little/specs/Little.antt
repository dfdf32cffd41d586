-- Numbers as bytes, low byte first, and which lists are bytes.
use Rattle.std.specs.Prelude.{ℕ, zero, suc, ◌+◌, ◌*◌, ◌/◌, ◌%◌, ◌<◌, List, [], ◌∷◌, get_or}

-- the n low bytes of v, the lowest first
unfoldable pub little : ℕ → ℕ → List ℕ
little zero v = []
little (suc n) v = (v % 256) ∷ little n (v / 256)

-- the number that bytes give, the lowest first
unfoldable pub number : List ℕ → ℕ
number [] = 0
number (b ∷ bs) = b + 256 * number bs

-- each element is a byte
abbrev pub Bytes : List ℕ → Type 0
Bytes l = (i : ℕ) → get_or l i 0 < 256
