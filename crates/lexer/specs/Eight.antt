-- Eight bytes as one number, and marks on them. Machinery of the proofs: no definition of the answers rests on it.
use Rattle.std.specs.Prelude.{ℕ, ◌+◌, ◌-◌, ◌*◌, ◌<◌, ◌≡◌, Bool, cond, ◌||◌, List, [], ◌∷◌, eqb, length}
use Rattle.std.specs.Int.Bits.{bit_and, bit_or, bit_xor}

-- what f makes of each byte of a list, as one number with a digit for each byte, the first of them lowest
unfoldable pub each : (ℕ → ℕ) → List ℕ → ℕ
each f [] = 0
each f (b ∷ l) = each f l * 256 + f b

-- the byte as it is
abbrev pub plain : ℕ → ℕ
plain b = b

-- the top bit of a byte that does not satisfy p
abbrev pub mark : (ℕ → Bool) → ℕ → ℕ
mark p b = cond (p b) 0 128

-- every element is a byte
abbrev pub Bytes : List ℕ → Type 0
Bytes [] = Unit {0}
Bytes (b ∷ l) = (b < 256) × Bytes l

-- w is the eight bytes of the list
pub record Packed (l : List ℕ) (w : ℕ) : Type 0 where
  pub long : length l ≡ 8
  pub bytes : Bytes l
  pub packs : w ≡ each plain l

-- r has a mark at each of the eight bytes of w that does not satisfy p
abbrev pub Marks : (ℕ → Bool) → ℕ → ℕ → Type 0
Marks p w r = (l : List ℕ) → Packed l w → r ≡ each (mark p) l

-- what `others` of src/eight.rt makes of one byte
abbrev pub other : ℕ → ℕ → ℕ → ℕ → ℕ
other one first last b =
    bit_and (bit_or (bit_and (bit_xor (bit_and b 127) one + 127) (bit_or (255 - (bit_and b 127 + (128 - first))) (bit_and b 127 + (127 - last)))) b) 128

-- the one byte that is passed over eight at a time behind a newline
abbrev pub is_blank : ℕ → Bool
is_blank b = eqb b 32

-- the bytes that the lexer looks near behind
abbrev pub is_gap : ℕ → Bool
is_gap b = eqb b 32 || eqb b 10
