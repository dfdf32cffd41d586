-- Bytes in hexadecimal.
use Rattle.std.specs.Prelude.{ℕ, ◌+◌, ◌-◌, ◌*◌, cond, ◌&&◌, List, [], ◌∷◌, leb}

-- '0' to '9' and 'a' to 'f'; any other byte counts as nought
abbrev pub digit : ℕ → ℕ
digit b = cond (leb 48 b && leb b 57) (b - 48) (cond (leb 97 b && leb b 102) (b - 97 + 10) 0)

-- the byte that two digits stand for, the higher first
abbrev pub pair : ℕ → ℕ → ℕ
pair h l = 16 * digit h + digit l

-- a byte for every two digits; a digit left over at the end stands for none
unfoldable pub pairs : List ℕ → List ℕ
pairs [] = []
pairs (h ∷ []) = []
pairs (h ∷ l ∷ s) = pair h l ∷ pairs s
