-- Texts that are written so that they can be read.
use Rattle.std.specs.Prelude.{ℕ, cond, List, [], ◌∷◌, eqb}
use Rattle.vectors.specs.Hex.{pair}

-- the bytes that a written text stands for: `\` and two digits are one byte in hexadecimal, and any other byte stands for itself, as does
-- a `\` with fewer than two bytes after it
unfoldable pub meant : List ℕ → List ℕ
meant [] = []
meant (b ∷ []) = b ∷ []
meant (b ∷ h ∷ []) = b ∷ h ∷ []
meant (b ∷ h ∷ l ∷ s) = cond (eqb b 92) (pair h l ∷ meant s) (b ∷ meant (h ∷ l ∷ s))
