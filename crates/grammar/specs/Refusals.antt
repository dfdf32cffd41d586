-- What the theorems say of a refusal of a reading: where it is placed and on which line.
use Rattle.std.specs.Prelude.{ℕ, ◌+◌, ◌≤◌, ◌≡◌, ◌⊎◌, length}
use mathlib.Core.List.{List, Memᴰ}
use Rattle.lexer.specs.declared.Token.{Token}
use Rattle.lexer.specs.declared.Lexed.TheVariants.{Found, Bad}
use Rattle.lexer.specs.Lex.{from}
use Rattle.lexer.specs.Lines.{outside}

-- the line of a place: 1 plus the newlines outside quotes up to there
abbrev pub line_at : List ℕ → ℕ → ℕ
line_at s p = 1 + outside s (from s 0 1) 0 p

-- one of the text's tokens ends at the place
abbrev pub TokenEnds : List ℕ → ℕ → Type 0
TokenEnds s p = (t : Token) × Memᴰ (Found t) (from s 0 1) × (p ≡ t.stop)

-- after the text's tokens comes the byte at the place, which starts no token
abbrev pub NoToken : List ℕ → ℕ → Type 0
NoToken s p = (l : ℕ) × Memᴰ (Bad p l) (from s 0 1)

-- the place of refusal n, for 3 to 10: 3 stands at the byte that starts no token, the others at the end of a token or of the text
pub record Placed (s : List ℕ) (n p : ℕ) : Type 0 where
  pub three : n ≡ 3 → NoToken s p
  pub others : 4 ≤ n → TokenEnds s p ⊎ (p ≡ length s)
