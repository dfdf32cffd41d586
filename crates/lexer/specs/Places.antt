-- Where the answers of a text stand.
use Rattle.std.specs.Prelude.{ℕ, ◌≤◌, ◌<◌, List, length}
use Rattle.lexer.specs.declared.Lexed.{Lexed}
use Rattle.lexer.specs.declared.Lexed.TheVariants.{Found, End, Bad}

-- the place of an answer: a token's first byte, the end of the text, the bad byte
abbrev pub place_of : List ℕ → Lexed → ℕ
place_of s (Found t) = t.start
place_of s (End n) = length s
place_of s (Bad i n) = i

-- the line of an answer
abbrev pub line_of : Lexed → ℕ
line_of (Found t) = t.line
line_of (End n) = n
line_of (Bad i n) = n

-- a token has at least one byte, and it and a bad byte lie within the text and not before the place `at`
pub record Span (s : List ℕ) (at start stop : ℕ) : Type 0 where
  pub after : at ≤ start
  pub some : start < stop
  pub inside : stop ≤ length s

abbrev pub Within : List ℕ → ℕ → Lexed → Type 0
Within s at (Found t) = Span s at t.start t.stop
Within s at (End n) = Unit {0}
Within s at (Bad i n) = (at ≤ i) × (i < length s)
