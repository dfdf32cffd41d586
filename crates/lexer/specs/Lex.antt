-- The answers of a text: its tokens, and then its end or the first byte that starts no token.
use Rattle.std.specs.Prelude.{ℕ, zero, suc, ◌+◌, ◌-◌, ◌^◌, min, List, [], ◌∷◌, length, drop}
use Rattle.lexer.specs.declared.scan.Class.TheVariants.{Letter, Space, Digit, SemiColon, NewLine, Quote, Hash, Other}
use Rattle.lexer.specs.declared.Lexed.{Lexed}
use Rattle.lexer.specs.declared.Lexed.TheVariants.{Found, End, Bad}
use Rattle.lexer.specs.Bytes.{class_of, in_name, in_number, in_string, in_comment}
use Rattle.lexer.specs.Run.{run}
use Rattle.lexer.specs.declared.Kind.{Kind}

-- the largest line number
abbrev pub last_line : ℕ
last_line = 2 ^ 64 - 1

-- the next line's number: one more, and the largest stays
abbrev pub next_line : ℕ → ℕ
next_line n = min (n + 1) last_line

abbrev pub token : Kind → ℕ → ℕ → ℕ → Lexed
token k a e n = Found (record { start = a; stop = e; line = n; kind = k })

-- The answers of the text l, whose first byte has the place `at` and the line n, and whose first m bytes are passed over.
-- What a letter, a digit or minus, a quote or a '#' starts takes the run after it with it, and a string literal the quote that ends it.
unfoldable pub answers : ℕ → List ℕ → ℕ → ℕ → List Lexed
answers m [] at n = End n ∷ []
answers (suc m) (b ∷ l) at n = answers m l (at + 1) n
answers zero (b ∷ l) at n = elim (class_of b) [
  | Letter ↦ token Kind.Name at (at + 1 + run in_name l) n ∷ answers (run in_name l) l (at + 1) n
  | Space ↦ answers 0 l (at + 1) n
  | Digit ↦ token Kind.Number at (at + 1 + run in_number l) n ∷ answers (run in_number l) l (at + 1) n
  | SemiColon ↦ token Kind.SemiColon at (at + 1) n ∷ answers 0 l (at + 1) n
  | NewLine ↦ answers 0 l (at + 1) (next_line n)
  | Quote ↦ token Kind.StringLiteral at (at + 1 + min (run in_string l + 1) (length l)) n ∷ answers (min (run in_string l + 1) (length l)) l (at + 1) n
  | Hash ↦ answers (run in_comment l) l (at + 1) n
  | Other ↦ Bad at n ∷ []
]

-- the answers of s from the place `at` and the line n on
unfoldable pub from : List ℕ → ℕ → ℕ → List Lexed
from s at n = answers 0 (drop at s) at n

-- the first of a list of answers, which always has one
unfoldable pub first_answer : List Lexed → Lexed
first_answer [] = End 0
first_answer (r ∷ rs) = r

-- the first answer of s from the place `at` and the line n on
abbrev pub lex_from : List ℕ → ℕ → ℕ → Lexed
lex_from s at n = first_answer (from s at n)

-- the answers that follow an answer: from the token's end on, and none after the end or a bad byte
abbrev pub rest : List ℕ → Lexed → List Lexed
rest s (Found t) = from s t.stop t.line
rest s (End n) = []
rest s (Bad at n) = []
