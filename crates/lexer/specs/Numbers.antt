-- The numbers of what the lexer answers, for every case: refusal, place and line, and a token's kind, start and stop. What an answer has not is 0.
use Rattle.std.specs.Prelude.{ℕ, List, length, Result, Ok, Err, ⊤}
use Rattle.refusal.specs.declared.Refusal.{Refusal}
use Rattle.refusal.specs.Table.{refused, done, no_token}
use Rattle.lexer.specs.declared.Lexed.{Lexed}
use Rattle.lexer.specs.Kinds.{number_of}

-- a text that the other calls may read is no refusal
abbrev pub screen_numbers : Result ⊤ Refusal → Refusal
screen_numbers (Ok clear) = refused done 0 0
screen_numbers (Err r) = r

pub record Numbers : Type 0 where
  pub refusal : ℕ
  pub place : ℕ
  pub line : ℕ
  pub kind : ℕ
  pub start : ℕ
  pub stop : ℕ

-- of a refusal
abbrev pub refused_as : Refusal → Numbers
refused_as r = record { refusal = r.number; place = r.place; line = r.line; kind = 0; start = 0; stop = 0 }

-- of what stands in the text, with the line that is told of it
abbrev pub stands_as : ℕ → ℕ → ℕ → ℕ → Numbers
stands_as line kind start stop = record { refusal = done; place = 0; line = line; kind = kind; start = start; stop = stop }

-- the end has no kind and stands at the text's length
abbrev pub end_as : List ℕ → ℕ → Numbers
end_as s line = stands_as line 0 (length s) (length s)

-- a byte that starts no token is refusal 3, with its place and line
abbrev pub bad_byte : ℕ → ℕ → Refusal
bad_byte place line = refused no_token place line

-- what is found next, each with its line
abbrev pub lex_numbers : List ℕ → Lexed → Numbers
lex_numbers s (Lexed.Found t) = stands_as t.line (number_of t.kind) t.start t.stop
lex_numbers s (Lexed.End n) = end_as s n
lex_numbers s (Lexed.Bad i n) = refused_as (bad_byte i n)
