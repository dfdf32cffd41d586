-- The first token from a place, as a caller is told of it.
use Rattle.std.specs.Prelude.{ℕ, List, Result, Ok, Err, Option, Some, None}
use Rattle.refusal.specs.declared.Refusal.{Refusal}
use Rattle.lexer.specs.declared.Token.{Token}
use Rattle.lexer.specs.declared.Lexed.{Lexed}
use Rattle.lexer.specs.Kinds.{number_of}
use Rattle.lexer.specs.Lex.{lex_from}
use Rattle.lexer.specs.Screen.{screened}
use Rattle.lexer.specs.Numbers.{Numbers, refused_as, stands_as, end_as, bad_byte}

-- a byte that starts no token is refused
abbrev pub told : Lexed → Result (Option Token) Refusal
told (Lexed.Found t) = Ok (Some t)
told (Lexed.End n) = Ok None
told (Lexed.Bad i n) = Err (bad_byte i n)

-- refusals 1 and 2 come first; then the text is lexed afresh from the place, lines counted from 1 there
unfoldable pub first_token : List ℕ → ℕ → Result (Option Token) Refusal
first_token s place = elim (screened s) [
  | Ok done ↦ told (lex_from s place 1)
  | Err r ↦ Err r
]

-- the numbers of an answer: here the line is a refusal's alone
abbrev pub numbers : List ℕ → Result (Option Token) Refusal → Numbers
numbers s (Ok (Some t)) = stands_as 0 (number_of t.kind) t.start t.stop
numbers s (Ok None) = end_as s 0
numbers s (Err r) = refused_as r
