-- The kinds of tokens, by number.
use Rattle.std.specs.Prelude.{ℕ}
use Rattle.lexer.specs.declared.Kind.{Kind}

abbrev pub name : ℕ
name = 1

abbrev pub number : ℕ
number = 2

abbrev pub semicolon : ℕ
semicolon = 3

abbrev pub string_literal : ℕ
string_literal = 4

-- the end of the text has none of these numbers
abbrev pub number_of : Kind → ℕ
number_of Kind.End = 0
number_of Kind.Name = name
number_of Kind.Number = number
number_of Kind.SemiColon = semicolon
number_of Kind.StringLiteral = string_literal
