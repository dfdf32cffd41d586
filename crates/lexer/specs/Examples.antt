-- Worked examples: the answers of short texts, each by computation.
use Rattle.std.specs.Prelude.{◌≡◌, refl, [], ◌∷◌, Err}
use Rattle.refusal.specs.Table.{refused, no_token, not_ascii}
use Rattle.lexer.specs.declared.Lexed.TheVariants.{End, Bad}
use Rattle.text.specs.Text.{bytes}
use Rattle.lexer.specs.Bytes.{class_of}
use Rattle.lexer.specs.Run.{run}
use Rattle.lexer.specs.declared.Kind.{Kind}
use Rattle.lexer.specs.Kinds.{name}
use Rattle.lexer.specs.Lex.{answers, from, first_answer, lex_from, token}
use Rattle.lexer.specs.Numbers.{lex_numbers}
use Rattle.lexer.specs.Screen.{screened}
use Rattle.lexer.specs.Answer.{first_token, numbers}

empty_text : from (bytes "") 0 1 ≡ End 1 ∷ []
unfolding from answers
empty_text = refl

-- a name runs to the next space, over ';' too
one_name : from (bytes "A; ;") 0 1 ≡ token Kind.Name 0 2 1 ∷ token Kind.SemiColon 3 4 1 ∷ End 1 ∷ []
unfolding from answers class_of run
one_name = refl

-- a minus starts a number
two_numbers : from (bytes "1-2") 0 1 ≡ token Kind.Number 0 1 1 ∷ token Kind.Number 1 3 1 ∷ End 1 ∷ []
unfolding from answers class_of run
two_numbers = refl

bad_byte : from (bytes "END LIBRARY @") 0 1 ≡ token Kind.Name 0 3 1 ∷ token Kind.Name 4 11 1 ∷ Bad 12 1 ∷ []
unfolding from answers class_of run
bad_byte = refl

-- a string literal that no quote ends
open_string : from (bytes "\"a") 0 1 ≡ token Kind.StringLiteral 0 2 1 ∷ End 1 ∷ []
unfolding from answers class_of run
open_string = refl

-- a newline in a string literal does not count, one in front of it and one behind it do
lines : from (bytes "\n\"\n\" b\nc") 0 1 ≡ token Kind.StringLiteral 1 4 2 ∷ token Kind.Name 5 6 2 ∷ token Kind.Name 7 8 3 ∷ End 3 ∷ []
unfolding from answers class_of run
lines = refl

-- a comment goes up to a newline, or to the end of the text
comments : from (bytes "#\"a\nb #c") 0 1 ≡ token Kind.Name 4 5 2 ∷ End 2 ∷ []
unfolding from answers class_of run
comments = refl

-- a byte above 127 is refused at its place, wherever the token is looked for from
high_byte : first_token (bytes "A \u{80}") 0 ≡ Err (refused not_ascii 2 0)
unfolding first_token screened from answers class_of run first_answer
high_byte = refl

-- a byte that starts no token: lines count from the place given
first_bad : numbers (bytes "a\n\n @") (first_token (bytes "a\n\n @") 2) ≡ record { refusal = no_token; place = 4; line = 2; kind = 0; start = 0; stop = 0 }
unfolding first_token screened from answers class_of run first_answer
first_bad = refl

first_found : numbers (bytes "a b") (first_token (bytes "a b") 1) ≡ record { refusal = 0; place = 0; line = 0; kind = name; start = 2; stop = 3 }
unfolding first_token screened from answers class_of run first_answer
first_found = refl

-- a place past the text counts as its end
beyond : numbers (bytes "a b") (first_token (bytes "a b") 9) ≡ record { refusal = 0; place = 0; line = 0; kind = 0; start = 3; stop = 3 }
unfolding first_token screened from answers class_of run first_answer
beyond = refl

-- what is found next has its line
next_found : lex_numbers (bytes "\n b") (lex_from (bytes "\n b") 0 1) ≡ record { refusal = 0; place = 0; line = 2; kind = name; start = 2; stop = 3 }
unfolding from answers class_of run first_answer
next_found = refl

next_end : lex_numbers (bytes "\n ") (lex_from (bytes "\n ") 0 1) ≡ record { refusal = 0; place = 0; line = 2; kind = 0; start = 2; stop = 2 }
unfolding from answers class_of run first_answer
next_end = refl
