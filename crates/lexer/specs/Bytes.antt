-- The rules on single bytes: what each byte starts, and which bytes go on in a name, a number, a string literal or a comment.
use Rattle.std.specs.Prelude.{ℕ, Bool, cond, not, ◌&&◌, ◌||◌, leb, eqb}
use Rattle.lexer.specs.declared.scan.Class.{Class}
use Rattle.lexer.specs.declared.scan.Class.TheVariants.{Letter, Space, Digit, SemiColon, NewLine, Quote, Hash, Other}

-- 'a' to 'z' and 'A' to 'Z'
abbrev pub is_letter : ℕ → Bool
is_letter b = (leb 97 b && leb b 122) || (leb 65 b && leb b 90)

-- space is bytes 9, 11, 12, 13, 32
abbrev pub is_space : ℕ → Bool
is_space b = (eqb b 32 || eqb b 9) || (leb 11 b && leb b 13)

-- byte 10 is a newline
abbrev pub is_newline : ℕ → Bool
is_newline b = eqb b 10

-- '0' to '9'
abbrev pub is_digit : ℕ → Bool
is_digit b = leb 48 b && leb b 57

-- no byte above 127
abbrev pub is_ascii : ℕ → Bool
is_ascii b = leb b 127

-- a name runs to the next space or newline
abbrev pub in_name : ℕ → Bool
in_name b = not (is_space b || is_newline b)

-- a number goes on over digits and points
abbrev pub in_number : ℕ → Bool
in_number b = is_digit b || eqb b 46

-- a quote runs to the next quote
abbrev pub in_string : ℕ → Bool
in_string b = not (eqb b 34)

-- a comment goes up to a newline
abbrev pub in_comment : ℕ → Bool
in_comment b = not (is_newline b)

-- what a byte starts: a name with a letter, a number with a digit or minus, a string literal with '"', a comment with '#'; ';' stands alone
unfoldable pub class_of : ℕ → Class
class_of b =
    cond (is_letter b) Letter
    (cond (is_space b) Space
    (cond (is_digit b || eqb b 45) Digit
    (cond (eqb b 59) SemiColon
    (cond (is_newline b) NewLine
    (cond (eqb b 34) Quote
    (cond (eqb b 35) Hash
    Other))))))
