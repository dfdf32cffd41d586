-- Which bytes can be written as a token of a kind.
use Rattle.std.specs.Prelude.{ℕ, ◌+◌, Bool, true, false, cond, ◌&&◌, ◌||◌, List, [], ◌∷◌, eqb, length}
use Rattle.lexer.specs.Bytes.{is_letter, is_digit, is_ascii, in_name, in_number, in_string}
use Rattle.lexer.specs.Run.{run}
use Rattle.lexer.specs.Kinds as Kind
use Rattle.render.specs.Pieces.{Said}

unfoldable pub all : {B : Type 0} → (B → Bool) → List B → Bool
all p [] = true
all p (b ∷ l) = p b && all p l

-- a letter, and then no space or newline
unfoldable pub is_name : List ℕ → Bool
is_name [] = false
is_name (b ∷ s) = is_letter b && all in_name s

-- a digit or minus, and then digits and points
unfoldable pub is_number : List ℕ → Bool
is_number [] = false
is_number (b ∷ s) = (is_digit b || eqb b 45) && all in_number s

-- `;` alone
unfoldable pub is_semicolon : List ℕ → Bool
is_semicolon [] = false
is_semicolon (b ∷ []) = eqb b 59
is_semicolon (b ∷ c ∷ s) = false

-- a quote, and another at the end alone
unfoldable pub is_string : List ℕ → Bool
is_string [] = false
is_string (b ∷ s) = eqb b 34 && eqb (run in_string s + 1) (length s)

unfoldable pub is_token : ℕ → List ℕ → Bool
is_token k s =
    cond (eqb k Kind.name) (is_name s)
    (cond (eqb k Kind.number) (is_number s)
    (cond (eqb k Kind.semicolon) (is_semicolon s)
    (cond (eqb k Kind.string_literal) (is_string s)
    false)))

-- a token of its kind, with no byte above 127
unfoldable pub is_spelt : Said → Bool
is_spelt t = is_token t.kind t.bytes && all is_ascii t.bytes

unfoldable pub all_spelt : List Said → Bool
all_spelt [] = true
all_spelt (t ∷ ts) = is_spelt t && all_spelt ts
