-- Inner machinery, which nobody has to believe: the second word asked for by the list of the kind's values, as the code asks.
-- proofs/Second.antt proves it equal to `parse_second`.
use Rattle.std.specs.Prelude.{ℕ, Bool, false, cond, not, ◌&&◌, ◌||◌, List, [], ◌∷◌, eqb}
use Rattle.lexer.specs.Kinds as Kind
use Rattle.word.specs.Words.{word}
use Rattle.word.specs.Codes.{code_of, values_of}
use Rattle.grammar.specs.Tokens.{Ahead, Answer, ok, then, matches}
use Rattle.grammar.specs.Engine.{expect_key, parse_enum}

-- some value of two words begins with the word w
unfoldable pub goes_on : List ℕ → ℕ → Bool
goes_on [] w = false
goes_on (v ∷ []) w = false
goes_on (v ∷ u ∷ l) w = (eqb v w && not (eqb u 0)) || goes_on l w

-- the second word that is asked for as a key word, or 0
abbrev pub second_key : ℕ → ℕ
second_key w = cond (eqb w (word "COVER")) (word "BUMP") (cond (eqb w (word "OUTPUT")) (word "TRISTATE") 0)

abbrev pub second_listed : {A M : Type 0} → ℕ → ℕ → Ahead A M → Answer A M ℕ
second_listed k w a =
    cond (not (goes_on (values_of k) w) || (matches Kind.semicolon a && not (eqb (code_of k w 0) 0)))
    (ok (code_of k w 0) a)
    (cond (eqb (second_key w) 0) (parse_enum (λ v. cond (eqb v 0) 0 (code_of k w v)) a) (then (expect_key (second_key w) a) (λ v b. ok (code_of k w v) b)))
