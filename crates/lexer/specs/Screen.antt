-- What every public call asks of a text first: refusals 1 and 2.
use Rattle.std.specs.Prelude.{ℕ, cond, List, ltb, length, Result, Ok, Err, ⊤}
use Rattle.refusal.specs.declared.Refusal.{Refusal}
use Rattle.refusal.specs.Table.{refused, too_long, not_ascii}
use Rattle.lexer.specs.Bytes.{is_ascii}
use Rattle.lexer.specs.Run.{past}

-- the longest text that is read
abbrev pub limit : ℕ
limit = 16777216

-- the place of the first byte above 127, or the text's length
abbrev pub first_high : List ℕ → ℕ
first_high s = past is_ascii s 0

-- 1 for a text that is too long; 2 with the place of its first byte above 127
unfoldable pub screened : List ℕ → Result ⊤ Refusal
screened s =
    cond (ltb limit (length s)) (Err (refused too_long 0 0))
    (cond (ltb (first_high s) (length s)) (Err (refused not_ascii (first_high s) 0))
    (Ok tt))
