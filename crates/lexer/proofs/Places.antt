-- Every answer lies within the text and not before the place that it was looked for from.
use Prim.Native.Nat.{ℕ}
use mathlib.Core.List.{List, Memᴰ}
use native.Mathlib.Omega.{arith}
use Rattle.lexer.specs.declared.Lexed.{Lexed}
use Rattle.lexer.specs.Lex.{from, lex_from}
use Rattle.lexer.specs.Places.{Within}
use Rattle.lexer.proofs.First.{first_answer, sooner}
use Rattle.lexer.proofs.Whole.{found_within, each}

pub within_first : (s : List ℕ) (at n : ℕ) → Within s at (lex_from s at n)
within_first s at n = (first_answer s at n).within

pub within_all : (s : List ℕ) (at n : ℕ) (r : Lexed) → Memᴰ r (from s at n) → Within s at r
within_all s =
    each s (λ i n r. Within s i r) (within_first s)
    (λ i n t e r m w. let v = found_within s i n t e in sooner s i t.stop r (omega arith) w)
