-- `eight::near_blanks` meets its contract: the blanks end at the first mark on the eight bytes, and where there is none the place stays.
use Prim.Native.Nat.{◌+◌}
use mathlib.Core.Path.{ap, ◌∙◌}
use native.Mathlib.Omega.{arith}
use lib.Count.{trailing_le}
use Rattle.lexer.specs.Eight.{is_blank}
use Rattle.lexer.specs.Run.{past}
use Rattle.lexer.proofs.Runs.{through}
use Rattle.lexer.proofs.EightRuns.{few, here}
use Rattle.lexer.proofs.eight.near_blanks.Goals as goal

pub overflow_add-result : goal.overflow_add-result
overflow_add-result c =
    omega (arith, trailing_le 64 c.blank_ends-ends.result)

pub returns-else-ends-eq0 : goal.returns-else-ends-eq0
returns-else-ends-eq0 c =
    let at = c.args.at in
    let most = few is_blank _ at _ _ c.eight.ensures c.blank_ends-ends.ensures c.if-ends-eq0.false in
    let ends = ap (λ n. at + n) c.before-else-ends-eq0.ensures ∙ here is_blank _ at _ _ c.eight.ensures c.blank_ends-ends.ensures c.if-ends-eq0.false in
    (omega arith, omega (arith, most, c.before-else-ends-eq0.ensures), ap (past is_blank _) ends ∙ through is_blank is_blank _ at (λ b h. h))
