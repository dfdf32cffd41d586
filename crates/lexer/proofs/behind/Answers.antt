-- `behind` meets its contract: a newline with the blanks behind it is passed over, and so is a space.
use Rattle.std.proofs.Common.{arith}
use Rattle.lexer.proofs.Near.{past_space, past_newline}
use Rattle.lexer.proofs.behind.Goals as goal

pub returns-then-text-at-eq10-clause-same : goal.returns-then-text-at-eq10-clause-same
returns-then-text-at-eq10-clause-same c =
    λ g. past_newline _ _ _ (omega arith) _ _ c.if-text-at-eq10.true c.near_blanks.ensures.2 c.lex_newline.ensures

pub returns-else-text-at-eq10-clause-same : goal.returns-else-text-at-eq10-clause-same
returns-else-text-at-eq10-clause-same c =
    λ g. past_space _ _ _ (omega arith) g c.if-text-at-eq10.false
