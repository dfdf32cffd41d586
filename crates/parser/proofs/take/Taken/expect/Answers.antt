-- A token of the kind is taken, and another is complained of.
use Rattle.lexer.proofs.Kinded.{kind_test}
use Rattle.grammar.specs.Tokens.{expect}
use Rattle.parser.proofs.take.Taken.expect.Goals as goal

pub returns-then-eq : goal.returns-then-eq
unfolding expect
returns-then-eq c s o h =
    rw (h, kind_test _ _ c.eq.ensures c.if-eq.true)

pub returns-else-eq : goal.returns-else-eq
unfolding expect
returns-else-eq c s o h =
    rw (c.complain.ensures, h, kind_test _ _ c.eq.ensures c.if-eq.false)
