-- `parser::engine::kind_of` meets its contract: the number of the act, but for the end of a block.
use native.Mathlib.Omega.{arith}
use borrow.Author.Tests.{eq-eqb, ne_eqb}
use Rattle.parser.proofs.engine.kind_of.Goals as goal

pub returns-then-act-eq-CLOSE : goal.returns-then-act-eq-CLOSE
returns-then-act-eq-CLOSE c =
    rw (eq-eqb _ 64 c.if-act-eq-CLOSE.true)

pub overflow_cast-result : goal.overflow_cast-result
overflow_cast-result c =
    omega arith

pub returns : goal.returns
returns c =
    rw (ne_eqb _ 64 c.if-act-eq-CLOSE.false)
