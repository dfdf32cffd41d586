-- `eight::eights_past` meets its contract: at each turn the run from behind the eights looked at ends where the run from the place given does.
use Rattle.std.proofs.Common.{◌∙◌, ap, arith}
use Rattle.lexer.specs.Run.{past}
use Rattle.lexer.proofs.Chunks.{marked, unmarked}
use Rattle.lexer.proofs.eight.eights_past.Goals as goal

pub loop-k-preserved : goal.loop-k-preserved
loop-k-preserved g c =
    λ p h.
    unmarked _ _ _ _ _ _ p c.as_chunks.ensures.front c.as_chunks.ensures.front_len c.loop-k-test.true c.packed.ensures (h _ _ c.ends-marks.ensures) c.if-marks-ne0.false
    ∙ c.loop-k.invariant p h

pub returns-then-marks-ne0-clause-same : goal.returns-then-marks-ne0-clause-same
returns-then-marks-ne0-clause-same g c =
    λ p h.
    marked _ _ _ _ _ _ p c.as_chunks.ensures.front c.as_chunks.ensures.front_len c.loop-k-test.true c.packed.ensures (h _ _ c.ends-marks.ensures) _ c.if-marks-ne0.true c.before-then-marks-ne0.ensures
    ∙ c.loop-k.invariant p h

pub returns-clause-same : goal.returns-clause-same
returns-clause-same g c =
    λ p h. ap (past p c.args.text.now) (omega arith) ∙ c.loop-k.invariant p h
