-- `at_of` meets its contract: it is a number of the record's bytes.
use Rattle.record.specs.Bytes.{decoded}
use Rattle.checker.proofs.held.at_of.Goals as goal

pub returns : goal.returns
unfolding decoded
returns c =
    (rw (← c.row.ensures) c.word32.ensures.eq, c.word32.ensures.small)
