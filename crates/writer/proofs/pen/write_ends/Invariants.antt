-- `write_ends` meets its contract: the innermost block ends, until none is around it.
use Rattle.writer.proofs.Ending.{Closed}
use Rattle.writer.proofs.pen.write_ends.Given as goal

abbrev pub invariant-loop-open : goal.invariant-loop-open
invariant-loop-open l = Closed l.initial.page.text.now l.initial.open l.outer l.initial.page l.«open» l.page

abbrev pub decreases-loop-open : goal.decreases-loop-open
decreases-loop-open l = l.«open».depth
