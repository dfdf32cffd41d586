-- `reach_owner` meets its contract: a block that does not have the record ends, and is not the last.
use Rattle.render.specs.Plain.{bare}
use Rattle.writer.specs.Penned.{Ended}
use Rattle.writer.proofs.pen.reach_owner.Given as goal

abbrev pub invariant-loop-r : goal.invariant-loop-r
invariant-loop-r l = Ended l.initial.page.text.now l.initial.open l.outer (bare l.initial.page.text.now l.r) l.initial.page l.«open» l.page

abbrev pub decreases-loop-r : goal.decreases-loop-r
decreases-loop-r l = l.«open».depth
