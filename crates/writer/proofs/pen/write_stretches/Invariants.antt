-- `write_stretches` meets its contract: each pass gives the next records, which are written; after the last the blocks end.
use mathlib.Core.Path.{◌≡◌}
use lib.ListN.{length}
use Rattle.parser.specs.Code.{rest_of}
use Rattle.writer.proofs.Going.{So}
use Rattle.writer.proofs.pen.write_stretches.Given as goal

abbrev pub invariant-loop-c : goal.invariant-loop-c
invariant-loop-c l = So l.initial.page.text.now l.initial.st l.st l.initial.page l.«open» l.outer l.page × (length l.w ≡ length l.initial.w)

abbrev pub decreases-loop-c : goal.decreases-loop-c
decreases-loop-c l = length (rest_of l.initial.page.text.now l.st.held)
