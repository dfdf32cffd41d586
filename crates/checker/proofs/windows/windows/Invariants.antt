-- `windows` meets its contract: each pass fills a window with the next records, and what is seen then covers them too.
use mathlib.Core.Path.{◌≡◌}
use lib.ListN.{length}
use Rattle.parser.specs.Code.{rest_of}
use Rattle.checker.proofs.Windowing.{Under}
use Rattle.checker.proofs.windows.windows.Given as goal

abbrev pub invariant-loop-c : goal.invariant-loop-c
invariant-loop-c l = Under l.text l.initial.st l.file l.st l.seen × (length l.w ≡ length l.initial.w) × (length l.marks ≡ length l.initial.marks)

abbrev pub decreases-loop-c : goal.decreases-loop-c
decreases-loop-c l = length (rest_of l.text l.st.held)
