-- `stretches` meets its contract: each pass gives the next records, and the run says how far the file has them.
use mathlib.Core.Path.{◌≡◌}
use lib.ListN.{length}
use Rattle.parser.specs.Code.{rest_of}
use Rattle.checker.proofs.Following.{So}
use Rattle.checker.proofs.order.stretches.Given as goal

abbrev pub invariant-loop-c : goal.invariant-loop-c
invariant-loop-c l = So l.text l.initial.st l.file l.st l.run × (length l.w ≡ length l.initial.w)

abbrev pub decreases-loop-c : goal.decreases-loop-c
decreases-loop-c l = length (rest_of l.text l.st.held)
