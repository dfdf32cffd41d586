-- `sorter::heap` meets its contract: from the middle on there are no children, and each entry before it that sinks makes the heap reach one further.
use Rattle.sorter.proofs.Rounds.{Heaping}
use Rattle.sorter.proofs.heap.Given as goal

abbrev pub invariant-loop-i : goal.invariant-loop-i
invariant-loop-i l = Heaping l.text l.i l.initial.file l.file
