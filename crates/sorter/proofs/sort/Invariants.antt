-- `sorter::sort` meets its contract: round by round the greatest of the heap goes before those that are sorted.
use Rattle.sorter.proofs.Rounds.{Rounds}
use Rattle.sorter.proofs.sort.Given as goal

abbrev pub invariant-loop-end : goal.invariant-loop-end
invariant-loop-end l = Rounds l.text l.end l.initial.file l.file
