-- `put` meets its contract: each turn puts the next byte, until there is none or no room.
use lib.ListN.{drop}
use Rattle.vectors.proofs.Putting.{From}
use Rattle.vectors.proofs.put.Given as goal

abbrev pub invariant-loop-n : goal.invariant-loop-n
invariant-loop-n l = From l.initial.out l.at l.bytes l.out l.n (drop l.n l.bytes)
