-- `plain::bytes` meets its contract: each turn puts the first byte that is written from here on, until there is none or no room.
use Rattle.vectors.specs.Plain.{meant}
use Rattle.vectors.proofs.Putting.{Putting}
use Rattle.vectors.proofs.plain.bytes.Given as goal

abbrev pub invariant-loop-n : goal.invariant-loop-n
invariant-loop-n l = Putting l.initial.out (meant l.written) l.out l.n (meant l.rest)
