-- `hex::bytes` meets its contract: each turn puts the byte of the next two digits, until there are none or no room.
use Prim.Native.Nat.{◌*◌}
use lib.ListN.{drop}
use Rattle.vectors.specs.Hex.{pairs}
use Rattle.vectors.proofs.Putting.{Putting}
use Rattle.vectors.proofs.hex.bytes.Given as goal

abbrev pub invariant-loop-n : goal.invariant-loop-n
invariant-loop-n l = Putting l.initial.out (pairs l.digits) l.out l.n (pairs (drop (2 * l.n) l.digits))
