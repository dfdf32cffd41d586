-- `asking::long::sum` is safe: its sum is a remainder.
use Prim.Native.Nat.{◌<◌}
use Rattle.asking.proofs.long.sum.Given as goal

abbrev pub invariant-loop-b : goal.invariant-loop-b
invariant-loop-b l = l.sum < 16777213
