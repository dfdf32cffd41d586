-- `Long::text` is safe: a number in three bytes is that again some steps on.
use Prim.Native.Nat.{◌<◌}
use Rattle.asking.proofs.long.Long.text.Given as goal

abbrev pub invariant-loop : goal.invariant-loop
invariant-loop l = l.k < 16777216
