-- `Long::file` is safe: a number in three bytes is that again some steps on.
use Prim.Native.Nat.{◌<◌}
use Rattle.checks.proofs.Long.file.Given as goal

abbrev pub invariant-loop-i : goal.invariant-loop-i
invariant-loop-i l = l.k < 16777216
