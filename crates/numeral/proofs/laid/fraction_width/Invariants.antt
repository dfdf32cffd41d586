-- `numeral::laid::fraction_width` meets its contract. The loop's invariant: the decimals that are left, and those that are counted.
use Prim.Native.Nat.{◌<◌, ◌+◌, ◌^◌}
use mathlib.Core.Path.{◌≡◌}
use lib.ListN.{length}
use Rattle.numeral.specs.Shortest.{fraction}
use Rattle.numeral.proofs.laid.fraction_width.Given as goal

abbrev pub invariant-loop-k : goal.invariant-loop-k
invariant-loop-k l = (l.rest < 10 ^ l.k) × (l.w + length (fraction l.k l.rest) ≡ length (fraction 6 l.f))
