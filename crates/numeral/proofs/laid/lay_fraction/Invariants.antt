-- `numeral::laid::lay_fraction` meets its contract. The loop's invariant: what is left, written on, comes to what the whole comes to.
use Prim.Native.Nat.{◌<◌, ◌+◌, ◌^◌}
use mathlib.Core.Path.{◌≡◌}
use lib.ListN.{length}
use lib.Seq.{sets}
use Rattle.numeral.specs.Shortest.{fraction}
use Rattle.numeral.proofs.laid.lay_fraction.Given as goal

abbrev pub invariant-loop-k : goal.invariant-loop-k
invariant-loop-k l = (l.rest < 10 ^ l.k) × (length l.out ≡ length l.initial.out)
    × (l.p + length (fraction l.k l.rest) ≡ l.at + length (fraction 6 l.f))
    × (sets l.out l.p (fraction l.k l.rest) ≡ sets l.initial.out l.at (fraction 6 l.f))
