-- `numeral::unsigned` meets its contract. The loop's invariant: what is left, read on, comes to what the whole comes to.
use Prim.Native.Nat.{◌≤◌}
use mathlib.Core.Path.{◌≡◌}
use mathlib.Core.Bool.{true}
use lib.ListN.{drop}
use Rattle.numeral.specs.Machine.{most, whole_of}
use Rattle.numeral.proofs.unsigned.Given as goal

abbrev pub invariant-loop-i : goal.invariant-loop-i
invariant-loop-i l = (l.x ≤ most) × (whole_of l.negative l.empty l.x (drop l.i l.part) ≡ whole_of l.negative true 0 l.part)
