-- `sorter::sift` meets its contract: the entry sinks by the laws of Sinking, and the measure is how far it has to go.
use Prim.Native.Nat.{◌-◌}
use Rattle.sorter.proofs.Sinking.{Sinks}
use Rattle.sorter.proofs.sift.Given as goal

abbrev pub invariant-loop-sinking : goal.invariant-loop-sinking
invariant-loop-sinking l = Sinks l.text l.start l.n l.i l.initial.file l.file

abbrev pub decreases-loop-sinking : goal.decreases-loop-sinking
decreases-loop-sinking l = l.n - l.i
