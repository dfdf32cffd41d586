-- `little::lay` meets its contract: what is laid so far, and the rest of the number laid on from there, come to the whole.
use Prim.Native.Nat.{◌+◌, ◌-◌}
use mathlib.Core.Path.{◌≡◌}
use lib.Seq.{sets}
use Rattle.little.specs.Little.{little}
use Rattle.little.proofs.lay.Given as goal

abbrev pub invariant-loop-i : goal.invariant-loop-i
invariant-loop-i l = sets l.bytes (l.place + l.i) (little (l.n - l.i) l.rest) ≡ sets l.initial.bytes l.place (little l.n l.v)
