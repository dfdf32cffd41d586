-- `little::number` meets its contract: the sum is the number of the bytes passed, the highest first.
use Prim.Native.Nat.{◌+◌, ◌-◌, ◌^◌, ◌<◌, min}
use mathlib.Core.Path.{◌≡◌}
use lib.ListN.{take, drop}
use Rattle.little.specs.Little.{number}
use Rattle.little.proofs.number.Given as goal

abbrev pub invariant-loop-i : goal.invariant-loop-i
invariant-loop-i l = (l.sum ≡ number (take (min l.n 8 - l.i) (drop (l.place + l.i) l.bytes))) × (l.sum < 256 ^ (min l.n 8 - l.i))
