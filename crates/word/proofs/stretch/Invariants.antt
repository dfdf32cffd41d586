-- `word::stretch` meets its contract: the sum is that of the bytes passed, the last first.
use Prim.Native.Nat.{◌-◌, ◌*◌, ◌^◌, ◌<◌}
use mathlib.Core.Path.{◌≡◌}
use lib.ListN.{length, drop}
use Rattle.word.specs.Words.{upper}
use Rattle.word.specs.Lookup.{marked}
use Rattle.word.proofs.stretch.Given as goal

abbrev pub invariant-loop-i : goal.invariant-loop-i
invariant-loop-i l = (l.sum ≡ marked (upper (drop l.i l.bytes))) × (l.sum < 2 * 256 ^ (length l.bytes - l.i))
