-- `copy` meets its contract: the bytes passed are those of the other slice.
use Prim.Native.Nat.{ℕ, ◌<◌}
use mathlib.Core.Path.{◌≡◌}
use lib.ListN.{length, get_or}
use Rattle.lines.proofs.page.copy.Given as goal

abbrev pub invariant-loop-i : goal.invariant-loop-i
invariant-loop-i l = (length l.to ≡ length l.from) × ((k : ℕ) → k < l.i → get_or l.to k 0 ≡ get_or l.from k 0)
