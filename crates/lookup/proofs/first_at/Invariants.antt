-- `lookup::first_at` meets its contract: none of the records passed starts at the place.
use Prim.Native.Nat.{ℕ, ◌<◌}
use mathlib.Core.Path.{◌≡◌}
use mathlib.Core.Bool.{false}
use Rattle.file.specs.File.{record_in}
use Rattle.lookup.specs.Chain.{is_at}
use Rattle.lookup.proofs.first_at.Given as goal

abbrev pub invariant-loop-i : goal.invariant-loop-i
invariant-loop-i l = (k : ℕ) → k < l.i → is_at l.place (record_in l.file k) ≡ false
