-- `rows::skip` meets its contract: what is left to drop of what is left is what was to be dropped.
use Prim.Native.Nat.{◌-◌, ◌≤◌}
use mathlib.Core.Path.{◌≡◌}
use lib.ListN.{drop}
use Rattle.rows.specs.Packed.{items_of}
use Rattle.rows.proofs.skip.Given as goal

abbrev pub invariant-loop-k : goal.invariant-loop-k
invariant-loop-k l = (l.r ≤ l.items) × (drop (l.n - l._k) (items_of l.r) ≡ drop l.n (items_of l.items))
