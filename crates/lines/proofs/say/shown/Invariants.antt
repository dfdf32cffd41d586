-- `lines::say::shown` meets its contract: none of the items passed is shown.
use Prim.Native.Nat.{◌-◌, ◌≤◌}
use mathlib.Core.Path.{◌≡◌}
use lib.ListN.{take}
use Rattle.rows.specs.Packed.{items_of}
use Rattle.render.specs.Plain.{bare}
use Rattle.render.specs.Says.{shows, any}
use Rattle.lines.proofs.say.shown.Given as goal

abbrev pub invariant-loop : goal.invariant-loop
invariant-loop l =
    (l.left ≤ l.items) × (any (shows (bare l.text l.r)) (take (l.n - l.counter) (items_of l.left)) ≡ any (shows (bare l.text l.r)) (take l.n (items_of l.items)))
