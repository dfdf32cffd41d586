-- `numeral::decimals` meets its contract. The loop's invariant: what is left, read on, comes to what the whole comes to, and
-- the decimals that still count do not take the number past `top`.
use Prim.Native.Nat.{ℕ, ◌≤◌, ◌+◌, ◌*◌, ◌^◌}
use mathlib.Core.Path.{◌≡◌}
use lib.ListN.{drop}
use Rattle.numeral.specs.Machine.{most, decimals_of}
use Rattle.numeral.proofs.decimals.Given as goal

-- the greatest whole part and one more, in millionths
abbrev pub top : ℕ
top = (most + 1) * 1000000

abbrev pub invariant-loop-i : goal.invariant-loop-i
invariant-loop-i l = (l.room ≤ 6) × (l.x + 10 ^ l.room ≤ top)
    × (decimals_of l.negative l.empty l.room l.x (drop l.i l.part) ≡ decimals_of l.negative l.none 6 (l.whole * 1000000) l.part)
