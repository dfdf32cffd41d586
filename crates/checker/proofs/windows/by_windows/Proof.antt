-- `by_windows` meets its contract: the window and its marks have room.
-- A walk by hand: with answers in its place the check computes the window's 589,824 bytes one by one, and does not end.
use Prim.Native.Nat.{ℕ}
use mathlib.Core.Path.{refl, sym}
use lib.ListN.{length-replicate}
use native.Mathlib.Omega.{arith}
use Rattle.checker.specs.Passing.{width, width_bytes}
use Rattle.checker.proofs.Judging.{room36, room}
use Rattle.checker.proofs.windows.by_windows.Statement.{statement}
use Rattle.checker.proofs.windows.by_windows.Tie as tie

windows_requires : tie.Need-windows-requires
windows_requires c κs = let s = c in (room36 width_bytes width 0 (omega arith), room width width 0 (omega arith), s.requires)

returns : tie.Need-returns
returns c = c.windows.ensures

pub by_windows_spec : {M : Type 1} → statement M
by_windows_spec =
    tie.close
    (tie.spec (λ c. sym {0} {A = ℕ} (length-replicate {0} {A = ℕ} 589824 0)) (λ c. refl) windows_requires returns)
