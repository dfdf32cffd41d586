-- `row` meets its contract: the part is as long as a record.
use Prim.Native.Nat.{◌+◌, ◌-◌, ◌*◌}
use mathlib.Core.Path.{◌≡◌}
use native.Mathlib.Omega.{arith}
use Rattle.checker.proofs.held.row.Goals as goal

pub returns : goal.returns
returns c =
    let wide : 36 * c.args.i + 36 - 36 * c.args.i ≡ 36 = omega arith in rw wide
