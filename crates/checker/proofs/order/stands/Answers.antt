-- `stands` meets its contract: equal bytes are equal records.
use Prim.Native.Nat.{◌+◌, ◌-◌, ◌*◌}
use mathlib.Core.Path.{◌≡◌}
use native.Mathlib.Omega.{arith}
use Rattle.std.proofs.lemmas.Bool.Decides.{Decides-eqb}
use Rattle.std.proofs.lemmas.Slice.Eq.{slice_eq-Decides}
use Rattle.checker.proofs.Bytes.{same_parts}
use Rattle.checker.proofs.order.stands.Goals as goal

pub returns : goal.returns
returns c h =
    let a = c.args in
    let wide : 36 * a.i + 36 * a.c - 36 * a.i ≡ 36 * a.c = omega arith in
    let e = rw wide at c.eq.ensures in
    (omega arith, same_parts a.file.now a.w.now a.i a.c ((slice_eq-Decides Decides-eqb _ _ _ e).0 h))
