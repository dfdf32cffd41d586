-- `entry::order::named_before` meets its contract: the bytes where the names part decide, then which name ends there, then the `at`.
use Prim.Native.Nat.{◌<◌}
use mathlib.Core.Path.{◌≡◌, sym}
use mathlib.Core.Bool.{or-false}
use native.Mathlib.Omega.{arith}
use lib.ListN.{length}
use Rattle.entry.specs.Common.{common}
use Rattle.entry.proofs.Common.{common_left, common_right, ahead_there, ahead_longer, ahead_shorter, alike_left, alike_ended}
use Rattle.entry.proofs.order.named_before.Goals as goal

pub returns-then-i-a : goal.returns-then-i-a
returns-then-i-a c =
    let a = c.args in
    let e = c.common-i.ensures in
    let left : common a.a.now a.b.now < length a.a.now = omega (arith, e) in
    let right : common a.a.now a.b.now < length a.b.now = omega (arith, e) in
    rw (e, ahead_there a.a.now a.b.now left right, alike_left a.a.now a.b.now left) (sym (or-false _))

pub returns-then-i-b : goal.returns-then-i-b
returns-then-i-b c =
    let a = c.args in
    let e = c.common-i.ensures in
    let ends : common a.a.now a.b.now ≡ length a.a.now = omega (arith, common_left a.a.now a.b.now, e) in
    rw (ahead_longer a.a.now a.b.now ends (omega (arith, e)))

pub returns-then-i-a-2 : goal.returns-then-i-a-2
returns-then-i-a-2 c =
    let a = c.args in
    let e = c.common-i.ensures in
    let ends : common a.a.now a.b.now ≡ length a.b.now = omega (arith, common_right a.a.now a.b.now, e) in
    rw (ahead_shorter a.a.now a.b.now ends, alike_left a.a.now a.b.now (omega (arith, e)))

pub returns : goal.returns
returns c =
    let a = c.args in
    let e = c.common-i.ensures in
    let left : common a.a.now a.b.now ≡ length a.a.now = omega (arith, common_left a.a.now a.b.now, e) in
    let right : common a.a.now a.b.now ≡ length a.b.now = omega (arith, common_right a.a.now a.b.now, e) in
    rw (ahead_shorter a.a.now a.b.now right, alike_ended a.a.now a.b.now left right)
