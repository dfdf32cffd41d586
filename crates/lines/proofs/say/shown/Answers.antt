-- `lines::say::shown` meets its contract: none of the items passed is shown.
use Prim.Native.Nat.{◌+◌, ◌-◌, ◌/◌}
use mathlib.Core.Path.{◌≡◌, sym, ap, ◌∙◌}
use mathlib.Core.Bool.{◌||◌}
use native.Mathlib.Omega.{arith}
use lib.ListN.{take}
use Rattle.rows.specs.Packed.{items_of}
use Rattle.render.specs.Plain.{bare}
use Rattle.render.specs.Says.{shows, any}
use Rattle.lines.proofs.Items.{one_shown}
use Rattle.lines.proofs.say.shown.Goals as goal

pub returns-then-one_shown : goal.returns-then-one_shown
returns-then-one_shown c =
    let l = c.loop in
    let a = c.args in
    let p = bare a.text.now a.r in
    let m = a.n - l.counter in
    ap (λ t. t || any (shows p) (take (m - 1) (items_of (l.left / 256)))) (sym c.if-one_shown.true ∙ c.one_shown.ensures) ∙ sym (one_shown p m l.left (omega arith) (λ e. omega arith)) ∙ l.invariant.1

pub loop-preserved : goal.loop-preserved
loop-preserved c =
    let l = c.loop in
    let a = c.args in
    let p = bare a.text.now a.r in
    let m = a.n - l.counter in
    let e : a.n - (l.counter + 1) ≡ a.n - l.counter - 1 = omega arith in
    (omega arith, rw e (ap (λ t. t || any (shows p) (take (m - 1) (items_of (l.left / 256)))) (sym c.if-one_shown.false ∙ c.one_shown.ensures) ∙ sym (one_shown p m l.left (omega arith) (λ e. omega arith)) ∙ l.invariant.1))

pub returns : goal.returns
unfolding any
returns c =
    let e : c.args.n - c.loop.counter ≡ 0 = omega arith in
    rw e at c.loop.invariant.1
