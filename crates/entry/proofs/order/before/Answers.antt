-- `entry::order::before` meets its contract: owners that differ decide, and otherwise the names and then the `at`.
use mathlib.Core.Path.{◌≡◌, sym}
use mathlib.Core.Bool.{or-false}
use borrow.Author.Tests.{ne_eqb, eq-eqb, le-ltb}
use native.Mathlib.Omega.{arith}
use Rattle.entry.specs.Order.{before}
use Rattle.entry.proofs.order.before.Goals as goal

pub returns-then-e-owner : goal.returns-then-e-owner
unfolding before
returns-then-e-owner c =
    let a = c.args in
    rw (ne_eqb a.e.owner a.owner (λ e. omega arith)) (sym (or-false _))

pub returns : goal.returns
unfolding before
returns c =
    let a = c.args in
    let e : a.e.owner ≡ a.owner = omega arith in
    rw (le-ltb a.e.owner a.owner (omega arith), eq-eqb a.e.owner a.owner e, ← c.part.ensures) c.named_before.ensures
