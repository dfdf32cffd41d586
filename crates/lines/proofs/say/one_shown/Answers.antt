-- `lines::say::one_shown` meets its contract: each arm is what its item shows, and no other item is shown.
use mathlib.Core.Path.{sym}
use native.Mathlib.Omega.{arith}
use Rattle.rows.specs.Packed.{item_at}
use Rattle.rows.proofs.Ranges.{at_code}
use Rattle.render.specs.Plain.{bare}
use Rattle.render.specs.Says.{shows}
use Rattle.lines.proofs.Items.{not_shown}
use Rattle.lines.proofs.say.one_shown.Goals as goal

pub returns-in-1 : goal.returns-in-1
unfolding item_at shows
returns-in-1 c =
    rw (c.in-1.is, c.x.ensures)

pub returns-in-2 : goal.returns-in-2
unfolding item_at shows
returns-in-2 c =
    rw (c.in-2.is, c.y.ensures)

pub returns-in-5 : goal.returns-in-5
unfolding item_at shows
returns-in-5 c =
    rw (c.in-5.is, ← c.name.ensures, ← c.len.ensures) c.has_name.ensures

pub returns-in-32-to-47 : goal.returns-in-32-to-47
unfolding shows
returns-in-32-to-47 c =
    rw (at_code c.args.it (omega arith) (omega arith), c.code.ensures)

pub returns-in_default : goal.returns-in_default
returns-in_default c =
    sym (not_shown (bare c.args.text.now c.args.r) _ (λ e. omega arith) (λ e. omega arith) (λ e. omega arith) (λ h. omega arith))

pub returns-in_default-2 : goal.returns-in_default-2
returns-in_default-2 c =
    sym (not_shown (bare c.args.text.now c.args.r) _ (λ e. omega arith) (λ e. omega arith) (λ e. omega arith) (λ h. omega arith))
