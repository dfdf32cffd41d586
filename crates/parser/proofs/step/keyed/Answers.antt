-- `parser::step::keyed` meets its contract: the word that was looked at, and the act of its row.
use Prim.Native.Nat.{ℕ, ◌≤◌, ◌<◌}
use mathlib.Core.Path.{refl, ◌∙◌}
use Rattle.std.proofs.Common.{Err}
use native.Mathlib.Omega.{arith}
use Rattle.parser.proofs.Exits.{handed_on}
use Rattle.parser.proofs.Chosen.{looked, seen, does_refuse, does_run}
use Rattle.parser.proofs.step.keyed.Goals as goal

below : {n : ℕ} → n ≤ 64 → n < 128
below h = omega arith

pub returns-in_err-key : goal.returns-in_err-key
returns-in_err-key c =
    let g = c.args in
    rw (handed_on _ _ c.from_residual.ensures.1) (record { of = (λ z. looked g.lent.now.now g.version g.f g.held z (Err c.in_err-key.field-0.0) c.in_err-key.ensures); low = tt })

pub returns-then-row-gt-CLOSE : goal.returns-then-row-gt-CLOSE
returns-then-row-gt-CLOSE c =
    let g = c.args in
    record { of = (λ z. c.perform.ensures.of g.f ∙ seen g.lent.now.now g.version g.f g.held z _ c.in_ok-key.ensures _ c.row_of-row.ensures); low = c.perform.ensures.low }

pub returns-in_err-first : goal.returns-in_err-first
returns-in_err-first c =
    let g = c.args in
    rw (handed_on _ _ c.from_residual-in_err-first.ensures.1) (record {
      of = (λ z. does_refuse g.lent.now.now g.version g.f g.held _ _ _ (λ f a taken p. refl) (below c.if-row-gt-CLOSE.false) c.if-row-gt-CLOSE.false _ c.in_err-first.ensures
          ∙ seen g.lent.now.now g.version g.f g.held z _ c.in_ok-key.ensures _ c.row_of-row.ensures);
      low = tt;
    })

pub returns : goal.returns
returns c =
    let g = c.args in record {
      of = (λ z. does_run g.lent.now.now g.version g.f g.held _ _ _ (λ f a taken p. refl) (below c.if-row-gt-CLOSE.false) c.if-row-gt-CLOSE.false _ c.in_ok-first.ensures
          ∙ seen g.lent.now.now g.version g.f g.held z _ c.in_ok-key.ensures _ c.row_of-row.ensures);
      low = c.if-row-gt-CLOSE.false;
    }
