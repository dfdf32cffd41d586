-- `parser::step::perform` meets its contract: the row as it is at the version does what the definition's act does there.
use mathlib.Core.Path.{◌∙◌}
use Rattle.parser.proofs.Exits.{handed_on}
use Rattle.parser.proofs.Chosen.{does_stop, does_refuse, does_run}
use Rattle.parser.proofs.step.perform.Goals as goal

pub stopped-requires : goal.stopped-requires
stopped-requires c =
    (c.if-act-gt-CLOSE.true, c.settled-row.ensures.plain)

pub returns-then-act-gt-CLOSE : goal.returns-then-act-gt-CLOSE
returns-then-act-gt-CLOSE c =
    let g = c.args in record { of = (λ f. c.stopped.ensures.of g.lent.now.now f g.held ∙ does_stop g.lent.now.now g.version f g.held _ _ _ c.settled-row.ensures.same c.settled-row.ensures.plain c.if-act-gt-CLOSE.true); low = c.stopped.ensures.low }

pub returns-in_err-first : goal.returns-in_err-first
returns-in_err-first c =
    let g = c.args in
    rw (handed_on _ _ c.from_residual.ensures.1) (record {
      of = (λ f. does_refuse g.lent.now.now g.version f g.held _ _ _ c.settled-row.ensures.same c.settled-row.ensures.plain c.if-act-gt-CLOSE.false _ c.in_err-first.ensures);
      low = tt;
    })

pub returns : goal.returns
returns c =
    let g = c.args in record { of = (λ f. does_run g.lent.now.now g.version f g.held _ _ _ c.settled-row.ensures.same c.settled-row.ensures.plain c.if-act-gt-CLOSE.false _ c.in_ok-first.ensures); low = c.if-act-gt-CLOSE.false }
