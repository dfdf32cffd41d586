-- `parser::engine::step_in` meets its contract: the row that was chosen, and its items.
use mathlib.Core.Path.{ap, ◌∙◌}
use Rattle.parser.specs.Stepped.{filed_step}
use Rattle.parser.proofs.Exits.{handed_on}
use Rattle.parser.proofs.engine.step_in.Goals as goal

pub returns-in_err-chosen : goal.returns-in_err-chosen
returns-in_err-chosen c =
    rw (handed_on _ _ c.from_residual.ensures.1) (ap filed_step c.in_err-chosen.ensures.of)

pub run-requires : goal.run-requires
run-requires c =
    rw c.in-Runs.is at c.in_ok-chosen.ensures.low

pub returns-in-Runs : goal.returns-in-Runs
returns-in-Runs c =
    c.run.ensures ∙ ap filed_step (rw c.in-Runs.is at c.in_ok-chosen.ensures.of)

pub returns-in-Goes : goal.returns-in-Goes
returns-in-Goes c =
    ap filed_step (rw c.in-Goes.is at c.in_ok-chosen.ensures.of)

pub returns-in-Back : goal.returns-in-Back
returns-in-Back c =
    ap filed_step (rw c.in-Back.is at c.in_ok-chosen.ensures.of)
