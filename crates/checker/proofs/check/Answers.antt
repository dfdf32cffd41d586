-- `check` meets its contract: a text that is refused at its beginning, or the answer from its first state on.
use mathlib.Core.Path.{◌∙◌}
use Rattle.parser.proofs.Exits.{handed_on}
use Rattle.checker.proofs.Judging.{text_refused}
use Rattle.checker.proofs.check.Goals as goal

pub returns-in_err-start : goal.returns-in_err-start
returns-in_err-start c =
    handed_on _ _ c.from_residual.ensures.1 ∙ text_refused _ _ _ c.in_err-start.ensures
