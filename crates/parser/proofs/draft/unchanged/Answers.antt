-- `parser::draft::unchanged` meets its contract: the word's answer, and the sketch as it was.
use Rattle.parser.proofs.Exits.{handed_on}
use Rattle.parser.proofs.draft.unchanged.Goals as goal

pub returns-in_err-next : goal.returns-in_err-next
returns-in_err-next c s b =
    rw (handed_on _ _ c.from_residual.ensures.1, c.in_err-next.was)

pub returns : goal.returns
returns c s b =
    rw c.in_ok-next.was
