-- `reader::pass::begin` meets its contract: by the screen and the first token.
use Rattle.parser.proofs.Exits.{handed_on}
use Rattle.reader.proofs.Handed.{screens, begins, fails}
use Rattle.reader.proofs.pass.begin.Goals as goal

pub returns-in_err-screen : goal.returns-in_err-screen
returns-in_err-screen c =
    rw (handed_on _ _ c.from_residual.ensures.1) (screens _ _ c.in_err-screen.ensures)

pub returns-in_err-held : goal.returns-in_err-held
returns-in_err-held c =
    rw (handed_on _ _ c.from_residual-in_err-held.ensures.1) (fails _ c.in_ok-screen.ensures _ c.in_err-held.ensures)

pub returns : goal.returns
returns c =
    begins _ c.in_ok-screen.ensures _ c.in_ok-held.ensures c.first.result c.first.ensures
