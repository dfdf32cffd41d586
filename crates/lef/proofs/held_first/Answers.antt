-- `held_first` meets its contract: the screen's refusal is told, or the lexer's answer.
use mathlib.Core.Path.{sym}
use Rattle.parser.proofs.Exits.{handed_on}
use Rattle.lef.proofs.Tokens.{held, stopped}
use Rattle.lef.proofs.held_first.Goals as goal

pub returns-in_err-screen : goal.returns-in_err-screen
returns-in_err-screen c =
    rw (handed_on _ _ c.from_residual.ensures.1) (stopped c.args.text.now c.args.place _ (sym c.in_err-screen.ensures))

pub returns : goal.returns
returns c =
    rw c.token_from.ensures (held c.args.text.now c.args.place _ (sym c.in_ok-screen.ensures))
