-- `parser::draft::to_semi` meets its contract: the answer of the taker, and nothing set.
use Rattle.grammar.specs.Engine.{item}
use Rattle.parser.proofs.Exits.{handed_on}
use Rattle.parser.proofs.draft.to_semi.Goals as goal

pub returns-in_err-next : goal.returns-in_err-next
unfolding item
returns-in_err-next c s f b o h =
    rw (handed_on _ _ c.from_residual.ensures.1, ← (c.in_err-next.ensures s o h))

pub returns : goal.returns
unfolding item
returns c s f b o h =
    rw (← (c.in_ok-next.ensures s o h))
