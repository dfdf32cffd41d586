-- `parser::draft::to_own` meets its contract: the taker asks for the name of the block, and nothing is set.
use Rattle.grammar.specs.Engine.{item}
use Rattle.parser.proofs.Exits.{handed_on}
use Rattle.parser.proofs.draft.to_own.Goals as goal

pub returns-in_err-next : goal.returns-in_err-next
unfolding item
returns-in_err-next c f b o h e =
    rw (handed_on _ _ c.from_residual.ensures.1, e, ← (c.in_err-next.ensures o h))

pub returns : goal.returns
unfolding item
returns c f b o h e =
    rw (e, ← (c.in_ok-next.ensures o h))
