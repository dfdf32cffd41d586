-- `parser::draft::to_name` meets its contract: the name is the token taken, of as many bytes as it has.
use Rattle.grammar.specs.Engine.{item}
use Rattle.parser.proofs.Exits.{handed_on}
use Rattle.parser.proofs.draft.to_name.Goals as goal

pub returns-in_err-next : goal.returns-in_err-next
unfolding item
returns-in_err-next c s f b o h =
    rw (handed_on _ _ c.from_residual.ensures.1, ← (c.in_err-next.ensures s o h))

pub returns : goal.returns
unfolding item
returns c s f b o h =
    rw (c.saturating_sub.ensures, ← (c.in_ok-next.ensures s o h))
