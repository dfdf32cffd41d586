-- `parser::draft::to_among` meets its contract: the number is compared with each of the list in turn.
use Rattle.grammar.specs.Engine.{item}
use Rattle.parser.proofs.Listed.{any_member}
use Rattle.parser.proofs.draft.to_among.Goals as goal

pub returns-then-contains : goal.returns-then-contains
unfolding item
returns-then-contains c s f b =
    rw (← (any_member c.args.numbers.now c.args.d.x), ← c.contains.ensures.value, c.if-contains.true)

pub returns : goal.returns
unfolding item
returns c s f b =
    rw (c.complain.ensures, ← (any_member c.args.numbers.now c.args.d.x), ← c.contains.ensures.value, c.if-contains.false)
