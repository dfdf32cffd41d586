-- `parser::draft::to_whole` meets its contract: the block lacks nothing where the number of what it lacks is below 256.
use borrow.Author.Tests.{lt-ltb, le-ltb}
use Rattle.grammar.specs.Engine.{item}
use Rattle.parser.proofs.draft.to_whole.Goals as goal

pub returns-then-lacks-lt256 : goal.returns-then-lacks-lt256
unfolding item
returns-then-lacks-lt256 c s f b e =
    rw (e, lt-ltb _ _ c.if-lacks-lt256.true)

pub returns : goal.returns
unfolding item
returns c s f b e =
    rw (c.complain.ensures, e, le-ltb _ _ c.if-lacks-lt256.false)
