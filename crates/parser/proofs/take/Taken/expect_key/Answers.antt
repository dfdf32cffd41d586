-- The answer of `get_key`, compared.
use Rattle.grammar.specs.Engine.{expect_key}
use Rattle.parser.proofs.Exits.{handed_on}
use Rattle.parser.proofs.take.Taken.expect_key.Goals as goal

pub returns-in_err-w : goal.returns-in_err-w
unfolding expect_key
returns-in_err-w c o h =
    rw (handed_on _ _ c.from_residual.ensures.1, ← (c.in_err-w.ensures o h))

pub returns : goal.returns
unfolding expect_key
returns c o h =
    rw (c.this_word.ensures c.args.lent.now.now, ← (c.in_ok-w.ensures o h))
