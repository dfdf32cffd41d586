-- The answer of `get_word`, compared.
use Rattle.parser.proofs.Exits.{handed_on}
use Rattle.parser.proofs.Taking.{keyword_of_word}
use Rattle.parser.proofs.take.Taken.expect_keyword.Goals as goal

pub returns-in_err-w : goal.returns-in_err-w
returns-in_err-w c o h =
    rw (handed_on _ _ c.from_residual.ensures.1, keyword_of_word o c.args.key, ← (c.in_err-w.ensures o h))

pub returns : goal.returns
returns c o h =
    rw (c.this_word.ensures c.args.lent.now.now, keyword_of_word o c.args.key, ← (c.in_ok-w.ensures o h))
