-- The answer of `get_word`, and the code of the word.
use Rattle.word.specs.Codes.{code_of}
use Rattle.parser.proofs.Exits.{handed_on}
use Rattle.parser.proofs.Taking.{enum_of_word}
use Rattle.parser.proofs.take.Taken.parse_enum.Goals as goal

pub returns-in_err-w : goal.returns-in_err-w
returns-in_err-w c o h =
    rw (handed_on _ _ c.from_residual.ensures.1, enum_of_word o (λ w. code_of c.args.kind w 0), ← (c.in_err-w.ensures o h))

pub returns : goal.returns
returns c o h =
    rw (c.coded.ensures c.args.lent.now.now, c.code_of.ensures, enum_of_word o (λ w. code_of c.args.kind w 0), ← (c.in_ok-w.ensures o h))
