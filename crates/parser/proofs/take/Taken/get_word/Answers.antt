-- The answer of `get_name`, with the number of the word taken.
use Rattle.parser.proofs.Exits.{handed_on}
use Rattle.parser.proofs.take.Taken.get_word.Goals as goal

pub returns-in_err-held : goal.returns-in_err-held
returns-in_err-held c o h =
    rw (handed_on _ _ c.from_residual.ensures.1, ← (c.in_err-held.ensures _ o h))

pub returns : goal.returns
returns c o h =
    rw (c.word_in.ensures, ← (c.in_ok-held.ensures _ o h))
