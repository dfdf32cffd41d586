-- The answer of `get_word`, and whether the word is a key word.
use Rattle.parser.proofs.Exits.{handed_on}
use Rattle.parser.proofs.Taking.{key_of_word}
use Rattle.parser.proofs.take.Taken.get_key.Goals as goal

pub returns-in_err-w : goal.returns-in_err-w
returns-in_err-w c o h =
    rw (handed_on _ _ c.from_residual.ensures.1, key_of_word o, ← (c.in_err-w.ensures o h))

pub returns-then-is_key : goal.returns-then-is_key
returns-then-is_key c o h =
    rw (key_of_word o, ← (c.in_ok-w.ensures o h), ← c.is_key.ensures, c.if-is_key.true)

pub returns-else-is_key : goal.returns-else-is_key
returns-else-is_key c o h =
    rw (c.complain.ensures, key_of_word o, ← (c.in_ok-w.ensures o h), ← c.is_key.ensures, c.if-is_key.false)
