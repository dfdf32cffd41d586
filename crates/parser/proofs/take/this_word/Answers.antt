-- The word and the one that is asked for, compared.
use borrow.Author.Tests.{eq-eqb, ne_eqb}
use Rattle.parser.proofs.take.this_word.Goals as goal

pub returns-then-w-key : goal.returns-then-w-key
returns-then-w-key c s =
    rw (eq-eqb _ _ c.if-w-key.true)

pub returns-else-w-key : goal.returns-else-w-key
returns-else-w-key c s =
    rw (c.complain.ensures, ne_eqb _ _ c.if-w-key.false)
