-- The answer of `expect`, and what the token says as a numeral.
use Rattle.grammar.specs.Engine.{parse_number}
use Rattle.parser.proofs.Exits.{handed_on}
use Rattle.parser.proofs.take.Taken.parse_number.Goals as goal

pub returns-in_err-held : goal.returns-in_err-held
unfolding parse_number
returns-in_err-held c o h =
    rw (handed_on _ _ c.from_residual.ensures.1, ← (c.in_err-held.ensures _ o h))

pub returns-in_default : goal.returns-in_default
unfolding parse_number
returns-in_default c o h =
    simp (c.complain.ensures, c.in_default.is, ← (rw c.txt.ensures at c.numeral.ensures), ← (c.in_ok-held.ensures _ o h))

pub returns : goal.returns
unfolding parse_number
returns c o h =
    simp (c.stored.ensures, c.in-Some.is, ← (rw c.txt.ensures at c.numeral.ensures), ← (c.in_ok-held.ensures _ o h))
