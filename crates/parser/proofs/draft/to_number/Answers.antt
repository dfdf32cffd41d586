-- `parser::draft::to_number` meets its contract: the number of the taker, as x or as y.
use native.Mathlib.Omega.{arith}
use Rattle.grammar.specs.Engine.{item}
use Rattle.parser.proofs.Exits.{handed_on}
use Rattle.parser.proofs.draft.to_number.Goals as goal

pub returns-in_err-v : goal.returns-in_err-v
unfolding item
returns-in_err-v c =
    record { x = λ i f b o h. rw (handed_on _ _ c.from_residual.ensures.1, ← (c.in_err-v.ensures o h)); y = λ i f b o h. rw (handed_on _ _ c.from_residual.ensures.1, ← (c.in_err-v.ensures o h)) }

pub returns-then-it-eq-X : goal.returns-then-it-eq-X
unfolding item
returns-then-it-eq-X c =
    record { x = λ i f b o h. rw (← (c.in_ok-v.ensures o h)); y = λ i f b o h. absurd (omega (arith, i, c.if-it-eq-X.true)) }

pub returns : goal.returns
unfolding item
returns c =
    record { x = λ i f b o h. absurd (c.if-it-eq-X.false i); y = λ i f b o h. rw (← (c.in_ok-v.ensures o h)) }
