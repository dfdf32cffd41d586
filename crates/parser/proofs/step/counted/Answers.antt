-- `parser::step::counted` meets its contract: the row of the `;` where the block lacks nothing, or that of a part.
use native.Mathlib.Omega.{arith}
use Rattle.parser.proofs.Acts.{part_low, end_low}
use Rattle.parser.proofs.Chosen.{counted_end, counted_part}
use Rattle.parser.proofs.step.counted.Goals as goal

pub returns-then-f-lt256 : goal.returns-then-f-lt256
returns-then-f-lt256 c =
    let g = c.args in
    record { of = (λ z s v. counted_end s v g.f g.held _ _ z c.if-f-lt256.true c.end_of.ensures); low = (λ z. end_low _ _ 4 c.end_of.ensures) }

pub returns : goal.returns
returns c =
    let g = c.args in
    record { of = (λ z s v. counted_part s v g.f g.held _ _ z c.if-f-lt256.false c.part_of.ensures); low = (λ z. part_low _ _ g.f.block c.part_of.ensures (omega arith)) }
