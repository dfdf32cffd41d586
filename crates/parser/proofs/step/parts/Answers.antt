-- `parser::step::parts` meets its contract: the row of the `;`, or that of a part.
use Rattle.std.proofs.Common.{rules, arith}
use Rattle.parser.proofs.Acts.{part_low, end_low}
use Rattle.parser.proofs.Chosen.{parts_end, parts_part}
use Rattle.parser.proofs.step.parts.Goals as goal

pub returns-then-eq : goal.returns-then-eq
returns-then-eq c =
    let g = c.args in
    record { of = (λ z s v. parts_end s v g.f g.held _ _ z (search rules) c.end_of.ensures); low = (λ z. end_low _ _ 3 c.end_of.ensures) }

pub returns : goal.returns
returns c =
    let g = c.args in
    record { of = (λ z s v. parts_part s v g.f g.held _ _ z (search rules) c.part_of.ensures); low = (λ z. part_low _ _ g.f.block c.part_of.ensures (omega arith)) }
