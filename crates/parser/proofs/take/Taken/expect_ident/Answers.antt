-- The answer of `get_name`, and the bytes of the two names, compared.
use Rattle.grammar.specs.Engine.{expect_ident}
use Rattle.parser.specs.Code.{bytes_of}
use Rattle.parser.specs.Kept.{name_in}
use Rattle.parser.proofs.Ahead.{pointwise_same}
use Rattle.parser.proofs.Exits.{handed_on}
use Rattle.parser.proofs.take.Taken.expect_ident.Goals as goal

pub returns-in_err-held : goal.returns-in_err-held
unfolding expect_ident
returns-in_err-held c o h =
    rw (handed_on _ _ c.from_residual.ensures.1, ← (c.in_err-held.ensures _ o h))

pub returns-then-eq : goal.returns-then-eq
unfolding expect_ident
returns-then-eq c o h =
    rw (← (c.in_ok-held.ensures _ o h), ← (pointwise_same (bytes_of c.args.lent.now.now c.args.self.token) (name_in c.args.lent.now.now c.args.title c.args.len)), ← (rw (c.part.ensures, c.txt.ensures) at c.eq.ensures), c.if-eq.true)

pub returns-else-eq : goal.returns-else-eq
unfolding expect_ident
returns-else-eq c o h =
    rw (c.complain.ensures, ← (c.in_ok-held.ensures _ o h), ← (pointwise_same (bytes_of c.args.lent.now.now c.args.self.token) (name_in c.args.lent.now.now c.args.title c.args.len)), ← (rw (c.part.ensures, c.txt.ensures) at c.eq.ensures), c.if-eq.false)
