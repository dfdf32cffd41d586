-- `parser::draft::no_name` meets its contract: a name held is refused.
use Rattle.lexer.specs.declared.Kind.{Kind}
use Rattle.lexer.proofs.Kinded.{kind_test}
use Rattle.grammar.specs.Engine.{item}
use Rattle.parser.proofs.draft.no_name.Goals as goal

pub returns-then-eq : goal.returns-then-eq
unfolding item
returns-then-eq c s f b =
    rw (c.complain.ensures, kind_test _ Kind.Name c.eq.ensures c.if-eq.true)

pub returns : goal.returns
unfolding item
returns c s f b =
    rw (kind_test _ Kind.Name c.eq.ensures c.if-eq.false)
