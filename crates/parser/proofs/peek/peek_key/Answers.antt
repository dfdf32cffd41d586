-- `parser::peek::peek_key` meets its contract: the kind of the token held, and the number of its word.
use Rattle.lexer.specs.declared.Kind.{Kind}
use Rattle.lexer.proofs.Kinded.{kind_differs}
use Rattle.grammar.specs.Turns.{peek_key}
use Rattle.parser.proofs.peek.peek_key.Goals as goal

pub returns-then-ne : goal.returns-then-ne
unfolding peek_key
returns-then-ne c k =
    rw (c.complain.ensures, kind_differs _ Kind.Name c.ne.ensures c.if-ne.true)

pub returns-then-is_key : goal.returns-then-is_key
unfolding peek_key
returns-then-is_key c k =
    rw (kind_differs _ Kind.Name c.ne.ensures c.if-ne.false, ← c.word_in-w.ensures, ← c.is_key.ensures, c.if-is_key.true)

pub returns-else-is_key : goal.returns-else-is_key
unfolding peek_key
returns-else-is_key c k =
    rw (c.complain-else-is_key.ensures, kind_differs _ Kind.Name c.ne.ensures c.if-ne.false, ← c.word_in-w.ensures, ← c.is_key.ensures, c.if-is_key.false)
