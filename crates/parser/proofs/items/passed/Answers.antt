-- `parser::items::passed` meets its contract: only `if_more` passes items over.
use mathlib.Core.Path.{sym}
use Rattle.lexer.specs.declared.Kind.{Kind}
use Rattle.lexer.proofs.Kinded.{kind_test}
use Rattle.rows.proofs.Ranges.{at_more, low_passes_none, high_passes_none}
use Rattle.parser.proofs.items.passed.Goals as goal

pub returns-then-it-lt-IF_MORE : goal.returns-then-it-lt-IF_MORE
returns-then-it-lt-IF_MORE c s =
    sym (low_passes_none _ _ c.if-it-lt-IF_MORE.true)

pub returns-then-it-ge-WHOLE : goal.returns-then-it-ge-WHOLE
returns-then-it-ge-WHOLE c s =
    sym (high_passes_none _ _ c.if-it-ge-WHOLE.true)

pub returns-then-eq : goal.returns-then-eq
returns-then-eq c s =
    rw (at_more _ c.if-it-lt-IF_MORE.false c.if-it-ge-WHOLE.false, kind_test _ Kind.SemiColon c.eq.ensures c.if-eq.true)

pub returns-else-eq : goal.returns-else-eq
returns-else-eq c s =
    rw (at_more _ c.if-it-lt-IF_MORE.false c.if-it-ge-WHOLE.false, kind_test _ Kind.SemiColon c.eq.ensures c.if-eq.false)
