-- `lex_near` meets its contract: the answers from behind a space, or behind a newline and its blanks, are those from the place given.
-- A token there ends at the first mark on the eight bytes that follow its first, and all else is the answer of `lex_in`.
use Rattle.std.proofs.Common.{sym, ◌∙◌}
use Rattle.lexer.proofs.Near.{near_name, near_number, near_semicolon}
use Rattle.lexer.proofs.lex_near.Goals as goal

pub returns-then-ends-ne0 : goal.returns-then-ends-ne0
returns-then-ends-ne0 c =
    c.emit.ensures ∙ near_name (record { left = c.behind-i.ensures.left; same = c.behind-i.ensures.same c.if-c.true }) _ _ _ c.eight-w.ensures c.if-ends-ne0.true c.before-then-ends-ne0.ensures
    (sym c.is_letter.ensures ∙ c.if-is_letter.true) c.name_ends-ends.ensures

pub returns-then-ends-ne0-2 : goal.returns-then-ends-ne0-2
returns-then-ends-ne0-2 c =
    c.emit-then-ends-ne0-2.ensures ∙ near_number (record { left = c.behind-i.ensures.left; same = c.behind-i.ensures.same c.if-c.true }) _ _ _ c.eight-w.ensures c.if-ends-ne0-2.true c.before-then-ends-ne0-2.ensures
    (sym c.is_digit.ensures ∙ c.if-is_digit.true) c.number_ends-ends.ensures

pub returns-then-b-eq59 : goal.returns-then-b-eq59
returns-then-b-eq59 c =
    c.emit-then-b-eq59.ensures ∙ near_semicolon (record { left = c.behind-i.ensures.left; same = c.behind-i.ensures.same c.if-c.true }) c.if-b-eq59.true
