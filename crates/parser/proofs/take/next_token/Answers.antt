-- `parser::take::next_token` meets its contract: the end is not taken, and after any other token the lexer's answer is held.
use Rattle.std.proofs.Common.{rules, sym}
use Rattle.parser.proofs.Ahead.{at_end, not_end}
use Rattle.parser.proofs.take.next_token.Goals as goal

pub returns-then-eq : goal.returns-then-eq
returns-then-eq c =
    rw c.complain.ensures (sym (at_end _ _ (search rules)))

pub returns : goal.returns
returns c =
    rw c.token_from.ensures (not_end _ _ (search rules))
