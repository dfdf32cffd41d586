-- `lex_in` meets its contract: at each turn the answers from the present place and line are those from the place and line given,
-- and each arm is a law of its byte's class. What is left of the text grows less.
use Rattle.std.proofs.Common.{◌≡◌, ◌-◌, length}
use Rattle.lexer.specs.Lex.{from}
use Rattle.lexer.proofs.lex_in.Given as goal

abbrev pub invariant-loop-b : goal.invariant-loop-b
invariant-loop-b l = from l.text l.at l.line ≡ from l.text l.i l.n

abbrev pub decreases-loop-b : goal.decreases-loop-b
decreases-loop-b l = length l.text - l.i
