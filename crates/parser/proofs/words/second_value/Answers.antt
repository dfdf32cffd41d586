-- The token taken is a name, and the code is that of the two words.
use mathlib.Core.Path.{sym}
use Rattle.lexer.specs.Kinds as Kind
use Rattle.grammar.specs.Engine.{parse_enum}
use Rattle.parser.specs.Code.{ahead_of}
use Rattle.parser.proofs.Exits.{handed_on}
use Rattle.parser.proofs.Taking.{no_token, enum_of_word}
use Rattle.parser.proofs.words.second_value.Goals as goal

pub returns-in_err-first : goal.returns-in_err-first
unfolding parse_enum
returns-in_err-first c =
    rw (handed_on _ _ c.from_residual.ensures.1, no_token (ahead_of c.args.lent.now.now c.args.held) _ _ (sym c.in_err-first.ensures) Kind.name)

pub returns-in_err-v : goal.returns-in_err-v
returns-in_err-v c =
    rw (handed_on _ _ c.from_residual-in_err-v.ensures.1, enum_of_word (ahead_of c.args.lent.now.now c.args.held) _, ← (c.in_err-v.ensures _ (sym c.in_ok-first.ensures)))

pub returns : goal.returns
returns c =
    rw (c.coded.ensures c.args.lent.now.now, c.code_of_two.ensures, enum_of_word (ahead_of c.args.lent.now.now c.args.held) _, ← (c.in_ok-v.ensures _ (sym c.in_ok-first.ensures)))
