-- `lex_in` meets its contract: at each turn the answers from the present place and line are those from the place and line given,
-- and each arm is a law of its byte's class. What is left of the text grows less.
use Rattle.std.proofs.Common.{rules, refl, ◌∙◌}
use Rattle.lexer.proofs.Laws.{at, none, first, at_letter, at_space, at_digit, at_semicolon, at_newline, at_blanks, at_quote, at_hash, at_other}
use Rattle.lexer.proofs.lex_in.Goals as goal

pub loop-b-preserved-in-Space : goal.loop-b-preserved-in-Space
loop-b-preserved-in-Space c =
    c.loop-b.invariant ∙ at_space (at c.in-Some.ensures.lookup.3 c.class_of.ensures c.in-Space.is)

pub loop-b-preserved-in-NewLine : goal.loop-b-preserved-in-NewLine
loop-b-preserved-in-NewLine c =
    c.loop-b.invariant
    ∙ at_newline (at c.in-Some.ensures.lookup.3 c.class_of.ensures c.in-NewLine.is) _ c.lex_newline-n.ensures
    ∙ at_blanks _ _ _ _ c.blanks_past-i.ensures.1

pub loop-b-preserved : goal.loop-b-preserved
loop-b-preserved c =
    c.loop-b.invariant ∙ at_hash (at c.in-Some.ensures.lookup.3 c.class_of.ensures c.in-Hash.is) _ c.lex_comment-i.ensures

pub returns-in-Letter : goal.returns-in-Letter
returns-in-Letter c =
    c.lex_name.ensures ∙ first _ _ _ _ _ (c.loop-b.invariant ∙ at_letter (at c.in-Some.ensures.lookup.3 c.class_of.ensures c.in-Letter.is) _ refl)

pub returns-in-Digit : goal.returns-in-Digit
returns-in-Digit c =
    c.lex_number.ensures ∙ first _ _ _ _ _ (c.loop-b.invariant ∙ at_digit (at c.in-Some.ensures.lookup.3 c.class_of.ensures c.in-Digit.is) _ refl)

pub returns-in-SemiColon : goal.returns-in-SemiColon
returns-in-SemiColon c =
    c.emit.ensures ∙ first _ _ _ _ _ (c.loop-b.invariant ∙ at_semicolon (at c.in-Some.ensures.lookup.3 c.class_of.ensures c.in-SemiColon.is))

pub returns-in-Quote : goal.returns-in-Quote
returns-in-Quote c =
    c.lex_string_literal.ensures ∙ first _ _ _ _ _ (c.loop-b.invariant ∙ at_quote (at c.in-Some.ensures.lookup.3 c.class_of.ensures c.in-Quote.is) _ refl)

pub returns-in-Other : goal.returns-in-Other
returns-in-Other c =
    first _ _ _ _ _ (c.loop-b.invariant ∙ at_other (at c.in-Some.ensures.lookup.3 c.class_of.ensures c.in-Other.is))

pub returns-in_default : goal.returns-in_default
returns-in_default c =
    first _ _ _ _ _ (c.loop-b.invariant ∙ none _ _ _ (search rules))
