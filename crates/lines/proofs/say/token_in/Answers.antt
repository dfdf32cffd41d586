-- `lines::say::token_in` meets its contract: by the ranges of the items.
use mathlib.Core.Path.{sym, ap, ◌∙◌}
use mathlib.Core.List.{[], ◌∷◌}
use Rattle.word.specs.Words.{keys, values, words}
use Rattle.word.specs.Spelling.{spelling}
use Rattle.word.proofs.Steps.{apart}
use Rattle.lexer.specs.Kinds as Kind
use Rattle.parser.specs.Kept.{name_in}
use Rattle.rows.specs.Packed.{item_at}
use Rattle.rows.proofs.Ranges.{at_string, at_key}
use Rattle.render.specs.Pieces.{said}
use Rattle.render.specs.Plain.{bare}
use Rattle.render.specs.Says.{quoted, says}
use Rattle.lines.proofs.Items.{silent}
use Rattle.lines.proofs.say.token_in.Goals as goal

pub returns-then-it-lt-CODE : goal.returns-then-it-lt-CODE
returns-then-it-lt-CODE c s =
    c.low_in.ensures c.if-it-lt-CODE.true s

pub returns-then-it-lt-STRING : goal.returns-then-it-lt-STRING
returns-then-it-lt-STRING c s =
    let a = c.args in
    silent (name_in s a.f.title a.f.len) (bare s a.r) _ c.if-it-lt-CODE.false c.if-it-lt-STRING.true

pub returns-then-it-ge-KEY : goal.returns-then-it-ge-KEY
unfolding says
returns-then-it-ge-KEY c s =
    let a = c.args in
    ap (says (name_in s a.f.title a.f.len) (bare s a.r)) (at_key _ c.if-it-ge-KEY.true) ∙ ap (λ l. said Kind.name l ∷ []) c.key_in.ensures

pub returns-in-112 : goal.returns-in-112
unfolding item_at says keys values words spelling
returns-in-112 c s =
    let a = c.args in
    ap (λ b. says (name_in s a.f.title a.f.len) (bare s a.r) (item_at b)) c.in-112.is

pub returns-in-113 : goal.returns-in-113
unfolding item_at says keys values words spelling
returns-in-113 c s =
    let a = c.args in
    ap (λ b. says (name_in s a.f.title a.f.len) (bare s a.r) (item_at b)) c.in-113.is

pub returns-in_default : goal.returns-in_default
unfolding says
returns-in_default c s =
    let m = c in
    let a = m.args in
    ap (says (name_in s a.f.title a.f.len) (bare s a.r)) (at_string _ m.if-it-lt-STRING.false m.if-it-ge-KEY.false (apart _ (112 ∷ 113 ∷ []) (Unit {0}) m.in_default.in_default-own.rest).1)
    ∙ λ i. quoted (name_in s (sym c.name.ensures i) (sym c.len.ensures i)) ∷ []
