-- `write_statement` meets its contract: the word, what the items say, and the end of the line unless it goes on.
use mathlib.Core.Path.{refl, sym, ap, ◌∙◌}
use Rattle.render.specs.Pieces.{text}
use Rattle.render.specs.Plain.{bare}
use Rattle.render.specs.Says.{says_all}
use Rattle.render.specs.Forms.{said_in}
use Rattle.render.specs.Lines.{spaced, statement as stating}
use Rattle.grammar.specs.Table.{body}
use Rattle.rows.specs.Packed.{items_of}
use Rattle.parser.specs.Kept.{frame_of}
use Rattle.lines.specs.Formed.{begin_of, as_formed}
use Rattle.lines.proofs.Laws.{puts_none, puts_as}
use Rattle.lines.proofs.Stated.{form_starts, line_goes_on, line_over}
use Rattle.lines.proofs.page.Page.write_statement.Goals as goal

pub returns-in_default : goal.returns-in_default
unfolding text
returns-in_default c =
    let a = c.args in
    let s = a.self.now.text.now in
    let f = frame_of s a.f in
    puts_as (ap (λ m. text (stating a.depth f (bare s a.r) m)) (sym (c.requires.1 ∙ ap (as_formed a.r.kind) c.in_default.is))) (puts_none a.self.now)

-- what the items say of the text as it is after the word
pub returns-then-not-goes_on : goal.returns-then-not-goes_on
unfolding begin_of said_in
returns-then-not-goes_on c =
    let a = c.args in
    let s = a.self.now.text.now in
    let f = frame_of s a.f in
    let p = bare s a.r in
    let q = c.requires.1 ∙ ap (as_formed a.r.kind) c.in-Some.is in
    let t = puts_as (ap (λ s. text (spaced (says_all 0 (frame_of s a.f).label (items_of c.in-Some.found.row.items) (bare s a.r)))) c.start.ensures.of) c.say_all.ensures in
    puts_as (ap (λ m. text (stating a.depth f p m)) (sym q))
    (line_over _ a.depth _ _ (λ z. form_starts p (body f.block) _ q (ap begin_of z)) c.start.ensures t (sym (c.goes_on.ensures f refl) ∙ c.if-not-goes_on.true) c.end_line.ensures)

pub returns-else-not-goes_on : goal.returns-else-not-goes_on
unfolding begin_of said_in
returns-else-not-goes_on c =
    let a = c.args in
    let s = a.self.now.text.now in
    let f = frame_of s a.f in
    let p = bare s a.r in
    let q = c.requires.1 ∙ ap (as_formed a.r.kind) c.in-Some.is in
    let t = puts_as (ap (λ s. text (spaced (says_all 0 (frame_of s a.f).label (items_of c.in-Some.found.row.items) (bare s a.r)))) c.start.ensures.of) c.say_all.ensures in
    puts_as (ap (λ m. text (stating a.depth f p m)) (sym q))
    (line_goes_on _ a.depth _ _ (λ z. form_starts p (body f.block) _ q (ap begin_of z)) c.start.ensures t (sym (c.goes_on.ensures f refl) ∙ c.if-not-goes_on.false))
