-- `write_ending` meets its contract: the `;` of the line, nothing, or END and what its items say.
use Prim.Native.Nat.{◌-◌}
use mathlib.Core.Path.{sym, ap, ◌∙◌}
use native.Mathlib.Omega.{arith}
use Rattle.word.specs.Words.{keys, values, words}
use Rattle.word.specs.Spelling.{spelling}
use Rattle.grammar.specs.Table.{body}
use Rattle.rows.specs.Packed.{items_of, block_of, act_in, form_in}
use Rattle.parser.specs.Kept.{frame_of}
use Rattle.render.specs.Pieces.{text}
use Rattle.render.specs.Plain.{bare}
use Rattle.render.specs.Says.{says_all}
use Rattle.render.specs.Forms.{last_words, nobody}
use Rattle.render.specs.Lines.{spaced, line}
use Rattle.lines.proofs.Laws.{puts_none, puts_as}
use Rattle.lines.proofs.Ends.{close_by, ends, ends_line, closes, closes_not, no_end, end_line}
use Rattle.lines.proofs.page.Page.write_ending.Goals as goal

pub returns-then-form_of-gt-OPTIONS : goal.returns-then-form_of-gt-OPTIONS
unfolding form_in
returns-then-form_of-gt-OPTIONS c o l =
    let a = c.args in
    puts_as (ap text (ends_line (a.depth - 1) o (body (block_of a.f.block)) (omega (arith, c.form_of.ensures, c.if-form_of-gt-OPTIONS.true)))) c.end_statement.ensures

pub returns-then-row-ne-CLOSE : goal.returns-then-row-ne-CLOSE
unfolding act_in form_in
returns-then-row-ne-CLOSE c o l =
    let a = c.args in
    let r = c.row_of-row in
    let e = ap (λ m. text (line (a.depth - 1) (last_words o.label m))) (ap close_by (sym r.ensures) ∙ closes_not r.result.head r.result.items c.if-row-ne-CLOSE.true) in
    puts_as (no_end (a.depth - 1) o.label ∙ sym (ap text (ends (a.depth - 1) o (block_of a.f.block) (omega (arith, c.form_of.ensures, c.if-form_of-gt-OPTIONS.false))) ∙ e)) (puts_none a.self.now)

pub returns : goal.returns
unfolding act_in form_in last_words keys values words spelling
returns c o l =
    let a = c.args in
    let r = c.row_of-row in
    let m = c.of in
    let d = a.depth - 1 in
    let t = c.begin.ensures.of in
    let k = ap (λ s. (frame_of s a.f).label) t ∙ sym l in
    let e = ap close_by (sym r.ensures) ∙ closes r.result.head r.result.items c.if-row-ne-CLOSE.false in
    puts_as
    (sym (ap text (ends d o (block_of a.f.block) (omega (arith, c.form_of.ensures, c.if-form_of-gt-OPTIONS.false))) ∙ ap (λ m. text (line d (last_words o.label m))) e))
    (end_line d (says_all 0 o.label (items_of r.result.items) nobody) (omega (arith, c.saturating_sub.ensures)) c.begin.ensures
    (puts_as (λ i. text (spaced (says_all 0 (k i) (items_of r.result.items) (bare (t i) (m.ensures i))))) c.say_all.ensures)
    c.end_line.ensures)
