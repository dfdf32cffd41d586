-- `lines::form::form_for` meets its contract: the row of the word, or of the parts, is the one that has the record's form.
use mathlib.Core.Path.{sym, ap, ◌∙◌}
use mathlib.Core.Bool.{false}
use native.Mathlib.Omega.{arith}
use Rattle.grammar.specs.Table.{body}
use Rattle.rows.specs.Packed.{block_of, look_up, act_in, form_in, part_of, part_in}
use Rattle.render.specs.Forms.{form_for, forms_in}
use Rattle.lines.specs.Formed.{form_by, word_for}
use Rattle.lines.proofs.Rows.{with_words, of_parts}
use Rattle.lines.proofs.Blocks.{tested}
use Rattle.lines.proofs.form.form_for.Goals as goal

pub returns-then-form_of-lt-PARTS : goal.returns-then-form_of-lt-PARTS
unfolding act_in form_in
returns-then-form_of-lt-PARTS c f p b k d =
    let a = c.args in
    let w = c.word_for-word in
    let i = body (block_of a.block) in
    ap (λ g. form_for p (forms_in (body g))) b
    ∙ with_words p i (tested (block_of a.block)) (omega (arith, c.form_of.ensures, c.if-form_of-lt-PARTS.true))
    ∙ (λ j. form_by (word_for (k j) (d j)) (k j) (d j) false (look_up i (word_for (k j) (d j))))
    ∙ ap (λ w. form_by w a.kind a.code false (look_up i w)) (sym w.ensures)
    ∙ ap (form_by w.result a.kind a.code false) (sym c.row_of.ensures)
    ∙ sym c.fitting.ensures

pub returns : goal.returns
unfolding part_in form_in
returns c f p b k d =
    let a = c.args in
    let i = body (block_of a.block) in
    ap (λ g. form_for p (forms_in (body g))) b
    ∙ of_parts p i (omega (arith, c.form_of.ensures, c.if-form_of-lt-PARTS.false))
    ∙ (λ j. form_by 0 (k j) (d j) false (part_of i))
    ∙ ap (form_by 0 a.kind a.code false) (sym c.part_of.ensures)
    ∙ sym c.fitting-2.ensures
