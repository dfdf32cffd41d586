-- `settle` meets its contract: only options are ended, by a record that has no form among them, and the block after them has none.
use mathlib.Core.Path.{refl, sym, ◌∙◌}
use mathlib.Core.List.{[]}
use Rattle.parser.specs.Kept.{frame_of}
use Rattle.render.specs.Plain.{bare}
use Rattle.writer.proofs.Taking.{as_found, fewer_turns, settled_formed, settled_other, settled_line}
use Rattle.writer.proofs.pen.settle.Goals as goal

pub loop-page-smaller : goal.loop-page-smaller
loop-page-smaller c =
    let l = c.loop-page in
    fewer_turns [] l.«open» c.after_options.result (sym c.form_of.ensures ∙ c.if-form_of-ne-OPTIONS.false) c.after_options.ensures c.turned-open.result (c.turned-open.ensures [])

pub loop-page-preserved : goal.loop-page-preserved
loop-page-preserved c =
    let l = c.loop-page in
    let o = l.«open» in
    λ s t q k.
    let r = bare s c.args.r in
    let f = as_found o.inner.block _ _ c.form_for-form.result c.form_for-form.ensures r c.kind.ensures c.code.ensures (frame_of s o.inner) refl in
    l.invariant s t q
    (settled_line s o r l.page _ c.in_default.is f c.after_options.result (sym c.form_of.ensures ∙ c.if-form_of-ne-OPTIONS.false) c.after_options.ensures _ c.end_statement.ensures _ (c.turned-open.ensures s) t q k)

pub returns-in-Some : goal.returns-in-Some
returns-in-Some c =
    λ s.
    let l = c.loop-page in
    let o = l.«open» in
    let r = bare s c.args.r in
    let f = as_found o.inner.block _ _ c.form_for-form.result c.form_for-form.ensures r c.kind.ensures c.code.ensures (frame_of s o.inner) refl in
    l.invariant s _ _ (settled_formed s o r l.page _ _ c.in-Some.is f)

pub returns-then-form_of-ne-OPTIONS : goal.returns-then-form_of-ne-OPTIONS
returns-then-form_of-ne-OPTIONS c =
    λ s.
    let l = c.loop-page in
    let o = l.«open» in
    let r = bare s c.args.r in
    let f = as_found o.inner.block _ _ c.form_for-form.result c.form_for-form.ensures r c.kind.ensures c.code.ensures (frame_of s o.inner) refl in
    l.invariant s _ _ (settled_other s o r l.page _ c.in_default.is (λ e. c.if-form_of-ne-OPTIONS.true (c.form_of.ensures ∙ e)) f)
