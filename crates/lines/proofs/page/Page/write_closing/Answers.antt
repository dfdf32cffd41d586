-- `write_closing` meets its contract: options end before their block does.
use Prim.Native.Nat.{◌-◌}
use mathlib.Core.Path.{refl, sym, ap, ◌∙◌}
use mathlib.Core.List.{◌++◌}
use lib.ListN.{length}
use Rattle.grammar.specs.Table.{body}
use Rattle.rows.specs.Packed.{block_of, form_in, next_of, after_in}
use Rattle.parser.specs.Kept.{name_in, frame_of}
use Rattle.render.specs.Pieces.{text}
use Rattle.render.specs.Lines.{line_end, ending}
use Rattle.lines.proofs.Laws.{puts_as}
use Rattle.lines.proofs.Pieced.{pieces_then}
use Rattle.lines.proofs.Ends.{after_options, no_options}
use Rattle.lines.proofs.page.Page.write_closing.Goals as goal
use Rattle.lines.proofs.page.Page.write_closing.Goals.{then-form_of-eq-OPTIONS, else-form_of-eq-OPTIONS}

pub returns : goal.returns
unfolding form_in after_in
returns c fs n =
    let a = c.args in
    let f = frame_of a.self.now.text.now a.f in
    elim c.if-form_of-eq-OPTIONS.branch [
      | then-form_of-eq-OPTIONS w ↦
          let e = (rw (w.self-is, w.ending-is) at (c.write_ending.ensures f)) in
          puts_as
          (ap (λ b. text (line_end ++ ending (a.depth - 1) f (body b))) w.after_options.ensures
          ∙ ap (λ d. text (line_end ++ ending (d - 1) f (body (next_of (body (block_of a.f.block)))))) (sym n)
          ∙ ap text (after_options (length fs - 1) f (body (block_of a.f.block)) (sym c.form_of.ensures ∙ w.if-form_of-eq-OPTIONS.true)))
          (pieces_then _ _ w.end_statement.ensures (e (ap (λ s. name_in s a.f.title a.f.len) (sym w.end_statement.ensures.of))))
      | else-form_of-eq-OPTIONS w ↦
          let e = (rw (w.self-is, w.ending-is) at (c.write_ending.ensures f)) in
          puts_as
          (ap (λ d. text (ending (d - 1) f (body (block_of a.f.block)))) (sym n)
          ∙ ap text (no_options (length fs - 1) f (body (block_of a.f.block)) (λ e. w.if-form_of-eq-OPTIONS.false (c.form_of.ensures ∙ e))))
          (e refl)
    ]
