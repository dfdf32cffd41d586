-- `indexer::check_accepted` meets its contract: the position is where the index differs, and that is nowhere where both end there.
use mathlib.Core.Path.{ap, sym, ◌∙◌}
use Rattle.std.specs.Prelude.{Err}
use Rattle.index.proofs.Laws.{apart_held}
use Rattle.indexer.proofs.Consulting.{same_index, other_index}
use Rattle.indexer.proofs.check_accepted.Goals as goal
use Rattle.indexer.proofs.check_accepted.Goals.{else-position-index-via-then-position-index+else-position-entered_in, else-position-index-via-else-position-index}

pub differ-position-requires : goal.differ-position-requires
differ-position-requires c =
    let s = c in
    apart_held s.args.text.now s.args.records.now s.requires.0

pub returns-then-position-entered_in : goal.returns-then-position-entered_in
returns-then-position-entered_in c =
    let s = c in
    let a = s.args in
    let p = c.differ-position in
    same_index a.text.now a.records.now a.index.now s.requires.0 s.requires.1 p.result p.ensures
    c.if-position-index.true (c.if-position-entered_in.true ∙ c.entered_in.ensures)

pub returns : goal.returns
returns c =
    let s = c in
    let a = s.args in
    let p = c.differ-position in
    ap Err c.index_differs.ensures
    ∙ other_index a.text.now a.records.now a.index.now s.requires.0 s.requires.1 p.result p.ensures
    (λ h k. elim c.else-position-index.branch [ else-position-index-via-then-position-index+else-position-entered_in w ↦ w.if-position-entered_in.false (k ∙ sym w.entered_in.ensures) | else-position-index-via-else-position-index w ↦ w.if-position-index.false h ])
