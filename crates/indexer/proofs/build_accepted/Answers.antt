-- `indexer::build_accepted` meets its contract: where there is room, what is filled in and sorted is the index of the reading.
use Prim.Native.Nat.{◌/◌, ◌≤◌}
use mathlib.Core.Path.{ap, ◌∙◌}
use lib.ListN.{length}
use Rattle.std.specs.Prelude.{Err}
use Rattle.refusal.specs.Table.{refused, record_room}
use Rattle.file.specs.File.{held}
use Rattle.index.specs.Index.{entries}
use Rattle.indexer.proofs.Answering.{no_room, sorted_front, front_there}
use Rattle.indexer.proofs.build_accepted.Goals as goal

pub returns-then-index-n : goal.returns-then-index-n
returns-then-index-n c =
    let s = c in
    let a = s.args in
    let n = c.entered_in-n in
    let r = no_room a.text.now a.records.now s.requires a.index.now (rw n.ensures at c.if-index-n.true) in
    record { value = ap Err (c.record_room.ensures ∙ ap (λ k. refused record_room k 0) n.ensures) ∙ r.0; index_after = r.1 }

pub slice_bounds-sort-end-2 : goal.slice_bounds-sort-end-2
slice_bounds-sort-end-2 c =
    let a = c.args in
    let n = c.entered_in-n in
    let f = c.fill in
    front_there (entries (held a.records.now)) a.index.now n.result n.ensures f.new.index f.ensures

pub returns : goal.returns
returns c =
    let s = c in
    let a = s.args in
    let n = c.entered_in-n in
    let f = c.fill in
    let o = c.sort in
    let fits : n.result ≤ length a.index.now / 16 = c.if-index-n.false in
    let r = sorted_front a.text.now a.records.now s.requires a.index.now n.result n.ensures fits f.new.index f.ensures o.new.file o.ensures in
    record { value = r.0; index_after = r.1 }
