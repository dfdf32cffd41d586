-- `rowfile::put` meets its contract: the tests are those of `has_room`, and the part written is what `stored` says.
use Prim.Native.Nat.{◌*◌, ◌/◌, ◌≤◌}
use native.Mathlib.Nat.{div-zero}
use native.Mathlib.Omega.{arith}
use borrow.Author.Tests.{lt-ltb, le-ltb}
use lib.ListN.{length}
use Rattle.rowfile.specs.Rows.{stored}
use Rattle.rowfile.proofs.Stored.{sets_copied, row_fits}
use Rattle.rowfile.proofs.put.Goals as goal

pub returns-then-row-eq0 : goal.returns-then-row-eq0
unfolding stored
returns-then-row-eq0 c =
    let a = c.args in
    let none : length a.file.now / length a.row.now ≤ a.index = rw (c.if-row-eq0.true, div-zero) (omega arith) in
    record { value = rw (le-ltb _ _ none); file_after = rw (le-ltb _ _ none) }

pub returns-then-file-row : goal.returns-then-file-row
unfolding stored
returns-then-file-row c =
    record { value = rw (le-ltb _ _ c.if-file-row.true); file_after = rw (le-ltb _ _ c.if-file-row.true) }

pub returns : goal.returns
unfolding stored
returns c =
    let a = c.args in
    let room = lt-ltb _ _ c.if-file-row.false in
    let fits = row_fits (length a.row.now) a.row.now a.index a.file.now room in
    record { value = rw room; file_after = rw room (sets_copied _ a.row.now a.file.now (length a.row.now * a.index) _ c.copy_from_slice.ensures.after (omega arith) fits) }
