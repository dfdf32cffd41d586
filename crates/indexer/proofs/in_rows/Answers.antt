-- `indexer::in_rows` meets its contract: the two tests are those of the definition.
use Prim.Native.Nat.{◌%◌}
use borrow.Author.Tests.{eq-eqb, ne_eqb, le-ltb, lt-ltb}
use lib.ListN.{length}
use Rattle.indexer.specs.Inner.{between}
use Rattle.indexer.proofs.in_rows.Goals as goal
use Rattle.indexer.proofs.in_rows.Goals.{in-Err+else-refusal-lt-WRONG_RECORD, in_default}

pub returns-then-refusal-lt-WRONG_RECORD : goal.returns-then-refusal-lt-WRONG_RECORD
unfolding between
returns-then-refusal-lt-WRONG_RECORD c = rw c.in-Err.is (rw (lt-ltb _ _ c.if-refusal-lt-WRONG_RECORD.true))

pub returns-then-file-width-ne0 : goal.returns-then-file-width-ne0
unfolding between
returns-then-file-width-ne0 c =
    let n = ne_eqb (length c.args.file.now % c.args.width) 0 c.if-file-width-ne0.true in
    elim c.match-answer.branch [
      | in-Err+else-refusal-lt-WRONG_RECORD w ↦ rw (w.in-Err.is, c.not_whole.ensures) (rw (le-ltb _ _ w.if-refusal-lt-WRONG_RECORD.false, n))
      | in_default w ↦ rw (w.in_default.is, c.not_whole.ensures) (rw n)
    ]

pub returns : goal.returns
unfolding between
returns c =
    let e = eq-eqb (length c.args.file.now % c.args.width) 0 c.if-file-width-ne0.false in
    elim c.match-answer.branch [
      | in-Err+else-refusal-lt-WRONG_RECORD w ↦ rw (w.answer-is, w.in-Err.is) (rw (le-ltb _ _ w.if-refusal-lt-WRONG_RECORD.false, e))
      | in_default w ↦ rw (w.answer-is, w.in_default.is) (rw e)
    ]
