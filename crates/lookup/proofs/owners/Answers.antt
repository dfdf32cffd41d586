-- `lookup::owners` meets its contract: its tests are those of `owners`, and what is climbed from the record is the rest of it.
use mathlib.Core.Path.{ap}
use borrow.Author.Tests.{eq-eqb, ne_eqb, lt-ltb, le-ltb}
use native.Mathlib.Nat.{zero-add}
use native.Mathlib.Omega.{arith}
use Rattle.file.specs.File.{record_at}
use Rattle.file.proofs.Fields.{at_small}
use Rattle.std.specs.Prelude.{Ok, Err}
use Rattle.lookup.specs.Chain.{owners}
use Rattle.lookup.proofs.owners.Goals as goal

pub returns-then-length-ne0 : goal.returns-then-length-ne0
unfolding owners
returns-then-length-ne0 c =
    rw (ne_eqb _ _ c.if-length-ne0.true) (ap Err c.not_whole.ensures)

pub returns-then-length-index : goal.returns-then-length-index
unfolding owners record_at
returns-then-length-index c =
    rw (eq-eqb _ _ c.if-length-ne0.false, le-ltb _ _ c.if-length-index.true)

pub climb-requires : goal.climb-requires
climb-requires c =
    let past = c in
    let a = past.args in
    (past.if-length-index.false, omega (arith, at_small a.file.now a.index (λ i. (past.shared_slice_known-1.given i).fits)))

pub returns : goal.returns
unfolding owners record_at
returns c =
    let past = c in
    rw (eq-eqb _ _ past.if-length-ne0.false, lt-ltb _ _ past.if-length-index.false) (ap Ok (rw zero-add at c.climb.ensures))
