-- `lookup::first_at` meets its contract: none of the records passed starts at the place.
use Prim.Native.Nat.{◌/◌}
use mathlib.Core.Path.{◌≡◌, sym, ◌∙◌}
use borrow.Author.Tests.{eq-eqb}
use native.Mathlib.Omega.{arith}
use lib.ListN.{length}
use Rattle.file.specs.File.{record_in}
use Rattle.lookup.specs.Chain.{is_at}
use Rattle.lookup.proofs.Search.{hit, miss}
use Rattle.lookup.proofs.first_at.Goals as goal

pub returns-then-at_in-place : goal.returns-then-at_in-place
returns-then-at_in-place c =
    let a = c.args in
    let l = c.loop-i in
    let place : (record_in a.file.now l.i).at ≡ a.place = sym c.at_in.ensures ∙ c.if-at_in-place.true in
    rw (hit a.file.now (is_at a.place) l.i (omega arith) (eq-eqb _ _ place) l.invariant)

pub returns : goal.returns
returns c =
    let l = c.loop-i in
    let e : l.i ≡ length c.args.file.now / 36 = omega arith in
    rw (miss c.args.file.now (is_at c.args.place) (rw e at l.invariant))
