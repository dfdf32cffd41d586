-- `lookup::climb` meets its contract, by the `at` of the record, which is less for its owner.
use Prim.Native.Nat.{◌<◌}
use native.Mathlib.Omega.{arith}
use Rattle.record.specs.declared.Record.{Record}
use Rattle.file.specs.File.{record_in}
use Rattle.lookup.proofs.Steps.{alone, below, inside, lower, further}
use Rattle.lookup.proofs.+climb.Goals as goal

pub returns-in-None : goal.returns-in-None
returns-in-None t c =
    let n = c.owner_index in
    alone c.args.lent.now.now (record_in c.args.lent.now.now c.args.index) c.args.count n.result n.ensures.ended n.ensures.below c.in-None.is

pub climb-requires : goal.climb-requires
climb-requires t c =
    let a = c.args in
    let r : Record = record_in a.lent.now.now a.index in
    let n = c.owner_index in
    let i = c.in-Some.next in
    let b : r.owner < r.at = below a.lent.now.now r a.count n.result n.ensures.ended n.ensures.below i c.in-Some.is in
    let l = lower a.lent.now.now r a.count b n.result (n.ensures.below b) i c.in-Some.is in
    (omega (arith, l, c.decreases), (inside a.lent.now.now r a.count b n.result (n.ensures.below b) i c.in-Some.is, omega (arith, l, c.requires.1)))

pub returns-in-Some : goal.returns-in-Some
returns-in-Some t c =
    let a = c.args in
    let r : Record = record_in a.lent.now.now a.index in
    let n = c.owner_index in
    let i = c.in-Some.next in
    let b : r.owner < r.at = below a.lent.now.now r a.count n.result n.ensures.ended n.ensures.below i c.in-Some.is in
    further a.lent.now.now r a.count b n.result (n.ensures.below b) i c.in-Some.is c.climb.result c.climb.ensures
