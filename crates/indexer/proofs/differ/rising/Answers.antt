-- `rising` meets its contract: the entries passed rise, and their names have at least as many bytes as were summed up.
use mathlib.Core.Path.{ap}
use mathlib.Core.Logic.{inl, inr}
use native.Mathlib.Omega.{arith}
use Rattle.ordered.proofs.Totals.{weighs_more}
use Rattle.entry.specs.Entries.{entry_in}
use Rattle.indexer.specs.Inner.{len}
use Rattle.indexer.proofs.Meetings.{rises_more}
use Rattle.indexer.proofs.differ.rising.Goals as goal
use Rattle.indexer.proofs.differ.rising.Goals.{then-most-named-via-then-most-named, then-most-named-via-else-most-named+then-not-precedes}

pub returns-then-most-named-clause-stops : goal.returns-then-most-named-clause-stops
returns-then-most-named-clause-stops c =
    let a = c.args in
    let l = c.loop-n in
    let d = ap len c.read-e.ensures.of in
    record {
      within = omega arith;
      rises = l.invariant.rises;
      stop = λ h. elim c.then-most-named.branch [
        | then-most-named-via-then-most-named w ↦ inr (omega arith, omega (arith, weighs_more len (entry_in a.index.now) l.n, l.invariant.sum, d))
        | then-most-named-via-else-most-named+then-not-precedes w ↦ inl (omega arith, rw (w.precedes.ensures, w.read.ensures.of, c.read-e.ensures.of) at w.if-not-precedes.true)
      ];
    }

pub loop-n-preserved : goal.loop-n-preserved
loop-n-preserved c =
    let a = c.args in
    let l = c.loop-n in
    let d = ap len c.read-e.ensures.of in
    record {
      rises = rises_more a.text.now (entry_in a.index.now) l.n (omega arith) l.invariant.rises (rw (c.precedes.ensures, c.read.ensures.of, c.read-e.ensures.of) at c.if-not-precedes.false);
      sum = omega (arith, weighs_more len (entry_in a.index.now) l.n, l.invariant.sum, d);
      most = omega arith;
    }
