-- `indexer::fill::fill` meets its contract: so far the entries passed are laid from the front on.
use Prim.Native.Nat.{◌<◌}
use mathlib.Core.Path.{◌≡◌, sym, ap, ◌∙◌}
use mathlib.Core.List.{[], ◌∷◌, ◌++◌, append-nil}
use mathlib.Core.Logic.{inl}
use native.Mathlib.Omega.{arith}
use lib.ListN.{length, length-append}
use lib.Seq.{sets}
use Rattle.entry.specs.Entries.{count, encoded_all}
use Rattle.indexer.proofs.Filling.{left, left_few, one_passed, nothing_laid, laid_more, laid_all}
use Rattle.indexer.proofs.fill.fill.Goals as goal

pub loop-n-init : goal.loop-n-init
loop-n-init c =
    let i = c.into_iter-n-iterator.ensures.into_iter_gives in
    let e = c.enumerate-n-items.ensures in
    record {
      can = (tt, tt, inl (rw (i, e.count, e.source) (omega (arith, left_few c.args.records.now))));
      finite = tt;
      laid = ([], rw (i, e.source), rw (i, e.count), nothing_laid c.args.index.now);
    }

pub loop-n-preserved : goal.loop-n-preserved
loop-n-preserved c =
    let (done, all, size, so_far) = c.loop-n.invariant.laid in
    let (step, number, next, small) = c.in-Some.ensures.steps in
    let x = c.in-Some.e in
    let after = one_passed done x _ _ all step in
    let few : length done < count c.args.index.now = omega (arith, ap length all, ap length step, length-append done) in
    record {
      can = (tt, tt, inl (omega (arith, left_few c.args.records.now, ap length after, length-append (done ++ x ∷ []), length-append done)));
      finite = tt;
      laid = (
        done ++ x ∷ [],
        after,
        rw length-append (omega arith),
        c.put.ensures.file_after ∙ rw (number, ← size, so_far) (laid_more done x c.args.index.now few),
      );
    }

pub returns : goal.returns
returns c =
    let (done, all, size, so_far) = c.loop-n.invariant.laid in
    let e : done ≡ left c.args.records.now = sym (append-nil done) ∙ ap (◌++◌ done) (sym c.in-None.ensures.steps.0.0) ∙ all in
    so_far ∙ ap (λ es. sets c.args.index.now 0 (encoded_all es)) e ∙ laid_all (left c.args.records.now) c.args.index.now c.requires
