-- `meet` meets its contract: so far it is met what there is of the entries passed.
use mathlib.Core.List.{[], ◌∷◌, ◌++◌}
use Rattle.entry.specs.Entries.{entry_in}
use Rattle.indexer.proofs.Filling.{one_passed}
use Rattle.indexer.proofs.Meetings.{met_there, met_missing}
use Rattle.indexer.proofs.differ.meet.Goals as goal

pub loop-e-preserved-in-Some-missing : goal.loop-e-preserved-in-Some-missing
loop-e-preserved-in-Some-missing c =
    let f = c.args.front.now in
    let (done, e, m) = c.loop-e.invariant in
    let x = c.in-Some.e in
    let g = c.in-Some-missing.ensures in (
      done ++ x ∷ [],
      one_passed done x _ _ e c.in-Some.ensures.steps,
      rw (c.min.ensures, c.unwrap_or.ensures) (met_missing f.text.now (entry_in f.index.now) f.n done x c.loop-e.first c.in-Some-missing.p m g.0 g.1),
    )

pub loop-e-preserved : goal.loop-e-preserved
loop-e-preserved c =
    let f = c.args.front.now in
    let (done, e, m) = c.loop-e.invariant in
    let x = c.in-Some.e in (
      done ++ x ∷ [],
      one_passed done x _ _ e c.in-Some.ensures.steps,
      met_there f.text.now (entry_in f.index.now) f.n done x c.loop-e.first m c.in_default.ensures,
    )
