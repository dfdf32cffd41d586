-- `seen_after` meets its contract: what the window shows is added to what was seen.
use Rattle.checker.proofs.Covering.{told_next, covered_next}
use Rattle.checker.proofs.windows.seen_after.Goals as goal
use Rattle.checker.proofs.windows.seen_after.Goals.{in-Some, in-None+in-Some-unmet, in-None+in-None-unmet}

pub returns-clause-covers : goal.returns-clause-covers
returns-clause-covers c =
    λ m r a cov fl.
    covered_next cov fl c.window-step.ensures _
    (λ e.
    let t = told_next cov fl c.window-step.ensures e in
    elim c.match-seen.branch [
      | in-Some w ↦ rw w.lack-is (rw w.in-Some.is at t)
      | in-None+in-Some-unmet w ↦ rw (w.lack-is, w.at_of.ensures.0) (rw (w.in-None.is, w.in-Some-unmet.is) at t)
      | in-None+in-None-unmet w ↦ rw w.lack-is (rw (w.in-None.is, w.in-None-unmet.is) at t)
    ])
