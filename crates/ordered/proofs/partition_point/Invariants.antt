-- `ordered::partition_point` meets its contract: the test holds right before low, and fails at high.
use Prim.Native.Nat.{◌-◌, ◌≤◌, ◌<◌}
use mathlib.Core.Bool.{true, false}
use Rattle.ordered.proofs.partition_point.Given as goal

abbrev pub invariant-loop-low : goal.invariant-loop-low
invariant-loop-low g l =
    record {
      lo_le : l.low ≤ l.high;
      hi_le : l.high ≤ l.n;
      before : 0 < l.low → goal.F-post g l.holds (l.low - 1) true;
      after : l.high < l.n → goal.F-post g l.holds l.high false;
    }

abbrev pub decreases-loop-low : goal.decreases-loop-low
decreases-loop-low g l = l.high - l.low
