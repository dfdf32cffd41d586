-- `named_in` meets its contract: so far the sum, and with what is left, is that of all entries.
use Prim.Native.Nat.{◌+◌, ◌≤◌, min}
use mathlib.Core.Path.{◌≡◌}
use Rattle.ordered.specs.Counted.{total}
use Rattle.indexer.specs.Inner.{largest, len}
use Rattle.indexer.proofs.Filling.{left}
use Rattle.indexer.proofs.differ.named_in.Given as goal

abbrev pub invariant-loop-e : goal.invariant-loop-e
invariant-loop-e l =
    record {
      most : l.n ≤ largest;
      sum : min (l.n + total len (left l.e-iterator.0.now)) largest ≡ min (total len (left l.records)) largest;
    }
