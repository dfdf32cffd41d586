-- `rising` meets its contract: the entries passed rise, and their names have at least as many bytes as were summed up.
use Prim.Native.Nat.{◌≤◌}
use Rattle.ordered.specs.Counted.{total_to}
use Rattle.entry.specs.Entries.{entry_in}
use Rattle.indexer.specs.Inner.{largest, len, Rises}
use Rattle.indexer.proofs.differ.rising.Given as goal

abbrev pub invariant-loop-n : goal.invariant-loop-n
invariant-loop-n l =
    record {
      rises : Rises l.text (entry_in l.index) l.n;
      sum : l.named ≤ total_to len (entry_in l.index) l.n;
      most : l.named ≤ largest;
    }
