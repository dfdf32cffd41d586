-- `indexer::fill::fill` meets its contract: so far the entries passed are laid from the front on.
use mathlib.Core.Path.{◌≡◌}
use mathlib.Core.List.{List, ◌++◌}
use lib.ListN.{length}
use lib.Seq.{sets}
use Rattle.std.specs.Iterator.Adapters.{enumerate_source, enumerate_count}
use Rattle.entry.specs.declared.Entry.{Entry}
use Rattle.entry.specs.Entries.{encoded_all}
use Rattle.indexer.proofs.Filling.{left}
use Rattle.indexer.proofs.fill.fill.Given as goal

abbrev pub invariant-loop-n : goal.invariant-loop-n
invariant-loop-n l =
    record {
      can : (goal.iterator-loop-n).can_next l.n-iterator;
      finite : (goal.iterator-loop-n).is_finite l.n-iterator;
      laid : (done : List Entry) × (done ++ left (enumerate_source l.n-iterator).0.now ≡ left l.records) × (length done ≡ enumerate_count l.n-iterator)
          × (l.index ≡ sets l.initial.index 0 (encoded_all done));
    }
