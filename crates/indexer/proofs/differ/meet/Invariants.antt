-- `meet` meets its contract: so far it is met what there is of the entries passed.
use mathlib.Core.Path.{◌≡◌}
use mathlib.Core.List.{List, ◌++◌}
use Rattle.entry.specs.declared.Entry.{Entry}
use Rattle.entry.specs.Entries.{entry_in}
use Rattle.indexer.specs.Inner.{Meeting}
use Rattle.indexer.proofs.Filling.{left}
use Rattle.indexer.proofs.differ.meet.Given as goal

abbrev pub invariant-loop-e : goal.invariant-loop-e
invariant-loop-e l =
    (done : List Entry) × (done ++ left l.e-iterator.0.now ≡ left l.records) × Meeting l.front.text.now (entry_in l.front.index.now) l.front.n done l.first
