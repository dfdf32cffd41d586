-- `next` meets its contract: what is left has the entries that there were.
use mathlib.Core.Path.{◌≡◌}
use lib.ListN.{length}
use Rattle.indexer.proofs.Filling.{left}
use Rattle.indexer.proofs.fill.EntriesIterator.next.Given as goal

abbrev pub invariant-loop-self : goal.invariant-loop-self
invariant-loop-self l = left l.self.0.now ≡ left l.initial.self.0.now

abbrev pub decreases-loop-self : goal.decreases-loop-self
decreases-loop-self l = length l.self.0.now
