-- `answer_each` meets its contract: so far the answers to the queries passed are laid from the front on.
use Prim.Native.Nat.{◌*◌, ◌/◌, ◌≤◌}
use mathlib.Core.Path.{◌≡◌}
use lib.ListN.{length, drop}
use lib.Seq.{sets}
use Rattle.std.specs.Iterator.Adapters.{enumerate_source, enumerate_count}
use Rattle.std.specs.Slice.Iter.{chunks_exact_rest, chunks_exact_size}
use Rattle.index.specs.Queries.{encoded_all}
use Rattle.indexer.specs.Inner.{sought_each}
use Rattle.indexer.proofs.many.answer_each.Given as goal

abbrev pub invariant-loop-i : goal.invariant-loop-i
invariant-loop-i l =
    record {
      can : (goal.iterator-loop-i).can_next l.i-iterator;
      finite : (goal.iterator-loop-i).is_finite l.i-iterator;
      size : chunks_exact_size (enumerate_source l.i-iterator) ≡ 12;
      within : enumerate_count l.i-iterator ≤ length l.queries / 12;
      rest : chunks_exact_rest (enumerate_source l.i-iterator) ≡ drop (12 * enumerate_count l.i-iterator) l.queries;
      laid : l.answers ≡ sets l.initial.answers 0 (encoded_all (sought_each l.text l.names l.queries (enumerate_count l.i-iterator)));
    }
