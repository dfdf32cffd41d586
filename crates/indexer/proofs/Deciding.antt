-- Where the index first differs from the one that would be built, out of what is found of it: the laws of sorted lists, for entries.
use Prim.Native.Nat.{ℕ, ◌≤◌, ◌<◌, min}
use native.Mathlib.Omega.{arith}
use mathlib.Core.Path.{◌≡◌, sym, ◌∙◌}
use mathlib.Core.Logic.{⊎_elim}
use mathlib.Core.List.{List, Permᴰ}
use lib.ListN.{length, get_or}
use Rattle.ordered.specs.Order as O
use Rattle.ordered.specs.Order.{Apart, sorted}
use Rattle.ordered.specs.Counted.{total}
use Rattle.ordered.proofs.Sorting.{sorted_rises, sorted_permutes}
use Rattle.ordered.proofs.Differing.{Differs, not_after, too_heavy, differs_none, differs_at}
use Rattle.entry.specs.declared.Entry.{Entry}
use Rattle.entry.specs.Entries.{entry, count, held, entry_in}
use Rattle.entry.specs.Order.{precedes}
use Rattle.entry.proofs.Ordered.{precedes_order}
use Rattle.entry.proofs.Held.{held_length, held_at}
use Rattle.index.specs.Answers.{differ}
use Rattle.std.specs.Prelude.{Option, None}
use Rattle.std.specs.Option.{unwrap_or}
use Rattle.indexer.specs.Inner.{largest, len, Rising, Meeting, Agrees}
use Rattle.indexer.proofs.Meetings.{gap_within, gap_each, gap_stop}
use Rattle.indexer.proofs.Sameness.{differ_found}

none : Entry
none = entry 0 0 0 0

-- by the entries that the index holds
held_differ : (index : List ℕ) (l : List Entry) (q : ℕ) → Differs none (entry_in index) (count index) l q → q ≡ differ (held index) l
held_differ index l q h =
    differ_found none (held index) l q
    record {
      given = rw (held_length index) h.given;
      wanted = h.wanted;
      same = λ k p. held_at index none k (omega (arith, h.given)) ∙ h.same k p;
      stop = λ p r e. let c : q < count index = rw (held_length index) at p in h.stop c r (sym (held_at index none q c) ∙ e);
    }

module _ (s index : List ℕ) (es : List Entry) (apart : Apart (precedes s) es) (most : ℕ) (enough : most ≡ min (total len es) largest) (n : ℕ) (rising : Rising s index most n) (first : Option ℕ) (m : Meeting s (entry_in index) n es first) where
  sort : O.Rising (precedes s) (sorted (precedes s) es)
  sort = sorted_rises (precedes s) (precedes_order s) es apart

  order : Permᴰ (sorted (precedes s) es) es
  order = sorted_permutes (precedes s) es

  pub differs_at_once : first ≡ None → n ≡ length es → n ≡ differ (held index) (sorted (precedes s) es)
  differs_at_once a e =
      held_differ index (sorted (precedes s) es) n
      (differs_none (precedes_order s) none sort order
      rising.within rising.rises e (rw a at m))

  -- the next after those that rise is not the next of the sorted list
  no_further : n < count index → n < length (sorted (precedes s) es) → ((k : ℕ) → k ≤ n → entry_in index k ≡ get_or (sorted (precedes s) es) k none) → ⊥
  no_further h l same =
      ⊎_elim
      (λ (n0, b). not_after (precedes_order s) none sort order rising.within rising.rises n0 b l same)
      (λ (less, heavy). too_heavy (precedes_order s) none sort order rising.within rising.rises len
      (omega arith) l same)
      (rising.stop h)

  pub differs_later : (q : ℕ) → Agrees s (entry_in index) (unwrap_or first n) es q → q ≡ differ (held index) (sorted (precedes s) es)
  differs_later q a =
      held_differ index (sorted (precedes s) es) q
      (differs_at (precedes_order s) none sort order
      rising.within rising.rises (unwrap_or first n) (gap_within s _ n es first m) no_further (gap_each s _ n es first m)
      (λ h. let t = gap_stop s _ n es first m h in (t.0, t.1, t.2, t.3.above (unwrap_or first n) (omega arith) h))
      q a.within a.good a.stop)
