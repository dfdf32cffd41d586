-- What holds from round to round: while a heap is made it reaches further to the front, and while it is taken apart what is behind it is sorted.
use Prim.Native.Nat.{ℕ, ◌+◌, ◌-◌, ◌/◌, ◌≤◌, ◌<◌}
use mathlib.Core.Path.{◌≡◌}
use mathlib.Core.List.{List}
use native.Mathlib.Omega.{arith}
use Rattle.ordered.specs.Heap.{Heap, Sunk, Sorting}
use Rattle.ordered.proofs.Heap.{heap_half, sorting_start, sorting_end, sorting_next}
use Rattle.rowfile.specs.Rows.{swapped}
use Rattle.entry.specs.Entries.{count, entry_in}
use Rattle.entry.specs.Order.{precedes}
use Rattle.entry.proofs.Ordered.{precedes_order}
use Rattle.sorter.specs.Heap.{Permuted, Sifts, Heaps, Sorts}
use Rattle.sorter.proofs.Permuting.{permuted_same, permuted_count, permuted_then, permuted_swapped, exchanged_entries}

-- MAKING A HEAP

-- from i on, all are a heap
pub record Heaping (s : List ℕ) (i : ℕ) (file now : List ℕ) : Type 0 where
  pub within : i ≤ count file
  pub permuted : Permuted file now
  pub heap : Heap (precedes s) (entry_in now) i (count file)

pub heaping_start : (s file : List ℕ) → Heaping s (count file / 2) file file
heaping_start s file = record {
  within = omega arith;
  permuted = permuted_same file;
  heap = heap_half (precedes s) (entry_in file) (count file);
}

module _ (s : List ℕ) (i : ℕ) (file now : List ℕ) (h : Heaping s i file now) where
  pub heaping_fit : count file ≤ count now
  heaping_fit = rw (permuted_count file now h.permuted) (omega arith)

  pub heaping_next : (out : List ℕ) → 0 < i → Sifts s (i - 1) (count file) now out → Heaping s (i - 1) file out
  heaping_next out l t = record {
    within = omega (arith, h.within);
    permuted = permuted_then file now out h.permuted t.permuted;
    heap = t.heap (λ j c a k b. h.heap j c (omega arith) k b);
  }

  pub heaping_end : i ≤ 0 → Heaps s file now
  heaping_end l = record { permuted = h.permuted; heap = λ j c a k b. h.heap j c (omega arith) k b }

-- SORTING BY IT

-- the first e are a heap, and those behind are sorted
pub record Rounds (s : List ℕ) (e : ℕ) (file now : List ℕ) : Type 0 where
  pub within : e ≤ count file
  pub permuted : Permuted file now
  pub sorting : Sorting (precedes s) (entry_in now) e (count file)

pub rounds_start : (s file now : List ℕ) → Heaps s file now → Rounds s (count now) now now
rounds_start s file now h =
    let same : count now ≡ count file = permuted_count file now h.permuted in record {
      within = omega arith;
      permuted = permuted_same now;
      sorting = sorting_start (precedes s) (precedes_order s) (entry_in now) (count now) (rw same h.heap);
    }

module _ (s : List ℕ) (e : ℕ) (file now : List ℕ) (h : Rounds s e file now) where
  pub rounds_fit : e ≤ count now
  rounds_fit = rw (permuted_count file now h.permuted) h.within

  pub rounds_end : (first : List ℕ) → Permuted first file → e ≤ 1 → Sorts s first now
  rounds_end first p l =
      let same : count file ≡ count first = permuted_count first file p in record {
        permuted = permuted_then first file now p h.permuted;
        sorted = λ i j a b. sorting_end (precedes s) (precedes_order s) (entry_in now) e (count file) h.sorting l i j a (omega arith);
      }

  -- the first goes to the end of the heap, and what came from there sinks
  module _ (some : 1 < e) (between : List ℕ) (x : between ≡ swapped 16 0 (e - 1) now) where
    swap_less : 0 < e - 1
    swap_less = omega arith

    swap_within : e - 1 < count now
    swap_within = omega (arith, rounds_fit)

    moved : Permuted now between
    moved = rw x (permuted_swapped now 0 (e - 1) swap_less swap_within)

    pub rounds_swapped : e - 1 ≤ count between
    rounds_swapped = omega (arith, permuted_count now between moved, rounds_fit)

    module _ (out : List ℕ) (t : Sifts s 0 (e - 1) between out) where
      sunk : Sunk (precedes s) (entry_in (swapped 16 0 (e - 1) now)) (entry_in out) (e - 1)
      sunk = rw (← x) (record { kept = t.kept; among = t.among; heap = t.heap })

      pub rounds_next : Rounds s (e - 1) file out
      rounds_next =
          let again : e - 1 + 1 ≡ e = omega arith in record {
            within = omega (arith, h.within);
            permuted = permuted_then file now out h.permuted (permuted_then now between out moved t.permuted);
            sorting =
                sorting_next (precedes s) (precedes_order s) (entry_in now) (entry_in (swapped 16 0 (e - 1) now)) (entry_in out) (e - 1) (count file)
                swap_less (omega (arith, h.within)) (rw again h.sorting) (exchanged_entries now 0 (e - 1) swap_less swap_within) sunk;
          }
