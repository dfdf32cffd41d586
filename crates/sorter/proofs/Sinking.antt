-- An entry that sinks: so far the rows are the same in another order, those from n on are kept, and only it may come before its children.
use Prim.Native.Nat.{ℕ, ◌+◌, ◌≤◌, ◌<◌}
use mathlib.Core.Path.{◌≡◌, refl, ◌∙◌}
use mathlib.Core.Bool.{true, false}
use mathlib.Core.List.{List}
use native.Mathlib.Decide.{ℕ_discrete}
use native.Mathlib.Omega.{arith}
use Rattle.ordered.specs.Heap.{Child, Heap, Sinking, Greatest}
use Rattle.ordered.proofs.Heap.{sinking_start, sinking_next, sinking_end, child_behind}
use Rattle.rowfile.specs.Rows.{swapped}
use Rattle.entry.specs.Entries.{count, entry_in}
use Rattle.entry.specs.Order.{precedes}
use Rattle.entry.proofs.Ordered.{precedes_order}
use Rattle.sorter.specs.Heap.{Permuted, Sifts}
use Rattle.sorter.proofs.Permuting.{permuted_same, permuted_count, permuted_then, permuted_swapped, exchanged_entries}

pub record Sinks (s : List ℕ) (start n i : ℕ) (file now : List ℕ) : Type 0 where
  pub from : start ≤ i
  pub below : i < n
  pub here : entry_in now i ≡ entry_in file start
  pub permuted : Permuted file now
  pub kept : (k : ℕ) → n ≤ k → entry_in now k ≡ entry_in file k
  pub among : (k : ℕ) → k < n → (j : ℕ) × (j < n) × (entry_in now k ≡ entry_in file j)
  pub sinking : Heap (precedes s) (entry_in file) (start + 1) n → Sinking (precedes s) (entry_in now) start i n

pub sinks_start : (s : List ℕ) (start n : ℕ) (file : List ℕ) → start < n → Sinks s start n start file file
sinks_start s start n file h = record {
  from = omega arith;
  below = h;
  here = refl;
  permuted = permuted_same file;
  kept = λ k l. refl;
  among = λ k l. (k, l, refl);
  sinking = λ p. sinking_start (precedes s) (precedes_order s) (entry_in file) start n p;
}

module _ (s : List ℕ) (start n i : ℕ) (file now : List ℕ) (h : Sinks s start n i file now) where
  pub sinks_fit : n ≤ count file → n ≤ count now
  sinks_fit l = rw (permuted_count file now h.permuted) l

  -- where nothing comes after it, it has sunk
  sinks_end : (Heap (precedes s) (entry_in file) (start + 1) n → Heap (precedes s) (entry_in now) start n) → Sifts s start n file now
  sinks_end p = record { permuted = h.permuted; kept = h.kept; among = h.among; heap = p }

  -- no child comes after it
  pub sinks_none : ((d : ℕ) → Child i d → d < n → precedes s (entry_in file start) (entry_in now d) ≡ false) → Sifts s start n file now
  sinks_none none =
      sinks_end (λ p. sinking_end (precedes s) (precedes_order s) (entry_in now) start i n (h.sinking p) (λ d k m. rw h.here (none d k m)))

  module _ (c : ℕ) (g : Greatest (precedes s) (entry_in now) i n c) where
    -- it is exchanged with its greatest child
    module _ (fits : n ≤ count now) where
      deeper : i < c
      deeper = child_behind i c g.child

      inside : c < count now
      inside = omega (arith, g.within)

      next_kept : (k : ℕ) → n ≤ k → entry_in (swapped 16 i c now) k ≡ entry_in now k
      next_kept k l = (exchanged_entries now i c deeper inside).other k (λ e. omega (arith, h.below)) (λ e. omega (arith, g.within))

      next_among : (k : ℕ) → k < n → (j : ℕ) × (j < n) × (entry_in (swapped 16 i c now) k ≡ entry_in now j)
      next_among k l =
          let x = exchanged_entries now i c deeper inside in
          elim (ℕ_discrete k i) [
            | yes e ↦ (c, g.within, rw e x.first)
            | no p ↦ elim (ℕ_discrete k c) [
              | yes e ↦ (i, h.below, rw e x.second)
              | no q ↦ (k, l, x.other k p q)
            ]
          ]

      exchanged : precedes s (entry_in now i) (entry_in now c) ≡ true → Sinks s start n c file (swapped 16 i c now)
      exchanged e = record {
        from = omega (arith, h.from, deeper);
        below = g.within;
        here = (exchanged_entries now i c deeper inside).second ∙ h.here;
        permuted = permuted_then file now (swapped 16 i c now) h.permuted (permuted_swapped now i c deeper inside);
        kept = λ k l. next_kept k l ∙ h.kept k l;
        among = λ k l.
            let w = next_among k l in
            let v = h.among w.0 w.1 in
            (v.0, v.1, w.2 ∙ v.2);
        sinking = λ p.
            sinking_next (precedes s) (precedes_order s) (entry_in now) (entry_in (swapped 16 i c now)) start i n c (h.sinking p) g e
            (exchanged_entries now i c deeper inside);
      }

      pub sinks_next : (out : List ℕ) → out ≡ swapped 16 i c now → precedes s (entry_in file start) (entry_in now c) ≡ true → Sinks s start n c file out
      sinks_next out q e = rw q (exchanged (rw h.here e))
