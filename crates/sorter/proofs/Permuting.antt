-- Files with the same rows in another order: as it was, one after the other, and with two rows exchanged.
use Prim.Native.Nat.{ℕ, ◌<◌}
use mathlib.Core.Path.{◌≡◌, refl, ap, ◌∙◌}
use mathlib.Core.List.Permᴰ
use mathlib.Core.List.{List}
use Rattle.ordered.specs.Heap.{Exchanged}
use Rattle.rowfile.specs.Rows as rows
use Rattle.rowfile.proofs.Swapped.{swapped_length, swapped_first, swapped_second, swapped_other, swapped_past, swapped_order}
use Rattle.entry.specs.Entries.{count, decoded, entry_in}
use Rattle.sorter.specs.Heap.{Permuted}

pub permuted_same : (file : List ℕ) → Permuted file file
permuted_same file = record { size = refl; order = Permᴰ.refl (rows.held 16 (λ l. l) file); past = refl }

pub permuted_count : (file out : List ℕ) → Permuted file out → count out ≡ count file
permuted_count file out p = rw p.size

pub permuted_then : (file between out : List ℕ) → Permuted file between → Permuted between out → Permuted file out
permuted_then file between out p q = record {
  size = q.size ∙ p.size;
  order = Permᴰ.trans q.order p.order;
  past = (rw (permuted_count file between p) at q.past) ∙ p.past;
}

-- two rows of a file exchanged
module _ (file : List ℕ) (i j : ℕ) (less : i < j) (within : j < count file) where
  pub permuted_swapped : Permuted file (rows.swapped 16 i j file)
  permuted_swapped = record {
    size = swapped_length 16 i j file less within;
    order = swapped_order 16 i j file less within;
    past = swapped_past 16 i j file less within;
  }

  pub exchanged_entries : Exchanged (entry_in file) (entry_in (rows.swapped 16 i j file)) i j
  exchanged_entries = record {
    first = ap decoded (swapped_first 16 i j file less within);
    second = ap decoded (swapped_second 16 i j file less within);
    other = λ k p q. ap decoded (swapped_other 16 i j file less within k p q);
  }
