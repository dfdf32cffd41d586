-- Inner machinery, which nobody has to believe: what the functions that sort ensure. Here f gives the entries of a file by their position.
use Rattle.std.specs.Prelude.{ℕ, ◌+◌, ◌*◌, ◌≤◌, ◌<◌, ◌≡◌, true, false, length, drop}
use mathlib.Core.List.{List, Permᴰ}
use Rattle.ordered.specs.Heap.{Child, Heap, Greatest}
use Rattle.rowfile.specs.Rows as rows
use Rattle.entry.specs.declared.Entry.{Entry}
use Rattle.entry.specs.Entries.{count, entry_in}
use Rattle.entry.specs.Order.{precedes}

-- d does not come before e
abbrev pub NotAfter : List ℕ → Entry → Entry → Type 0
NotAfter s e d = precedes s d e ≡ false

-- c is a child of i among the first n that comes after e and that no child of i comes after, or n where no child comes after e
pub record Gives (s : List ℕ) (f : ℕ → Entry) (e : Entry) (i n c : ℕ) : Type 0 where
  pub within : c ≤ n
  pub none : c ≡ n → (d : ℕ) → Child i d → d < n → precedes s e (f d) ≡ false
  pub found : c < n → Greatest (precedes s) f i n c
  pub after : c < n → precedes s e (f c) ≡ true

-- the rows of `out` are those of the file in some order, and the bytes past the last row are as they were
pub record Permuted (file out : List ℕ) : Type 0 where
  pub size : length out ≡ length file
  pub order : Permᴰ (rows.held 16 (λ l. l) out) (rows.held 16 (λ l. l) file)
  pub past : drop (16 * count file) out ≡ drop (16 * count file) file

-- the first n have sunk to a heap from the start on, if they were one behind it, and those from n on are as they were
pub record Sifts (s : List ℕ) (start n : ℕ) (file out : List ℕ) : Type 0 where
  pub permuted : Permuted file out
  pub kept : (k : ℕ) → n ≤ k → entry_in out k ≡ entry_in file k
  pub among : (k : ℕ) → k < n → (j : ℕ) × (j < n) × (entry_in out k ≡ entry_in file j)
  pub heap : Heap (precedes s) (entry_in file) (start + 1) n → Heap (precedes s) (entry_in out) start n

pub record Heaps (s : List ℕ) (file out : List ℕ) : Type 0 where
  pub permuted : Permuted file out
  pub heap : Heap (precedes s) (entry_in out) 0 (count file)

-- no entry comes before an earlier one
pub record Sorts (s : List ℕ) (file out : List ℕ) : Type 0 where
  pub permuted : Permuted file out
  pub sorted : (i j : ℕ) → i < j → j < count file → NotAfter s (entry_in out i) (entry_in out j)
