-- The bytes that sorting leaves are those of the index: the rows are those of the entries in another order, and of two that are apart the earlier comes before the later.
use Prim.Native.Nat.{ℕ, zero, suc, ◌<◌}
use native.Mathlib.Nat.{le_of_suc-le-suc, not-suc-le-zero}
use native.Mathlib.Omega.{arith}
use mathlib.Core.Path.{◌≡◌, refl, sym, ap, ap₂, subst, ◌∙◌}
use mathlib.Core.Logic.{◌⊎◌, ⊎_elim}
use mathlib.Core.Bool.{Bool, true, false, true≢false}
use mathlib.Core.List.Permᴰ
use mathlib.Core.List.{List, [], ◌∷◌, ◌++◌, map, Memᴰ, Permᴰ}
use lib.ListN.{length, get_or}
use lib.Seq.{take_at, drop_at}
use Rattle.ordered.specs.Order.{Rising, Apart}
use Rattle.ordered.proofs.Members.{perm_mem, apart_perm, get_mem}
use Rattle.ordered.proofs.Sorting.{all_rising}
use Rattle.rowfile.specs.Rows as rows
use Rattle.rowfile.proofs.Held.{front_map, joined_rows}
use Rattle.record.specs.declared.Record.{Record}
use Rattle.file.specs.File as records
use Rattle.entry.specs.declared.Entry.{Entry}
use Rattle.entry.specs.Entries.{entry, encoded, decoded, count, whole, held, encoded_all, entry_in}
use Rattle.entry.specs.Order.{precedes}
use Rattle.entry.proofs.Laws.{InRange, encoded_length, read_back}
use Rattle.entry.proofs.Held.{held_length, held_at, all_whole, all_count}
use Rattle.verdict.specs.Meaning.{Reads, Accepted}
use Rattle.index.specs.Index.{entries, index_of}
use Rattle.index.proofs.Laws.{index_permutes, any_order, apart_held, held_only}
use Rattle.index.proofs.Within.{index_fits}
use Rattle.sorter.specs.Heap.{Sorts}

-- ROWS AS BYTES, AND WHAT THEY HOLD

front_held : (m : ℕ) (file : List ℕ) → rows.front 16 decoded m file ≡ map decoded (rows.front 16 (λ l. l) m file)
front_held m file = sym (front_map 16 (λ l. l) decoded m file)

-- the rows of the bytes of entries are the bytes of each
front_rows : (es : List Entry) → rows.front 16 (λ l. l) (length es) (encoded_all es) ≡ map encoded es
unfolding rows.front rows.joined
front_rows [] = refl
front_rows (e ∷ es) =
    ap₂ ◌∷◌ (take_at (encoded e) (encoded_all es) 16 (encoded_length e))
    (ap (rows.front 16 (λ l. l) (length es)) (drop_at (encoded e) (encoded_all es) 16 (encoded_length e)) ∙ front_rows es)

held_rows : (es : List Entry) → rows.held 16 (λ l. l) (encoded_all es) ≡ map encoded es
held_rows es = ap (λ n. rows.front 16 (λ l. l) n (encoded_all es)) (all_count es) ∙ front_rows es

-- rows each of which is the bytes of what it holds
joined_back : (ls : List (List ℕ)) → ((l : List ℕ) → Memᴰ l ls → encoded (decoded l) ≡ l) → encoded_all (map decoded ls) ≡ rows.joined (λ l. l) ls
unfolding rows.joined
joined_back [] h = refl
joined_back (l ∷ ls) h = ap₂ ◌++◌ (h l (mathlib.Core.List.Memᴰ.head refl)) (joined_back ls (λ k m. h k (mathlib.Core.List.Memᴰ.tail m)))

map_back : (es : List Entry) → ((e : Entry) → Memᴰ e es → InRange e) → map decoded (map encoded es) ≡ es
map_back [] h = refl
map_back (e ∷ es) h = ap₂ ◌∷◌ (read_back e (h e (mathlib.Core.List.Memᴰ.head refl))) (map_back es (λ f m. h f (mathlib.Core.List.Memᴰ.tail m)))

-- a row of entries' bytes is the bytes of one of them
of_entry : (es : List Entry) (l : List ℕ) → Memᴰ l (map encoded es) → (e : Entry) × Memᴰ e es × (l ≡ encoded e)
of_entry [] l m = absurd (mathlib.Core.List.Memᴰ.not-nil m)
of_entry (e ∷ es) l m =
    ⊎_elim (λ h. (e, mathlib.Core.List.Memᴰ.head refl, h)) (λ n. let (f, k, h) = of_entry es l n in (f, mathlib.Core.List.Memᴰ.tail k, h)) (mathlib.Core.List.Memᴰ.cases_cons m)

-- of two things apart, by index
apart_at : {A : Type 0} (before : A → A → Bool) (d : A) (l : List A) → Apart before l → (i j : ℕ) → i < j → j < length l
    → (before (get_or l i d) (get_or l j d) ≡ true) ⊎ (before (get_or l j d) (get_or l i d) ≡ true)
apart_at before d [] h i j p q = absurd (not-suc-le-zero q)
apart_at before d (a ∷ l) h i zero p q = absurd (not-suc-le-zero p)
apart_at before d (a ∷ l) h zero (suc j) p q = h.0 (get_or l j d) (get_mem l d j (le_of_suc-le-suc q))
apart_at before d (a ∷ l) h (suc i) (suc j) p q = apart_at before d l h.1 i j (le_of_suc-le-suc p) (le_of_suc-le-suc q)

-- WHAT SORTING LEAVES

module _ (s : List ℕ) (es : List Entry) (fits : (e : Entry) → Memᴰ e es → InRange e) (out : List ℕ) (sorts : Sorts s (encoded_all es) out) where
  rows_permute : Permᴰ (rows.held 16 (λ l. l) out) (map encoded es)
  rows_permute = subst (λ l. Permᴰ (rows.held 16 (λ k. k) out) l) (held_rows es) sorts.permuted.order

  out_permutes : Permᴰ (held out) es
  out_permutes =
      subst (λ l. Permᴰ l es) (sym (front_held (count out) out))
      (subst (λ l. Permᴰ (map decoded (rows.held 16 (λ k. k) out)) l) (map_back es fits) (Permᴰ.map decoded rows_permute))

  row_back : (l : List ℕ) → Memᴰ l (rows.held 16 (λ k. k) out) → encoded (decoded l) ≡ l
  row_back l m =
      let (e, n, h) = of_entry es l (perm_mem rows_permute m) in
      ap (λ k. encoded (decoded k)) h ∙ ap encoded (read_back e (fits e n)) ∙ sym h

  -- the bytes are those of the entries held
  out_bytes : out ≡ encoded_all (held out)
  out_bytes =
      let w : whole out ≡ true = rw sorts.permuted.size (all_whole es) in
      sym (ap encoded_all (front_held (count out) out) ∙ joined_back (rows.held 16 (λ k. k) out) row_back ∙ joined_rows 16 out w)

  out_count : length (held out) ≡ count (encoded_all es)
  out_count = held_length out ∙ rw sorts.permuted.size

  out_rises : Apart (precedes s) es → Rising (precedes s) (held out)
  out_rises h = all_rising (precedes s) (held out) (entry 0 0 0 0) at
    where
      f : ℕ → Entry
      f i = get_or (held out) i (entry 0 0 0 0)

      is : (i : ℕ) → i < length (held out) → f i ≡ entry_in out i
      is i p = held_at out (entry 0 0 0 0) i (rw (held_length out) at p)

      at : (i j : ℕ) → i < j → j < length (held out) → precedes s (f i) (f j) ≡ true
      at i j p q =
          let low : i < length (held out) = omega arith in
          let no : precedes s (f j) (f i) ≡ false = rw (is i low, is j q) (sorts.sorted i j p (rw out_count at q)) in
          ⊎_elim (λ t. t) (λ t. absurd (true≢false (sym t ∙ no))) (apart_at (precedes s) (entry 0 0 0 0) (held out) (apart_perm (precedes s) out_permutes h) i j p q)

-- the entries of an accepted file are in range, as those of the reading are
entries_fit : (s : List ℕ) (rs : List Record) (file : List ℕ) → Reads s rs → Accepted s file
    → (e : Entry) → Memᴰ e (entries (records.held file)) → InRange e
entries_fit s rs file q a e m =
    let n : Memᴰ e (index_of s rs) = rw (any_order s rs file q a) at (perm_mem (Permᴰ.symm (index_permutes s (records.held file))) m) in
    index_fits s rs q e n

-- the bytes of an accepted file's entries are sorted to those of the index
pub sorted_bytes : (s : List ℕ) (rs : List Record) (file : List ℕ) → Reads s rs → Accepted s file
    → (out : List ℕ) → Sorts s (encoded_all (entries (records.held file))) out → out ≡ encoded_all (index_of s rs)
sorted_bytes s rs file e a out sorts =
    let es = entries (records.held file) in
    let fits = entries_fit s rs file e a in
    out_bytes s es fits out sorts
    ∙ ap encoded_all (held_only s rs file e a (held out) (out_rises s es fits out sorts (apart_held s file a)) (out_permutes s es fits out sorts))
