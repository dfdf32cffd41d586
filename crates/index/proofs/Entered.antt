-- The entries of records, by going through the records: each is that of one of them, and another order of the records is one of the entries.
use mathlib.Core.Path.{◌≡◌, refl, ap}
use mathlib.Core.Logic.{⊎_elim}
use mathlib.Core.Bool.{Bool, true, false, cond}
use mathlib.Core.List.Memᴰ
use mathlib.Core.List.Permᴰ
use mathlib.Core.List.{List, [], ◌∷◌, Memᴰ, Permᴰ}
use Rattle.record.specs.declared.Record.{Record}
use Rattle.entry.specs.declared.Entry.{Entry}
use Rattle.index.specs.Index.{entered, entry_of, entries}

-- a record that has an entry has it among the entries
pub entries_mem : (r : Record) (rs : List Record) → Memᴰ r rs → entered r.kind ≡ true → Memᴰ (entry_of r) (entries rs)
unfolding entries
entries_mem r [] m h = absurd (Memᴰ.not-nil m)
entries_mem r (q ∷ rs) m h = ⊎_elim here (λ n. there (entered q.kind) (entries_mem r rs n h)) (Memᴰ.cases_cons m)
  where
    here : r ≡ q → Memᴰ (entry_of r) (cond (entered q.kind) (entry_of q ∷ entries rs) (entries rs))
    here e = let t : entered q.kind ≡ true = rw e at h in rw t (Memᴰ.head (ap entry_of e))

    there : (b : Bool) → Memᴰ (entry_of r) (entries rs) → Memᴰ (entry_of r) (cond b (entry_of q ∷ entries rs) (entries rs))
    there true n = Memᴰ.tail n
    there false n = n

-- and each entry is that of a record
pub mem_entries : (e : Entry) (rs : List Record) → Memᴰ e (entries rs) → (r : Record) × Memᴰ r rs × (entered r.kind ≡ true) × (e ≡ entry_of r)
unfolding entries
mem_entries e [] m = absurd (Memᴰ.not-nil m)
mem_entries e (q ∷ rs) m = go (entered q.kind) refl m (mem_entries e rs)
  where
    Of : List Record → Type 0
    Of l = (r : Record) × Memᴰ r l × (entered r.kind ≡ true) × (e ≡ entry_of r)

    later : Of rs → Of (q ∷ rs)
    later (r, n, t, h) = (r, Memᴰ.tail n, t, h)

    go : (b : Bool) → entered q.kind ≡ b → Memᴰ e (cond b (entry_of q ∷ entries rs) (entries rs)) → (Memᴰ e (entries rs) → Of rs) → Of (q ∷ rs)
    go true t n f = ⊎_elim (λ h. (q, Memᴰ.head refl, t, h)) (λ k. later (f k)) (Memᴰ.cases_cons n)
    go false t n f = later (f n)

-- IN ANY ORDER

entries_head : (a b : Record) (k l : List Record) → a ≡ b → Permᴰ (entries k) (entries l) → Permᴰ (entries (a ∷ k)) (entries (b ∷ l))
unfolding entries
entries_head a b k l e p = rw e (go (entered b.kind))
  where
    go : (t : Bool) → Permᴰ (cond t (entry_of b ∷ entries k) (entries k)) (cond t (entry_of b ∷ entries l) (entries l))
    go true = Permᴰ.cons refl p
    go false = p

entries_swap : (a b : Record) (l : List Record) → Permᴰ (entries (a ∷ b ∷ l)) (entries (b ∷ a ∷ l))
unfolding entries
entries_swap a b l = go (entered a.kind) (entered b.kind)
  where
    go : (t u : Bool) → Permᴰ (cond t (entry_of a ∷ cond u (entry_of b ∷ entries l) (entries l)) (cond u (entry_of b ∷ entries l) (entries l)))
        (cond u (entry_of b ∷ cond t (entry_of a ∷ entries l) (entries l)) (cond t (entry_of a ∷ entries l) (entries l)))
    go true true = Permᴰ.swap refl refl
    go true false = Permᴰ.refl (entry_of a ∷ entries l)
    go false true = Permᴰ.refl (entry_of b ∷ entries l)
    go false false = Permᴰ.refl (entries l)

pub entries_permute : {k l : List Record} → Permᴰ k l → Permᴰ (entries k) (entries l)
entries_permute Permᴰ.nil = Permᴰ.refl (entries [])
entries_permute (Permᴰ.cons {a} {b} {l₁ = k} {l₂ = l} e d) = entries_head a b k l e (entries_permute d)
entries_permute (Permᴰ.swap {a} {b} {a'} {b'} {l} p q) =
    Permᴰ.trans (entries_swap a b l) (entries_head b a' (a ∷ l) (b' ∷ l) q (entries_head a b' l l p (Permᴰ.refl (entries l))))
entries_permute (Permᴰ.trans d e) = Permᴰ.trans (entries_permute d) (entries_permute e)
