-- The index is the one rising order of the entries: no two records of a reading have one `at`, so of two entries one comes before the other.
use Prim.Native.Nat.{ℕ, suc, ◌<◌, zero-le, suc-le-suc}
use native.Mathlib.Omega.{arith}
use mathlib.Core.Path.{◌≡◌, sym, ap, ◌∙◌}
use mathlib.Core.Logic.{◌⊎◌}
use mathlib.Core.Bool.{Bool, true, false, cond}
use mathlib.Core.List.Permᴰ
use mathlib.Core.List.{List, [], ◌∷◌, Memᴰ, Permᴰ}
use Rattle.ordered.specs.Order.{Rising, Apart}
use Rattle.ordered.proofs.Members.{mem_get, apart_perm}
use Rattle.ordered.proofs.Sorting.{sorted_permutes, sorted_rises, only, same_sorted}
use Rattle.record.specs.declared.Record.{Record}
use Rattle.file.specs.File.{held}
use Rattle.entry.specs.declared.Entry.{Entry}
use Rattle.entry.specs.Order.{precedes}
use Rattle.entry.proofs.Ordered.{precedes_order, apart}
use Rattle.verdict.specs.Verdict.{blank}
use Rattle.verdict.specs.Meaning.{Rises, Permutation, Reads, Accepted}
use Rattle.verdict.proofs.Read.{reading_rises}
use Rattle.verdict.proofs.Judged.{one_reading, accepted_order}
use Rattle.index.specs.Index.{entered, entry_of, entries, index_of}
use Rattle.index.proofs.Entered.{mem_entries}
pub use Rattle.index.proofs.Entered.{entries_permute}

-- APART

-- the first of rising records has a lesser `at` than each of the others
below : (r : Record) (rs : List Record) → Rises (r ∷ rs) → (q : Record) → Memᴰ q rs → r.at < q.at
below r rs up q m = let (i, h, e) = mem_get rs blank q m in rw e (up 0 (suc i) (suc-le-suc zero-le) (suc-le-suc h))

apart_entries : (s : List ℕ) (rs : List Record) → Rises rs → Apart (precedes s) (entries rs)
unfolding entries
apart_entries s [] up = tt
apart_entries s (r ∷ rs) up = go (entered r.kind) (apart_entries s rs (λ i j p q. up (suc i) (suc j) (suc-le-suc p) (suc-le-suc q)))
  where
    first : (f : Entry) → Memᴰ f (entries rs) → (precedes s (entry_of r) f ≡ true) ⊎ (precedes s f (entry_of r) ≡ true)
    first f m =
        let (q, n, t, e) = mem_entries f rs m in
        apart s (entry_of r) f (λ h. absurd (omega (arith, below r rs up q n, h, ap (λ (g : Entry). g.at) e)))

    go : (b : Bool) → Apart (precedes s) (entries rs) → Apart (precedes s) (cond b (entry_of r ∷ entries rs) (entries rs))
    go true h = (first, h)
    go false h = h

pub apart_read : (s : List ℕ) (rs : List Record) → Reads s rs → Apart (precedes s) (entries rs)
apart_read s rs e = apart_entries s rs (reading_rises s rs e)

-- in whatever order the records are
pub apart_order : (s : List ℕ) (rs fs : List Record) → Reads s rs → Permutation fs rs → Apart (precedes s) (entries fs)
apart_order s rs fs e p = apart_perm (precedes s) (entries_permute p) (apart_read s rs e)

pub apart_held : (s file : List ℕ) → Accepted s file → Apart (precedes s) (entries (held file))
apart_held s file a = let (rs, e, w, p) = accepted_order s file a in apart_order s rs (held file) e p

-- THE INDEX

pub index_rises : (s : List ℕ) (rs : List Record) → Reads s rs → Rising (precedes s) (index_of s rs)
index_rises s rs e = sorted_rises (precedes s) (precedes_order s) (entries rs) (apart_read s rs e)

pub index_permutes : (s : List ℕ) (rs : List Record) → Permᴰ (index_of s rs) (entries rs)
index_permutes s rs = sorted_permutes (precedes s) (entries rs)

pub index_only : (s : List ℕ) (rs : List Record) → Reads s rs → (l : List Entry) → Rising (precedes s) l → Permᴰ l (entries rs) → l ≡ index_of s rs
index_only s rs e l h p =
    only (precedes s) (precedes_order s) l (index_of s rs) h (index_rises s rs e) (Permᴰ.trans p (Permᴰ.symm (index_permutes s rs)))

-- of the records in another order it is the same
pub index_order : (s : List ℕ) (rs fs : List Record) → Reads s rs → Permutation fs rs → index_of s fs ≡ index_of s rs
index_order s rs fs e p = same_sorted (precedes s) (precedes_order s) (entries fs) (entries rs) (apart_read s rs e) (entries_permute p)

pub any_order : (s : List ℕ) (rs : List Record) (file : List ℕ) → Reads s rs → Accepted s file → index_of s (held file) ≡ index_of s rs
any_order s rs file e a =
    let (qs, h, w, p) = accepted_order s file a in
    index_order s qs (held file) h p ∙ ap (index_of s) (one_reading s qs rs h e)

pub two_files : (s f g : List ℕ) → Accepted s f → Accepted s g → index_of s (held f) ≡ index_of s (held g)
two_files s f g a b =
    let (rs, e, w, p) = accepted_order s f a in
    any_order s rs f e a ∙ sym (any_order s rs g e b)

-- what rises and has the entries of an accepted file is the index
pub held_only : (s : List ℕ) (rs : List Record) (file : List ℕ) → Reads s rs → Accepted s file
    → (l : List Entry) → Rising (precedes s) l → Permᴰ l (entries (held file)) → l ≡ index_of s rs
held_only s rs file e a l h p =
    let (qs, f, w, o) = accepted_order s file a in
    let same : qs ≡ rs = one_reading s qs rs f e in
    index_only s rs e l h (Permᴰ.trans p (entries_permute (rw same at o)))
