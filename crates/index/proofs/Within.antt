-- The entries of a reading fit their bytes as its records do, and each `at` is below the text's end, which is within the limit.
use Prim.Native.Nat.{ℕ, ◌<◌}
use native.Mathlib.Omega.{arith}
use mathlib.Core.Path.{◌≡◌, refl, ap}
use mathlib.Core.Logic.{⊎_elim}
use mathlib.Core.List.Memᴰ
use mathlib.Core.List.Permᴰ
use mathlib.Core.List.{List, [], ◌∷◌, Memᴰ}
use lib.ListN.{length}
use Rattle.ordered.proofs.Members.{perm_mem}
use Rattle.record.specs.declared.Record.{Record}
use Rattle.record.specs.Range.{InRange as RecordFits}
use Rattle.grammar.specs.Standing.{Every, places_of}
use Rattle.grammar.proofs.Places.{places_within}
use Rattle.grammar.proofs.Ranges.{short}
use Rattle.verdict.specs.Meaning.{Reads}
use Rattle.verdict.proofs.Read.{reading_fits}
use Rattle.entry.specs.declared.Entry.{Entry}
use Rattle.entry.specs.Entries.{held, encoded_all}
use Rattle.entry.proofs.Laws.{InRange}
use Rattle.entry.proofs.Held.{held_all}
use Rattle.index.specs.Index.{entries, index_of}
use Rattle.index.specs.Answers.{no_place}
use Rattle.index.proofs.Entered.{mem_entries}
use Rattle.index.proofs.Laws.{index_permutes}

place_below : (n : ℕ) (rs : List Record) → Every (λ p. p < n) (places_of rs) → (r : Record) → Memᴰ r rs → r.at < n
place_below n [] h r m = absurd (Memᴰ.not-nil m)
place_below n (q ∷ rs) h r m = ⊎_elim (λ e. rw e h.0) (place_below n rs h.1 r) (Memᴰ.cases_cons m)

-- no record of a reading is where no `at` is
pub at_below : (s : List ℕ) (rs : List Record) → Reads s rs → (r : Record) → Memᴰ r rs → r.at < no_place
at_below s rs e r m = omega (arith, place_below (length s) rs (places_within s rs e) r m, short s rs e)

-- nor is an entry
pub entry_below : (s : List ℕ) (rs : List Record) → Reads s rs → (e : Entry) → Memᴰ e (entries rs) → e.at < no_place
entry_below s rs h e m =
    let (r, n, t, q) = mem_entries e rs m in
    omega (arith, ap (λ (g : Entry). g.at) q, at_below s rs h r n)

-- entries fit their bytes
entry_fits : (r : Record) (e : Entry) → RecordFits r → e.owner ≡ r.owner → e.name ≡ r.name → e.len ≡ r.len → e.at ≡ r.at → InRange e
entry_fits r e f o n l a =
    record {
      owner_fits = omega (arith, f.owner_fits);
      name_fits = omega (arith, f.name_fits);
      len_fits = omega (arith, f.len_fits);
      at_fits = omega (arith, f.at_fits);
    }

pub index_fits : (s : List ℕ) (rs : List Record) → Reads s rs → (e : Entry) → Memᴰ e (index_of s rs) → InRange e
index_fits s rs h e m =
    let (r, n, t, q) = mem_entries e rs (perm_mem (index_permutes s rs) m) in
    rw q (entry_fits r _ (reading_fits s rs rs h (Permᴰ.refl rs) r n) refl refl refl refl)

-- the bytes of the index hold it
pub index_held : (s : List ℕ) (rs : List Record) → Reads s rs → held (encoded_all (index_of s rs)) ≡ index_of s rs
index_held s rs h = held_all (index_of s rs) (index_fits s rs h)
