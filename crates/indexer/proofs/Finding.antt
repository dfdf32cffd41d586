-- An index that is accepted holds the entries of the reading, so that the least `at` found in it is the least of the reading's.
use Prim.Native.Nat.{ℕ, ◌/◌, ◌<◌}
use native.Mathlib.Omega.{arith}
use mathlib.Core.Path.{◌≡◌, sym, ap, ◌∙◌}
use mathlib.Core.Logic.{⊎_elim}
use mathlib.Core.Bool.{true}
use mathlib.Core.List.Permᴰ
use mathlib.Core.List.{List, Memᴰ}
use borrow.Author.Tests.{ne_eqb}
use lib.ListN.{length, get_or}
use Rattle.std.specs.Option.{unwrap_or}
use Rattle.std.specs.Prelude.{Option, Some, None, Ok, Err}
use Rattle.ordered.proofs.Members.{perm_mem, get_mem, mem_get}
use Rattle.ordered.proofs.Sorting.{rising_all}
use Rattle.refusal.specs.declared.Refusal.{Refusal}
use Rattle.refusal.specs.Table.{judgement}
use Rattle.record.specs.declared.Record.{Record}
use Rattle.grammar.specs.Reading.{reading}
use Rattle.entry.specs.declared.Entry.{Entry}
use Rattle.entry.specs.Entries.{entry, held, entry_in}
use Rattle.entry.specs.Order.{precedes}
use Rattle.entry.proofs.Held.{held_length, held_at}
use Rattle.entry.proofs.Ordered.{precedes_order}
use Rattle.verdict.specs.Meaning.{Reads}
use Rattle.index.specs.Index.{entries, index_of}
use Rattle.index.specs.Answers.{consulted, no_place, least, sought, found}
use Rattle.index.proofs.Laws.{index_rises, index_permutes}
use Rattle.index.proofs.Within.{entry_below}
use Rattle.index.proofs.Least.{least_low, least_of}
use Rattle.index.proofs.Looked.{consulted_held}
use Rattle.indexer.specs.Inner.{Rises, Seeks, Indexed}
use Rattle.indexer.proofs.Judged.{fine, judged_err, judged_ok}

-- AN INDEX THAT IS THE READING'S

blank : Entry
blank = entry 0 0 0 0

module _ (s index : List ℕ) (rs : List Record) (e : Reads s rs) (t : held index ≡ index_of s rs) where
  climbs : Rises s (entry_in index) (length index / 16)
  climbs i j p q =
      let n : length (index_of s rs) ≡ length index / 16 = ap length (sym t) ∙ held_length index in
      let up : precedes s (get_or (index_of s rs) i blank) (get_or (index_of s rs) j blank) ≡ true =
      rising_all (precedes s) (precedes_order s) (index_of s rs) blank (index_rises s rs e) i j p (rw n q) in
      rw (← t, held_at index blank i (omega arith), held_at index blank j q) at up

  -- the entries at the index's positions are those of the reading
  stands : (k : ℕ) → k < length index / 16 → Memᴰ (entry_in index k) (entries rs)
  stands k p =
      let m : Memᴰ (get_or (held index) k blank) (held index) = get_mem (held index) blank k (rw (held_length index) p) in
      let n : Memᴰ (entry_in index k) (index_of s rs) = rw (held_at index blank k p, t) at m in
      perm_mem (index_permutes s rs) n

  stood : (f : Entry) → Memᴰ f (entries rs) → (k : ℕ) × (k < length index / 16) × (f ≡ entry_in index k)
  stood f m =
      let n : Memᴰ f (held index) = rw t (perm_mem (Permᴰ.symm (index_permutes s rs)) m) in
      let (k, p, z) = mem_get (held index) blank f n in
      let l : k < length index / 16 = rw (held_length index) at p in
      (k, l, z ∙ held_at index blank k l)

  module _ (owner : ℕ) (name : List ℕ) where
    abbrev lowest : ℕ
    lowest = least s owner name (entries rs)

    -- what is found there is the least of the reading's
    found_at : (a : ℕ) → Seeks s (entry_in index) (length index / 16) owner name (Some a) → (lowest ≡ a) × (a < no_place)
    found_at a (k, p, b, q, none-less) =
        let m = stands k p in
        let low = least_low s owner name (entries rs) (entry_in index k) m b in
        let small = entry_below s rs e (entry_in index k) m in (
          ⊎_elim (λ z. absurd (omega arith))
              (λ (f, n, c, z). let (j, l, y) = stood f n in omega (arith, none-less j l (rw y at c), ap (λ (g : Entry). g.at) y)) (least_of s owner name (entries rs)),
          omega arith,
        )

    found_nowhere : Seeks s (entry_in index) (length index / 16) owner name None → lowest ≡ no_place
    found_nowhere none =
        ⊎_elim (λ z. z) (λ (f, n, c, z). let (j, l, y) = stood f n in absurd (none j l (rw y at c))) (least_of s owner name (entries rs))

-- WHAT IS SOUGHT IN IT

module _ (s index : List ℕ) (i : Indexed s index) where
  pub indexed_climbs : Rises s (entry_in index) (length index / 16)
  indexed_climbs = let (rs, e, t) = i in climbs s index rs e t

  module _ (owner : ℕ) (name : List ℕ) where
    sought_at : (a : ℕ) → Seeks s (entry_in index) (length index / 16) owner name (Some a) → a ≡ sought s owner name (reading s)
    sought_at a k = let (rs, e, t) = i in rw e (sym (found_at s index rs e t owner name a k).0)

    sought_nowhere : Seeks s (entry_in index) (length index / 16) owner name None → no_place ≡ sought s owner name (reading s)
    sought_nowhere k = let (rs, e, t) = i in rw e (sym (found_nowhere s index rs e t owner name k))

    -- what is sought in it, or that it is nowhere, is the reading's
    pub sought_in : (o : Option ℕ) → Seeks s (entry_in index) (length index / 16) owner name o → unwrap_or o no_place ≡ sought s owner name (reading s)
    sought_in (Some a) k = sought_at a k
    sought_in None k = sought_nowhere k

-- THE ANSWER

module _ (s file index : List ℕ) (owner : ℕ) (name : List ℕ) where
  -- what checking the index refuses is refused
  pub find_err : (e : Refusal) → Err e ≡ judgement (consulted s (reading s) file index) → Err e ≡ found s (reading s) file index owner name
  unfolding found
  find_err e h = let (n, q) = judged_err _ e h in rw (ne_eqb _ _ n, q)

  module _ (h : fine ≡ judgement (consulted s (reading s) file index)) where
    accepted : Indexed s index
    accepted = consulted_held s file index (judged_ok _ h)

    pub index_climbs : Rises s (entry_in index) (length index / 16)
    index_climbs = indexed_climbs s index accepted

    pub find_found : (o : Option ℕ) → Seeks s (entry_in index) (length index / 16) owner name o → Ok o ≡ found s (reading s) file index owner name
    unfolding found
    find_found (Some a) k =
        let (rs, e, t) = accepted in
        let (l, b) = found_at s index rs e t owner name a k in
        rw (judged_ok _ h) (rw e (rw (l, ne_eqb a no_place (λ z. omega arith))))
    find_found None none =
        let (rs, e, t) = accepted in
        rw (judged_ok _ h) (rw e (rw (found_nowhere s index rs e t owner name none)))
