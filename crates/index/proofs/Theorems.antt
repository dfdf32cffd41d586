-- WHAT AN INDEX PROMISES, over the reading of the text alone: each answer is given exactly where this says, by the cases of the definitions.
use Prim.Native.Nat.{ℕ, ◌≤◌, ◌<◌}
use native.Mathlib.Omega.{arith}
use mathlib.Core.Path.{◌≡◌, sym, ap, ◌∙◌}
use mathlib.Core.Logic.{◌↔◌}
use mathlib.Core.Bool.{true, false}
use mathlib.Core.List.Memᴰ
use mathlib.Core.List.{List, Permᴰ}
use lib.ListN.{length}
use Rattle.std.specs.Prelude.{Some, None, Ok, Err}
use Rattle.ordered.specs.Order.{Rising}
use Rattle.ordered.proofs.Members.{get_mem}
use Rattle.refusal.specs.declared.Refusal.{Refusal}
use Rattle.refusal.specs.Table.{refused, done, record_room, not_whole, index_differs}
use Rattle.little.specs.Little.{Bytes}
use Rattle.record.specs.declared.Record.{Record}
use Rattle.file.specs.File as records-file
use Rattle.grammar.specs.Reading.{refusal_of, reading}
use Rattle.verdict.specs.Verdict.{blank, checked}
use Rattle.verdict.specs.Meaning.{Reads, Accepted}
use Rattle.entry.specs.declared.Entry.{Entry}
use Rattle.entry.specs.Entries.{whole, held, encoded_all}
use Rattle.entry.specs.Order.{precedes}
use Rattle.entry.proofs.Held.{all_whole, all_held}
use Rattle.index.specs.Index.{entries, index_of}
use Rattle.index.specs.Answers.{built, consulted, no_place, sought, found}
use Rattle.index.specs.Meaning.{LeastAt, NoneCalled, DifferAt}
use Rattle.index.proofs.Laws as laws
use Rattle.index.proofs.Compared.{compared_same, compared_differ}
use Rattle.index.proofs.Within.{at_below, index_held}
use Rattle.index.proofs.Least.{least_most, least_says, nowhere_says as least_nowhere}
use Rattle.index.proofs.Answered.{by_compared, by_room, room_done, room_lacking, built_refused, consulted_refused}
use Rattle.index.proofs.Looked.{found_at, found_nowhere, found_refused}

-- THE INDEX is sorted: each entry comes before the next
pub index_rises : (s : List ℕ) (rs : List Record) → Reads s rs → Rising (precedes s) (index_of s rs)
index_rises = laws.index_rises

-- it is the entries of the records, each once
pub index_permutes : (s : List ℕ) (rs : List Record) → Permᴰ (index_of s rs) (entries rs)
index_permutes = laws.index_permutes

-- and no other list is both
pub index_only : (s : List ℕ) (rs : List Record) → Reads s rs → (l : List Entry) → Rising (precedes s) l → Permᴰ l (entries rs) → l ≡ index_of s rs
index_only = laws.index_only

-- THE ORDER OF THE RECORDS does not matter: of every accepted file the index is that of the reading
pub any_order : (s : List ℕ) (rs : List Record) (file : List ℕ) → Reads s rs → Accepted s file → index_of s (records-file.held file) ≡ index_of s rs
any_order = laws.any_order

-- and so of any two accepted files it is one
pub two_files : (s f g : List ℕ) → Accepted s f → Accepted s g → index_of s (records-file.held f) ≡ index_of s (records-file.held g)
two_files = laws.two_files

-- BUILDING answers 0 with the count where the file is accepted and there is room
pub built_says : (s file : List ℕ) (room n : ℕ)
    → (built s (reading s) file room ≡ refused done n 0)
    ↔ ((rs : List Record) × Reads s rs × Accepted s file × (length (index_of s rs) ≡ n) × (length (index_of s rs) ≤ room))
built_says s file room n =
    let j = by_room s file room done n (λ h. omega arith) (λ h. omega arith, λ h. omega arith, λ h. omega arith) in (
      λ e. let (rs, q, a, h) = j.0 e in let z = (room_done (length (index_of s rs)) room n).0 h in (rs, q, a, z.0, z.1),
      λ (rs, q, a, h, l). j.1 (rs, q, a, (room_done (length (index_of s rs)) room n).1 (h, l)),
    )

-- 11 with the count: the file is accepted, and there is no room
pub no_room_says : (s file : List ℕ) (room n : ℕ)
    → (built s (reading s) file room ≡ refused record_room n 0)
    ↔ ((rs : List Record) × Reads s rs × Accepted s file × (length (index_of s rs) ≡ n) × (room < length (index_of s rs)))
no_room_says s file room n =
    let j = by_room s file room record_room n (λ h. omega arith) (λ h. omega arith, λ h. omega arith, λ h. omega arith) in (
      λ e. let (rs, q, a, h) = j.0 e in let z = (room_lacking (length (index_of s rs)) room n).0 h in (rs, q, a, z.0, z.1),
      λ (rs, q, a, h, l). j.1 (rs, q, a, (room_lacking (length (index_of s rs)) room n).1 (h, l)),
    )

-- CHECKING answers 0 where the file is accepted and the index is, byte for byte, the one that would be built
pub accepted_exactly : (s file index : List ℕ) → Bytes index
    → (consulted s (reading s) file index ≡ refused done 0 0) ↔ ((rs : List Record) × Reads s rs × Accepted s file × (index ≡ encoded_all (index_of s rs)))
accepted_exactly s file index b =
    let j = by_compared s file index done 0 (λ h. omega arith) in (
      λ e.
          let (rs, q, a, w, h) = j.0 e in
          (rs, q, a, sym (all_held index b w) ∙ ap encoded_all ((compared_same (held index) (index_of s rs)).0 h)),
      λ (rs, q, a, f).
          let h : held index ≡ index_of s rs = ap held f ∙ index_held s rs q in
          j.1 (rs, q, a, ap whole f ∙ all_whole (index_of s rs), (compared_same (held index) (index_of s rs)).1 h),
    )

-- 16: the file is accepted, the index is in whole entries, and p is the first position at which it is not the one that would be built
pub differs_says : (s file index : List ℕ) (p : ℕ)
    → (consulted s (reading s) file index ≡ refused index_differs p 0)
    ↔ ((rs : List Record) × Reads s rs × Accepted s file × (whole index ≡ true) × DifferAt (held index) (index_of s rs) p)
differs_says s file index p =
    let j = by_compared s file index index_differs p (λ h. omega arith) in (
      λ e. let (rs, q, a, w, h) = j.0 e in (rs, q, a, w, (compared_differ (held index) (index_of s rs) p).0 h),
      λ (rs, q, a, w, h). j.1 (rs, q, a, w, (compared_differ (held index) (index_of s rs) p).1 h),
    )

-- WHICH REFUSAL COMES FIRST: the text's own
pub refused_first : (s file index : List ℕ) (room : ℕ) (r : Refusal) → reading s ≡ refusal_of r
    → (built s (reading s) file room ≡ r) × (consulted s (reading s) file index ≡ r)
refused_first s file index room r e = (rw e, rw e)

-- then 13 for the records
pub records_next : (s file index : List ℕ) (room : ℕ) (rs : List Record) → Reads s rs → records-file.whole file ≡ false
    → (built s (reading s) file room ≡ refused not_whole (length file) 0) × (consulted s (reading s) file index ≡ refused not_whole (length file) 0)
records_next s file index room rs e w = (rw e (rw w), rw e (rw w))

-- then 13 for the index
pub index_next : (s file index : List ℕ) (rs : List Record) → Reads s rs → records-file.whole file ≡ true → whole index ≡ false
    → consulted s (reading s) file index ≡ refused not_whole (length index) 0
index_next s file index rs e w v = rw e (rw (w, v))

-- then 14 and 15, which are those of checking the file; 11 and 16 come last
pub verdict_next : (s file index : List ℕ) (room : ℕ) → (Accepted s file → ⊥)
    → (built s (reading s) file room ≡ checked (reading s) file)
    × (whole index ≡ true → consulted s (reading s) file index ≡ checked (reading s) file)
verdict_next s file index room n = (built_refused s file n room, consulted_refused s file n index)

-- LOOKING UP: the least `at` of the SITE blocks, MACROs and PINs of that owner and name, whatever the number and the bytes asked for
pub found_says : (s : List ℕ) (rs : List Record) → Reads s rs → (owner : ℕ) (name : List ℕ) (a : ℕ) → a < no_place
    → (sought s owner name (reading s) ≡ a) ↔ LeastAt s owner name rs a
found_says s rs e owner name a l = let z = least_says s owner name rs e a l in (λ h. z.0 (rw e at h), λ h. rw e (z.1 h))

-- 4294967295 where there is none
pub none_says : (s : List ℕ) (rs : List Record) → Reads s rs → (owner : ℕ) (name : List ℕ)
    → (sought s owner name (reading s) ≡ no_place) ↔ NoneCalled s owner name rs
none_says s rs e owner name = let z = least_nowhere s owner name rs e in (λ h. z.0 (rw e at h), λ h. rw e (z.1 h))

-- the answer is an `at` where the index is the one that would be built and that is the least one
pub at_says : (s file index : List ℕ) (owner : ℕ) (name : List ℕ) (a : ℕ) → Bytes index
    → (found s (reading s) file index owner name ≡ Ok (Some a))
    ↔ ((rs : List Record) × Reads s rs × Accepted s file × (index ≡ encoded_all (index_of s rs)) × LeastAt s owner name rs a)
at_says s file index owner name a b = (
  λ h.
      let (f, e, n) = (found_at s file index owner name a).0 h in
      let (rs, q, c, i) = (accepted_exactly s file index b).0 f in
      let most : sought s owner name (reading s) ≤ no_place = rw q (least_most s owner name (entries rs)) in
      (rs, q, c, i, (found_says s rs q owner name a (omega arith)).0 e),
  λ (rs, q, c, i, l).
      let ((r, (k, h, m), d, t), g) = l in
      let below : a < no_place = omega (arith, at_below s rs q r (Memᴰ.cast m (get_mem rs blank k h))) in
      (found_at s file index owner name a).1 ((accepted_exactly s file index b).1 (rs, q, c, i), (found_says s rs q owner name a below).1 l, λ z. omega arith),
)

-- that there is none, where the index is the one that would be built and there is none
pub nowhere_says : (s file index : List ℕ) (owner : ℕ) (name : List ℕ) → Bytes index
    → (found s (reading s) file index owner name ≡ Ok None)
    ↔ ((rs : List Record) × Reads s rs × Accepted s file × (index ≡ encoded_all (index_of s rs)) × NoneCalled s owner name rs)
nowhere_says s file index owner name b = (
  λ h.
      let (f, e) = (found_nowhere s file index owner name).0 h in
      let (rs, q, c, i) = (accepted_exactly s file index b).0 f in
      (rs, q, c, i, (none_says s rs q owner name).0 e),
  λ (rs, q, c, i, l). (found_nowhere s file index owner name).1 ((accepted_exactly s file index b).1 (rs, q, c, i), (none_says s rs q owner name).1 l),
)

-- and a refusal where checking the index gives it
pub refused_says : (s file index : List ℕ) (owner : ℕ) (name : List ℕ) (r : Refusal)
    → (found s (reading s) file index owner name ≡ Err r)
    ↔ ((consulted s (reading s) file index ≡ refused done 0 0 → ⊥) × (consulted s (reading s) file index ≡ r))
refused_says s file index owner name r = found_refused s file index owner name r
