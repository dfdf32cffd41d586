-- WHAT MANY LOOK-UPS IN ONE CALL PROMISE, over the reading of the text alone: they are the single look-ups by definition, and each answer of the call is given exactly where this says.
use Prim.Native.Nat.{ℕ, ◌+◌, ◌*◌, ◌≤◌, ◌<◌}
use native.Mathlib.Omega.{arith}
use mathlib.Core.Path.{◌≡◌, refl, sym, ap, ◌∙◌}
use mathlib.Core.Logic.{◌↔◌, ⊎_elim}
use mathlib.Core.Bool.{Bool, true, false, cond}
use mathlib.Core.List.{List, [], ◌++◌}
use borrow.Author.Tests.{eq-eqb, ne_eqb, le-leb, lt-leb}
use lib.Dec.{leb}
use lib.ListN.{length, take, drop, get_or, length-map, length-drop}
use lib.Seq.{take-append-le, drop-append-le, drop_at}
use Rattle.refusal.specs.declared.Refusal.{Refusal}
use Rattle.refusal.specs.Table.{refused, done, record_room, not_whole, wrong_record, lacking, index_differs}
use Rattle.little.specs.Little.{little, number, Bytes}
use Rattle.little.proofs.Laws.{number_little}
use Rattle.rowfile.specs.Rows as rows
use Rattle.rowfile.proofs.Held.{front_map, held_at, held_length, joined_length, joined_at}
use Rattle.record.specs.declared.Record.{Record}
use Rattle.file.specs.File as records-file
use Rattle.lookup.specs.Name.{part}
use Rattle.grammar.specs.Reading.{Reading, records, refusal_of, reading}
use Rattle.verdict.specs.Verdict.{verdict, checked}
use Rattle.verdict.specs.Meaning.{Reads, Accepted}
use Rattle.entry.specs.Entries as entries-file
use Rattle.index.specs.declared.Query.{Query}
use Rattle.index.specs.Index.{index_of}
use Rattle.index.specs.Answers.{or_else, room_for, compared, consulted, no_place, sought, found, numbers}
use Rattle.index.specs.Queries.{decoded, count, query_in, name_in, room, encoded_all}
use Rattle.index.specs.Many.{answer, answers, asked, answered}
use Rattle.index.specs.Meaning.{LeastAt, NoneCalled, DifferAt}
use Rattle.index.proofs.Compared.{compared_one_of, compared_differ}
use Rattle.index.proofs.Answered.{unlike, behind_rows, behind_verdict, passes, accepted, own, by_compared, room_done, room_lacking, verdict_stays}
use Rattle.index.proofs.Looked.{found_sought, found_most}
use Rattle.index.proofs.Theorems as single

-- THE NAME OF A QUERY: its bytes where they lie in the block, and empty where they reach outside
pub name_inside : (names : List ℕ) (q : Query) → q.start + q.len ≤ length names → name_in names q ≡ take q.len (drop q.start names)
unfolding part
name_inside names q h = rw (le-leb (q.start + q.len) (length names) h)

pub name_outside : (names : List ℕ) (q : Query) → length names < q.start + q.len → name_in names q ≡ []
unfolding part
name_outside names q h = rw (lt-leb (q.start + q.len) (length names) h)

-- AN ANSWER, behind an index that is accepted: the least `at` of those of the query's owner and name
module _ (s file index names : List ℕ) (rs : List Record) (e : Reads s rs) (fine : consulted s (reading s) file index ≡ refused done 0 0) (q : Query) where
  answer_is : answer s (reading s) file index names q ≡ sought s q.owner (name_in names q) (reading s)
  answer_is = found_sought s file index q.owner (name_in names q) (ap (λ (r : Refusal). r.number) fine)

  pub answer_says : (a : ℕ) → a < no_place → (answer s (reading s) file index names q ≡ a) ↔ LeastAt s q.owner (name_in names q) rs a
  answer_says a l = let z = single.found_says s rs e q.owner (name_in names q) a l in (λ h. z.0 (sym answer_is ∙ h), λ h. answer_is ∙ z.1 h)

  -- 4294967295 where there is none
  pub answer_none : (answer s (reading s) file index names q ≡ no_place) ↔ NoneCalled s q.owner (name_in names q) rs
  answer_none = let z = single.none_says s rs e q.owner (name_in names q) in (λ h. z.0 (sym answer_is ∙ h), λ h. answer_is ∙ z.1 h)

-- THE BUFFER

pub answer_length : (v : ℕ) → length (little 4 v) ≡ 4
unfolding little
answer_length v = refl

module _ (s file index names queries buffer : List ℕ) where
  abbrev told : Refusal
  told = asked s (reading s) file index queries (room buffer)

  abbrev left : List ℕ
  left = answered s (reading s) file index names queries buffer

  abbrev all : List ℕ
  all = answers s (reading s) file index names queries

  -- on every refusal it is as it was
  pub nothing_written : (told.number ≡ done → ⊥) → left ≡ buffer
  unfolding answered
  nothing_written h = rw (ne_eqb told.number done h)

  all_length : length all ≡ count queries
  all_length = length-map (rows.held 12 decoded queries) (answer s (reading s) file index names) ∙ held_length 12 decoded queries

  all_wide : length (encoded_all all) ≡ 4 * count queries
  all_wide = joined_length 4 (little 4) answer_length all ∙ ap (◌*◌ 4) all_length

  module _ (h : told.number ≡ done) where
    left_is : left ≡ encoded_all all ++ drop (length (encoded_all all)) buffer
    unfolding answered
    left_is = rw (eq-eqb told.number done h)

    -- EACH ANSWER EQUALS THE SINGLE LOOK-UP'S, position by position
    pub each_as_single : (i : ℕ) → i < count queries
        → number (rows.row_at 4 left i) ≡ (numbers (found s (reading s) file index (query_in queries i).owner (name_in names (query_in queries i)))).at
    each_as_single i l =
        let q = query_in queries i in
        let here : get_or all i 0 ≡ answer s (reading s) file index names q =
        ap (λ k. get_or k i 0) (front_map 12 decoded (answer s (reading s) file index names) (count queries) queries)
        ∙ held_at 12 (λ b. answer s (reading s) file index names (decoded b)) queries 0 i l in
        let fits : 4 * i + 4 ≤ length (encoded_all all) = rw all_wide (omega arith) in
        let in_front : rows.row_at 4 left i ≡ rows.row_at 4 (encoded_all all) i =
        ap (λ k. rows.row_at 4 k i) left_is
        ∙ ap (take 4) (drop-append-le (4 * i) (encoded_all all) (drop (length (encoded_all all)) buffer) (omega arith))
        ∙ take-append-le 4 (drop (4 * i) (encoded_all all)) (drop (length (encoded_all all)) buffer) (simp length-drop (omega arith)) in
        ap number (in_front ∙ joined_at 4 (little 4) answer_length all 0 i (rw all_length l) ∙ ap (little 4) here)
        ∙ number_little 4 (answer s (reading s) file index names q) (omega (arith, found_most s file index q.owner (name_in names q)))

    -- and what lies behind them is kept
    pub rest_kept : drop (4 * count queries) left ≡ drop (4 * count queries) buffer
    rest_kept =
        ap (drop (4 * count queries)) left_is
        ∙ drop_at (encoded_all all) (drop (length (encoded_all all)) buffer) (4 * count queries) all_wide
        ∙ ap (λ k. drop k buffer) all_wide

-- WHAT THE CALL ANSWERS

module _ (s file index queries : List ℕ) (room : ℕ) where
  abbrev whole_queries : Bool
  whole_queries = rows.whole 12 queries

  -- an answer of another number than 13, 14 and 15, and no text's own, is given behind these
  module _ (n p : ℕ) (late : 1 ≤ n → 10 < n) (other : (n ≡ not_whole → ⊥) × (n ≡ wrong_record → ⊥) × (n ≡ lacking → ⊥)) where
    abbrev Behind : Type 0
    Behind =
        (rs : List Record) × Reads s rs × Accepted s file × (entries-file.whole index ≡ true) × (whole_queries ≡ true)
        × (or_else (compared (entries-file.held index) (index_of s rs)) (room_for (count queries) room) ≡ refused n p 0)

    to_behind : (o : Reading) → reading s ≡ o → asked s o file index queries room ≡ refused n p 0 → Behind
    to_behind (refusal_of r) e h = own s file n p late r e h
    to_behind (records rs) e h =
        let (w, i) = behind_rows n p _ other 36 file h in
        let (v, j) = behind_rows n p _ other 16 index i in
        let (u, k) = behind_rows n p _ other 12 queries j in
        let (z, c) = behind_verdict n p _ other rs (records-file.held file) k in
        (rs, e, accepted s file rs e w z, v, u, c)

    of_behind : Behind → asked s (reading s) file index queries room ≡ refused n p 0
    of_behind (rs, e, a, v, u, h) = let (w, z) = passes s file rs e a in rw e (rw (w, v, u) (rw z h))

  -- of another number than 16, too, where the index is accepted, by the room that there is
  room_says : (n p : ℕ) → (1 ≤ n → 10 < n) → (n ≡ not_whole → ⊥) × (n ≡ wrong_record → ⊥) × (n ≡ lacking → ⊥) → (n ≡ index_differs → ⊥)
      → (asked s (reading s) file index queries room ≡ refused n p 0)
      ↔ ((consulted s (reading s) file index ≡ refused done 0 0) × (whole_queries ≡ true) × (room_for (count queries) room ≡ refused n p 0))
  room_says n p late other differs = (
    λ h.
        let (rs, e, a, v, u, c) = to_behind n p late other (reading s) refl h in
        ⊎_elim (λ z. ((by_compared s file index done 0 (λ k. omega arith)).1 (rs, e, a, v, z), u, rw z at c))
        (λ (d, z). unlike index_differs d n p (λ m. differs (sym m)) (rw z at c)) (compared_one_of (entries-file.held index) (index_of s rs)),
    λ (f, u, c).
        let (rs, e, a, v, z) = (by_compared s file index done 0 (λ k. omega arith)).0 f in
        of_behind n p late other (rs, e, a, v, u, rw z c),
  )

  -- 0 with the count: the file is accepted, the index is the one that would be built, the queries are whole, and there is room
  pub asked_says : (p : ℕ) → Bytes index
      → (asked s (reading s) file index queries room ≡ refused done p 0)
      ↔ ((rs : List Record) × Reads s rs × Accepted s file × (index ≡ entries-file.encoded_all (index_of s rs)) × (whole_queries ≡ true) × (count queries ≡ p) × (count queries ≤ room))
  asked_says p b =
      let j = room_says done p (λ h. omega arith) (λ h. omega arith, λ h. omega arith, λ h. omega arith) (λ h. omega arith) in
      let i = single.accepted_exactly s file index b in
      let r = room_done (count queries) room p in (
        λ h. let (f, u, c) = j.0 h in let (rs, e, a, x) = i.0 f in let (m, l) = r.0 c in (rs, e, a, x, u, m, l),
        λ (rs, e, a, x, u, m, l). j.1 (i.1 (rs, e, a, x), u, r.1 (m, l)),
      )

  -- 11 with the count: all this, but there is no room
  pub no_room_says : (p : ℕ) → Bytes index
      → (asked s (reading s) file index queries room ≡ refused record_room p 0)
      ↔ ((rs : List Record) × Reads s rs × Accepted s file × (index ≡ entries-file.encoded_all (index_of s rs)) × (whole_queries ≡ true) × (count queries ≡ p) × (room < count queries))
  no_room_says p b =
      let j = room_says record_room p (λ h. omega arith) (λ h. omega arith, λ h. omega arith, λ h. omega arith) (λ h. omega arith) in
      let i = single.accepted_exactly s file index b in
      let r = room_lacking (count queries) room p in (
        λ h. let (f, u, c) = j.0 h in let (rs, e, a, x) = i.0 f in let (m, l) = r.0 c in (rs, e, a, x, u, m, l),
        λ (rs, e, a, x, u, m, l). j.1 (i.1 (rs, e, a, x), u, r.1 (m, l)),
      )

  -- 16: the file is accepted, index and queries are whole, and p is the first position at which the index is not the one that would be built
  pub differs_says : (p : ℕ)
      → (asked s (reading s) file index queries room ≡ refused index_differs p 0)
      ↔ ((rs : List Record) × Reads s rs × Accepted s file × (entries-file.whole index ≡ true) × (whole_queries ≡ true) × DifferAt (entries-file.held index) (index_of s rs) p)
  differs_says p = (
    λ h.
        let (rs, e, a, v, u, c) = to_behind index_differs p (λ k. omega arith) (λ k. omega arith, λ k. omega arith, λ k. omega arith) (reading s) refl h in
        let k = entries-file.held index in
        ⊎_elim (λ z. never (leb (count queries) room) (rw z at c))
        (λ (d, z). (rs, e, a, v, u, (compared_differ k (index_of s rs) p).0 (z ∙ rw z at c))) (compared_one_of k (index_of s rs)),
    λ (rs, e, a, v, u, d).
        let z = (compared_differ (entries-file.held index) (index_of s rs) p).1 d in
        of_behind index_differs p (λ k. omega arith) (λ k. omega arith, λ k. omega arith, λ k. omega arith) (rs, e, a, v, u, rw z),
  )
    where
      never : {Q : Type 0} (b : Bool) → cond b (refused done (count queries) 0) (refused record_room (count queries) 0) ≡ refused index_differs p 0 → Q
      never true h = unlike done (count queries) index_differs p (λ m. omega arith) h
      never false h = unlike record_room (count queries) index_differs p (λ m. omega arith) h

  -- WHICH REFUSAL COMES FIRST: the text's own
  pub refused_first : (r : Refusal) → reading s ≡ refusal_of r → asked s (reading s) file index queries room ≡ r
  refused_first r e = rw e

  module _ (rs : List Record) (e : Reads s rs) where
    -- then 13 for the records
    pub records_next : records-file.whole file ≡ false → asked s (reading s) file index queries room ≡ refused not_whole (length file) 0
    records_next w = rw e (rw w)

    -- then 13 for the index
    pub index_next : records-file.whole file ≡ true → entries-file.whole index ≡ false → asked s (reading s) file index queries room ≡ refused not_whole (length index) 0
    index_next w v = rw e (rw (w, v))

    -- then 13 for the queries
    pub queries_next : records-file.whole file ≡ true → entries-file.whole index ≡ true → whole_queries ≡ false
        → asked s (reading s) file index queries room ≡ refused not_whole (length queries) 0
    queries_next w v u = rw e (rw (w, v, u))

  -- then 14 and 15, which are those of checking the file; 16 and 11 come last
  pub verdict_next : (Accepted s file → ⊥) → entries-file.whole index ≡ true → whole_queries ≡ true → asked s (reading s) file index queries room ≡ checked (reading s) file
  verdict_next not v u = of (reading s) refl
    where
      of : (o : Reading) → reading s ≡ o → asked s o file index queries room ≡ checked o file
      of (refusal_of r) e = refl
      of (records rs) e = rw (v, u) (go (records-file.whole file) refl)
        where
          last : Refusal
          last = or_else (compared (entries-file.held index) (index_of s rs)) (room_for (count queries) room)

          go : (b : Bool) → records-file.whole file ≡ b
              → or_else (cond b (refused done 0 0) (refused not_whole (length file) 0)) (or_else (verdict rs (records-file.held file)) last)
              ≡ cond b (verdict rs (records-file.held file)) (refused not_whole (length file) 0)
          go true w = verdict_stays s file not rs e w last
          go false w = refl
