-- One query more has its answer laid behind those before it; and with an index that is accepted these are the answers of single look-ups.
use Prim.Native.Nat.{ℕ, ◌+◌, ◌*◌, ◌≤◌, ◌<◌}
use native.Mathlib.Omega.{arith}
use mathlib.Core.Path.{◌≡◌, refl, sym, ap, ◌∙◌}
use mathlib.Core.List.{List, [], ◌∷◌, ◌++◌}
use borrow.Author.Tests.{ne_eqb}
use lib.ListN.{length, take, drop, length-append, length-drop}
use lib.Seq.{sets, drop-drop, take_at, drop_at}
use Rattle.little.specs.Little.{little}
use Rattle.refusal.specs.declared.Refusal.{Refusal}
use Rattle.refusal.specs.Table.{refused, done, record_room, outcome}
use Rattle.rowfile.specs.Rows as rows
use Rattle.rowfile.proofs.Held.{front_append, front_length, front_map}
use Rattle.rowfile.proofs.Laid.{laid_none, laid_more, laid_all}
use Rattle.grammar.specs.Reading.{reading}
use Rattle.index.specs.declared.Query.{Query}
use Rattle.index.specs.Answers.{room_for, consulted, sought}
use Rattle.index.specs.Queries.{decoded, count, query_in, name_in, room, encoded_all}
use Rattle.index.specs.Many.{answer, answers, asked, answered}
use Rattle.index.proofs.Answered.{room_done, room_lacking}
use Rattle.index.proofs.Looked.{found_sought}
use Rattle.index.proofs.Asked.{answer_length}
use Rattle.std.specs.Prelude.{Ok, Err}
use Rattle.indexer.specs.Inner.{sought_each}
use Rattle.indexer.proofs.Judged.{err_outcome}

-- LAYING THE ANSWERS

module _ (s names queries : List ℕ) where
  abbrev sought_by : Query → ℕ
  sought_by q = sought s q.owner (name_in names q) (reading s)

  abbrev each : ℕ → List ℕ
  each i = sought_each s names queries i

  pub nothing_laid : (buffer : List ℕ) → buffer ≡ sets buffer 0 (encoded_all (each 0))
  unfolding rows.front
  nothing_laid buffer = laid_none (little 4) buffer

  each_more : (i : ℕ) → each (i + 1) ≡ each i ++ sought_by (query_in queries i) ∷ []
  unfolding rows.front
  each_more i = front_append 12 (λ l. sought_by (decoded l)) i 1 queries

  each_length : (i : ℕ) → length (each i) ≡ i
  each_length i = front_length 12 (λ l. sought_by (decoded l)) i queries

  -- the answer to the query at i is laid behind those to the first i
  pub answer_laid : (i at : ℕ) → at ≡ sought_by (query_in queries i)
      → (start buffer out : List ℕ) → buffer ≡ sets start 0 (encoded_all (each i)) → out ≡ sets buffer (4 * i) (little 4 at) → out ≡ sets start 0 (encoded_all (each (i + 1)))
  answer_laid i at is start buffer out so_far lay =
      lay
      ∙ rw (so_far, is)
      (ap (λ k. sets (sets start 0 (encoded_all (each i))) (4 * k) (little 4 (sought_by (query_in queries i)))) (sym (each_length i))
      ∙ laid_more (little 4) 4 answer_length (each i) start (sought_by (query_in queries i))
      ∙ ap (λ l. sets start 0 (encoded_all l)) (sym (each_more i)))

-- ONE QUERY MORE: the rows before the rest of the queries are k, and the next is the one at k

module _ (queries rest row after : List ℕ) (k : ℕ) (is : rest ≡ drop (12 * k) queries) (next : rest ≡ row ++ after) (wide : length row ≡ 12) where
  pub row_here : row ≡ rows.row_at 12 queries k
  row_here = sym (take_at row after 12 wide) ∙ ap (take 12) (sym next ∙ is)

  pub rest_after : after ≡ drop (12 * (k + 1)) queries
  rest_after =
      let e : 12 * k + 12 ≡ 12 * (k + 1) = omega arith in
      sym (drop_at row after 12 wide) ∙ ap (drop 12) (sym next ∙ is) ∙ drop-drop 12 (12 * k) queries ∙ ap (λ n. drop n queries) e

  pub row_within : k + 1 ≤ count queries
  row_within = omega (arith, ap length is, ap length next, length-drop (12 * k) queries, length-append row, wide)

-- WHAT THE CALL ANSWERS AND LEAVES

module _ (s file index names queries buffer : List ℕ) where
  abbrev told : Refusal
  told = asked s (reading s) file index queries (room buffer)

  -- on a refusal the buffer is left alone
  kept : (told.number ≡ 0 → ⊥) → buffer ≡ answered s (reading s) file index names queries buffer
  unfolding answered
  kept h = rw (ne_eqb told.number 0 h)

  -- what is sought by each query is the answer of its single look-up
  each_single : (consulted s (reading s) file index).number ≡ 0 → each s names queries (count queries) ≡ answers s (reading s) file index names queries
  each_single h =
      let same : (l : List ℕ) → sought_by s names queries (decoded l) ≡ answer s (reading s) file index names (decoded l) =
      λ l. let q = decoded l in sym (found_sought s file index q.owner (name_in names q) h) in
      (λ i. rows.front 12 (λ l. same l i) (count queries) queries) ∙ sym (front_map 12 decoded (answer s (reading s) file index names) (count queries) queries)

  -- the answer and the buffer on a refusal
  pub many_refused : (e : Refusal) → (told.number ≡ 0 → ⊥) → told ≡ e → (Err e ≡ outcome told) × (buffer ≡ answered s (reading s) file index names queries buffer)
  many_refused e n q = (ap Err (sym q) ∙ err_outcome told n, kept n)

  module _ (fine : (consulted s (reading s) file index).number ≡ 0) (last : room_for (count queries) (room buffer) ≡ told) where
    pub many_no_room : room buffer < count queries
        → (Err (refused record_room (count queries) 0) ≡ outcome told) × (buffer ≡ answered s (reading s) file index names queries buffer)
    many_no_room l =
        let e : told ≡ refused record_room (count queries) 0 = sym last ∙ (room_lacking (count queries) (room buffer) (count queries)).1 (refl, l) in
        many_refused _ (rw e (λ z. omega arith)) e

    pub many_answered : count queries ≤ room buffer → (out : List ℕ) → out ≡ sets buffer 0 (encoded_all (each s names queries (count queries)))
        → (Ok (count queries) ≡ outcome told) × (out ≡ answered s (reading s) file index names queries buffer)
    unfolding answered
    many_answered l out o =
        let e : told ≡ refused done (count queries) 0 = sym last ∙ (room_done (count queries) (room buffer) (count queries)).1 (refl, l) in
        let n = each_length s names queries (count queries) in
        let all = laid_all (little 4) 4 answer_length (each s names queries (count queries)) buffer (rw n (omega arith)) in
        (rw e, o ∙ all ∙ rw (each_single fine, e))
