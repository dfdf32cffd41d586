-- MANY LOOK-UPS IN ONE CALL: what it answers, and the buffer of the answers as it leaves it.
use Rattle.std.specs.Prelude.{ℕ, List, map}
use Rattle.refusal.specs.declared.Refusal.{Refusal}
use Rattle.file.specs.File.{held as held_records}
use Rattle.grammar.specs.Reading.{Reading, records, refusal_of}
use Rattle.verdict.specs.Verdict.{verdict}
use Rattle.entry.specs.Entries.{held as held_entries}
use Rattle.index.specs.declared.Query.{Query}
use Rattle.index.specs.Index.{index_of}
use Rattle.index.specs.Answers.{or_else, in_rows, leaves, room_for, compared, found, numbers}
use Rattle.index.specs.Queries.{count, held, name_in, room, encoded_all}

-- the `at` that looking the query's name up by itself answers
abbrev pub answer : List ℕ → Reading → List ℕ → List ℕ → List ℕ → Query → ℕ
answer s reading file index names q = (numbers (found s reading file index q.owner (name_in names q))).at

-- that of each query in turn
abbrev pub answers : List ℕ → Reading → List ℕ → List ℕ → List ℕ → List ℕ → List ℕ
answers s reading file index names queries = map (answer s reading file index names) (held queries)

-- the text's own refusal; else 13 for the records, for the index, for the queries, 14, 15, 16, 11, or 0 with the count of answers
abbrev pub asked : List ℕ → Reading → List ℕ → List ℕ → List ℕ → ℕ → Refusal
asked s (refusal_of r) file index queries n = r
asked s (records rs) file index queries n =
    or_else (in_rows 36 file)
    (or_else (in_rows 16 index)
    (or_else (in_rows 12 queries)
    (or_else (verdict rs (held_records file)) (or_else (compared (held_entries index) (index_of s rs)) (room_for (count queries) n)))))

-- the buffer of the answers afterwards
unfoldable pub answered : List ℕ → Reading → List ℕ → List ℕ → List ℕ → List ℕ → List ℕ → List ℕ
answered s reading file index names queries buffer =
    leaves (asked s reading file index queries (room buffer)) (encoded_all (answers s reading file index names queries)) buffer
