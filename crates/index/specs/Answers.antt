-- WHAT THE CALLS ANSWER that build, check and search an index, and the buffer of an index as building leaves it.
use Rattle.std.specs.Prelude.{ℕ, suc, min, Bool, cond, ◌&&◌, List, [], ◌∷◌, ◌++◌, eqb, leb, length, drop, Option, Some, None, Result, Ok, Err}
use Rattle.refusal.specs.declared.Refusal.{Refusal}
use Rattle.refusal.specs.Table.{refused, done, record_room, not_whole, index_differs}
use Rattle.rowfile.specs.Rows as rows
use Rattle.file.specs.File.{held as held_records}
use Rattle.grammar.specs.Reading.{Reading, records, refusal_of, reading}
use Rattle.verdict.specs.Verdict.{verdict}
use Rattle.entry.specs.declared.Entry.{Entry}
use Rattle.entry.specs.Entries.{count, held, encoded_all}
use Rattle.entry.specs.Order.{alike, name_of}
use Rattle.index.specs.Index.{entries, index_of}

-- THE ORDER OF REFUSALS

-- an answer, or where it is no refusal the next
abbrev pub or_else : Refusal → Refusal → Refusal
or_else r next = cond (eqb r.number done) next r

-- 13 with the length of a file that is not in whole rows of n bytes
abbrev pub in_rows : ℕ → List ℕ → Refusal
in_rows n file = cond (rows.whole n file) (refused done 0 0) (refused not_whole (length file) 0)

-- a buffer afterwards: the bytes from the front and the rest kept; on every refusal as it was
abbrev pub leaves : Refusal → List ℕ → List ℕ → List ℕ
leaves r bytes buffer = cond (eqb r.number done) (bytes ++ drop (length bytes) buffer) buffer

-- BUILDING

-- 0 with the count of entries, or 11 with that count where there is no room for them
abbrev pub room_for : ℕ → ℕ → Refusal
room_for n room = cond (leb n room) (refused done n 0) (refused record_room n 0)

-- the text's own refusal; else 13 for the records, 14, 15, 11, or 0
abbrev pub built : List ℕ → Reading → List ℕ → ℕ → Refusal
built s (refusal_of r) file room = r
built s (records rs) file room = or_else (in_rows 36 file) (or_else (verdict rs (held_records file)) (room_for (length (index_of s rs)) room))

-- the index that is built of a reading
abbrev pub index_in : List ℕ → Reading → List Entry
index_in s (records rs) = index_of s rs
index_in s (refusal_of r) = []

-- the buffer of the index afterwards
unfoldable pub filled : List ℕ → Reading → List ℕ → List ℕ → List ℕ
filled s reading file buffer =
    let bytes = encoded_all (index_in s reading) in
    cond (eqb (built s reading file (count buffer)).number done) (bytes ++ drop (length bytes) buffer) buffer

-- CHECKING

-- two entries are equal in every field
unfoldable pub same : Entry → Entry → Bool
same e f = eqb e.owner f.owner && eqb e.name f.name && eqb e.len f.len && eqb e.at f.at

-- the first position at which two indexes differ; where one begins the other, the shorter one's count
unfoldable pub differ : List Entry → List Entry → ℕ
differ [] l = 0
differ (e ∷ k) [] = 0
differ (e ∷ k) (f ∷ l) = cond (same e f) (suc (differ k l)) 0

-- 16 where the index given is not the one that would be built
unfoldable pub compared : List Entry → List Entry → Refusal
compared given wanted =
    let d = differ given wanted in
    cond (eqb d (length given) && eqb d (length wanted)) (refused done 0 0) (refused index_differs d 0)

-- the text's own refusal; else 13 for the records, 13 for the index, 14, 15, 16, or 0
abbrev pub consulted : List ℕ → Reading → List ℕ → List ℕ → Refusal
consulted s (refusal_of r) file index = r
consulted s (records rs) file index =
    or_else (in_rows 36 file) (or_else (in_rows 16 index) (or_else (verdict rs (held_records file)) (compared (held index) (index_of s rs))))

-- LOOKING UP

-- the entry has the owner and the name
unfoldable pub bears : List ℕ → ℕ → List ℕ → Entry → Bool
bears s owner name e = eqb e.owner owner && alike (name_of s e) name

-- what stands for no `at`
abbrev pub no_place : ℕ
no_place = 4294967295

-- the least `at` of those that have the owner and the name, or `no_place`
unfoldable pub least : List ℕ → ℕ → List ℕ → List Entry → ℕ
least s owner name [] = no_place
least s owner name (e ∷ l) = cond (bears s owner name e) (min e.at (least s owner name l)) (least s owner name l)

-- of a reading's records
abbrev pub sought : List ℕ → ℕ → List ℕ → Reading → ℕ
sought s owner name (records rs) = least s owner name (entries rs)
sought s owner name (refusal_of r) = no_place

-- the answer: what checking the index refuses, or where it is, if anywhere
unfoldable pub found : List ℕ → Reading → List ℕ → List ℕ → ℕ → List ℕ → Result (Option ℕ) Refusal
found s reading file index owner name =
    let c = consulted s reading file index in
    let at = sought s owner name reading in
    cond (eqb c.number done) (Ok (cond (eqb at no_place) None (Some at))) (Err c)

-- the numbers of an answer: refusal, place and line, then the `at`
pub record Numbers : Type 0 where
  pub refusal : ℕ
  pub place : ℕ
  pub line : ℕ
  pub at : ℕ

abbrev pub numbers : Result (Option ℕ) Refusal → Numbers
numbers (Ok (Some a)) = record { refusal = 0; place = 0; line = 0; at = a }
numbers (Ok None) = record { refusal = 0; place = 0; line = 0; at = no_place }
numbers (Err r) = record { refusal = r.number; place = r.place; line = r.line; at = no_place }
