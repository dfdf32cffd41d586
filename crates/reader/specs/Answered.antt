-- WHAT `read` ANSWERS for a reading, and what then stands in the record buffer that it was lent.
use Rattle.std.specs.Prelude.{ℕ, cond, List, ◌++◌, leb, length, drop}
use Rattle.refusal.specs.declared.Refusal.{Refusal}
use Rattle.refusal.specs.Table.{refused, done, record_room}
use Rattle.file.specs.File.{count, encoded_all}
use Rattle.grammar.specs.Reading.{Reading, records, refusal_of}

-- the records that a buffer has room for; bytes too few for a record count for nothing
abbrev pub room : List ℕ → ℕ
room file = count file

-- The answer where there is room for n records: 0 with the count of the records, 11 with that count where they do not fit, or the
-- reading's own refusal.
abbrev pub answered : ℕ → Reading → Refusal
answered n (records rs) = cond (leb (length rs) n) (refused done (length rs) 0) (refused record_room (length rs) 0)
answered n (refusal_of r) = r

-- The buffer afterwards: the bytes of records that fit, from the front, and the rest kept; on every refusal as it was.
abbrev pub filled : List ℕ → Reading → List ℕ
filled file (records rs) = cond (leb (length rs) (room file)) (encoded_all rs ++ drop (length (encoded_all rs)) file) file
filled file (refusal_of r) = file
