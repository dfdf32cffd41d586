-- The records of a file by their index: a file of rows of 36 bytes.
use Rattle.std.specs.Prelude.{ℕ, Bool, cond, List, Option, Some, None}
use Rattle.rowfile.specs.Rows as rows
use Rattle.record.specs.declared.Record.{Record}
use Rattle.record.specs.Bytes.{encoded, decoded}

-- how many records a file has, or has room for; bytes too few for a record count for nothing
abbrev pub count : List ℕ → ℕ
count file = rows.count 36 file

-- the file has a whole record at the index
abbrev pub has_room : List ℕ → ℕ → Bool
has_room file index = rows.has_room 36 file index

-- the bytes are whole records
abbrev pub whole : List ℕ → Bool
whole file = rows.whole 36 file

-- the n records from the front of a file on
abbrev pub front : ℕ → List ℕ → List Record
front n file = rows.front 36 decoded n file

-- the records that a file holds, in its order
abbrev pub held : List ℕ → List Record
held file = rows.held 36 decoded file

-- the bytes of records, one after the other
abbrev pub encoded_all : List Record → List ℕ
encoded_all rs = rows.joined encoded rs

-- the 36 bytes at an index of a file, and the record that they give
abbrev pub bytes_at : List ℕ → ℕ → List ℕ
bytes_at file index = rows.row_at 36 file index

abbrev pub record_in : List ℕ → ℕ → Record
record_in file index = decoded (bytes_at file index)

-- the record at an index of a file, if there is one
unfoldable pub record_at : List ℕ → ℕ → Option Record
record_at file index = cond (has_room file index) (Some (record_in file index)) None

-- the file with the record at the index, where it has room there, and otherwise as it was
abbrev pub stored : Record → ℕ → List ℕ → List ℕ
stored r index file = rows.stored 36 (encoded r) index file
