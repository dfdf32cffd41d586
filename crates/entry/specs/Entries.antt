-- The entries of an index by their position: a file of rows of 16 bytes.
use Rattle.std.specs.Prelude.{ℕ, Bool, List, ◌++◌}
use Rattle.little.specs.Little.{little}
use Rattle.rowfile.specs.Rows as rows
use Rattle.record.specs.Bytes.{field}
use Rattle.entry.specs.declared.Entry.{Entry}

-- owner, name start, name length, `at`
abbrev pub entry : ℕ → ℕ → ℕ → ℕ → Entry
entry owner name len at = record { owner = owner; name = name; len = len; at = at }

unfoldable pub encoded : Entry → List ℕ
encoded e = little 4 e.owner ++ little 4 e.name ++ little 4 e.len ++ little 4 e.at

-- the entry whose 16 bytes these are
unfoldable pub decoded : List ℕ → Entry
decoded bytes = entry (field 0 4 bytes) (field 4 4 bytes) (field 8 4 bytes) (field 12 4 bytes)

-- how many entries a file has, or has room for; bytes too few for an entry count for nothing
abbrev pub count : List ℕ → ℕ
count file = rows.count 16 file

-- the file has a whole entry at the position
abbrev pub has_room : List ℕ → ℕ → Bool
has_room file position = rows.has_room 16 file position

-- the bytes are whole entries
abbrev pub whole : List ℕ → Bool
whole file = rows.whole 16 file

-- the n entries from the front of a file on, and all that it holds, in its order
abbrev pub front : ℕ → List ℕ → List Entry
front n file = rows.front 16 decoded n file

abbrev pub held : List ℕ → List Entry
held file = rows.held 16 decoded file

-- the bytes of entries, one after the other
abbrev pub encoded_all : List Entry → List ℕ
encoded_all es = rows.joined encoded es

-- the entry at a position of a file
abbrev pub entry_in : List ℕ → ℕ → Entry
entry_in file position = decoded (rows.row_at 16 file position)

-- the file with the entry at the position, where it has room there, and otherwise as it was
abbrev pub stored : Entry → ℕ → List ℕ → List ℕ
stored e position file = rows.stored 16 (encoded e) position file
