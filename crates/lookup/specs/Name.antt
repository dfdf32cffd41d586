-- A record's name, as a part of the caller's own text.
use Rattle.std.specs.Prelude.{ℕ, ◌+◌, cond, List, [], leb, length, take, drop, Option, Some, None}
use Rattle.record.specs.declared.Record.{Record}
use Rattle.file.specs.File.{record_at}

-- so many bytes of a text from a place on, and empty where they reach outside of it
unfoldable pub part : List ℕ → ℕ → ℕ → List ℕ
part text start len = cond (leb (start + len) (length text)) (take len (drop start text)) []

-- the name of a record that was found, and empty where there is none
abbrev pub name_of : List ℕ → Option Record → List ℕ
name_of text (Some r) = part text r.name r.len
name_of text None = []

-- the name of the record at an index
abbrev pub name_at : List ℕ → List ℕ → ℕ → List ℕ
name_at text file index = name_of text (record_at file index)
