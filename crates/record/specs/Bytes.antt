-- A record's 36 bytes.
use Rattle.std.specs.Prelude.{ℕ, List, ◌∷◌, ◌++◌, take, drop, get_or}
use Rattle.little.specs.Little.{little, number}
use Rattle.record.specs.declared.Record.{Record}

-- kind, code, two spare bytes, `at`, owner, name start, name length, x, y
unfoldable pub encoded : Record → List ℕ
encoded r =
    r.kind ∷ r.code ∷ little 2 r.spare
    ++ little 4 r.at ++ little 4 r.owner ++ little 4 r.name ++ little 4 r.len
    ++ little 8 r.x ++ little 8 r.y

-- the number in the n bytes at the offset o
abbrev pub field : ℕ → ℕ → List ℕ → ℕ
field o n bytes = number (take n (drop o bytes))

-- the record whose 36 bytes these are
unfoldable pub decoded : List ℕ → Record
decoded bytes =
    record {
      kind = get_or bytes 0 0;
      code = get_or bytes 1 0;
      spare = field 2 2 bytes;
      at = field 4 4 bytes;
      owner = field 8 4 bytes;
      name = field 12 4 bytes;
      len = field 16 4 bytes;
      x = field 20 8 bytes;
      y = field 28 8 bytes;
    }
