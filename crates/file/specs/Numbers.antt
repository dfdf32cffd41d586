-- The numbers of what stands at an index of a file, for every case: 1 with the record's 36 bytes, and past the file 0 with none.
use Rattle.std.specs.Prelude.{ℕ, List, [], Option, Some, None}
use Rattle.record.specs.Bytes.{encoded}
use Rattle.record.specs.declared.Record.{Record}

pub record Numbers : Type 0 where
  pub found : ℕ
  pub bytes : List ℕ

abbrev pub numbers : Option Record → Numbers
numbers (Some r) = record { found = 1; bytes = encoded r }
numbers None = record { found = 0; bytes = [] }
