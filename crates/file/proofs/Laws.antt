-- Reading back what was written, since a record in range is the record of its bytes; and what writing leaves alone.
use Prim.Native.Nat.{ℕ, ◌+◌, ◌*◌}
use mathlib.Core.Path.{◌≡◌, ap, ◌∙◌}
use mathlib.Core.Bool.{true}
use mathlib.Core.Logic.{◌≢◌}
use mathlib.Core.List.{List, ◌++◌}
use lib.ListN.{length, take, drop}
use lib.Seq.{sets}
use Rattle.rowfile.proofs.Stored as rows
use Rattle.record.specs.declared.Record.{Record}
use Rattle.record.specs.Bytes.{encoded, decoded}
use Rattle.record.specs.Range.{InRange}
use Rattle.record.proofs.Laws.{encoded_length, read_back}
use Rattle.std.specs.Prelude.{Some}
use Rattle.file.specs.File.{has_room, record_at, stored}

pub stored_length : (r : Record) (i : ℕ) (file : List ℕ) → length (stored r i file) ≡ length file
stored_length r i file = rows.stored_length 36 (encoded r) i file

module _ (r : Record) (i : ℕ) (file : List ℕ) (room : has_room file i ≡ true) where
  -- where there is room the record's bytes are laid at its place
  pub stored_sets : stored r i file ≡ sets file (36 * i) (encoded r)
  stored_sets = rows.stored_sets 36 (encoded r) i file room

  -- what was written is read at its index
  pub read_stored : InRange r → record_at (stored r i file) i ≡ Some r
  unfolding record_at
  read_stored h =
      rw (stored_length r i file, room) (ap Some (ap decoded (rows.read_stored 36 (encoded r) i file room (encoded_length r)) ∙ read_back r h))

  -- and at any other index what was there
  pub read_other : (j : ℕ) → j ≢ i → record_at (stored r i file) j ≡ record_at file j
  unfolding record_at
  read_other j h =
      rw (stored_length r i file, rows.read_other 36 (encoded r) i file room (encoded_length r) j h)

-- the bytes written take the record's place, and all others are kept
pub laid : (r : Record) (i : ℕ) (file : List ℕ) → has_room file i ≡ true → stored r i file ≡ take (36 * i) file ++ encoded r ++ drop (36 * i + 36) file
laid r i file room = rows.laid 36 (encoded r) i file room (encoded_length r)
