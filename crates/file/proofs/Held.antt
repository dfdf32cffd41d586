-- The records that a file holds, as rows of 36 bytes: a record has 36 bytes and in range is read back, and 36 bytes are those of their record.
use Prim.Native.Nat.{ℕ, ◌*◌, ◌≤◌, ◌<◌}
use mathlib.Core.Path.{◌≡◌}
use mathlib.Core.Bool.{true}
use mathlib.Core.List.{List, Memᴰ}
use mathlib.Core.Option.{some, none}
use native.Mathlib.Omega.{arith}
use borrow.Author.Tests.{lt-ltb}
use lib.ListN.{length, get_or, get_elem?}
use Rattle.little.specs.Little.{Bytes}
use Rattle.rowfile.proofs.Held as rows
use Rattle.record.specs.declared.Record.{Record}
use Rattle.record.specs.Bytes.{encoded, decoded}
use Rattle.record.specs.Range.{InRange}
use Rattle.record.proofs.Laws.{encoded_length, read_back}
use Rattle.record.proofs.Laws.{whole as whole_record}
use Rattle.std.specs.Prelude.{Some}
use Rattle.file.specs.File.{count, whole, front, held, encoded_all, bytes_at, record_in, record_at}

pub held_length : (file : List ℕ) → length (held file) ≡ count file
held_length file = rows.held_length 36 decoded file

pub front_at : (n : ℕ) (file : List ℕ) (d : Record) (i : ℕ) → i < n → get_or (front n file) i d ≡ record_in file i
front_at n file d i h = rows.front_at 36 decoded n file d i h

-- the record at an index is the one that is held there
pub held_at : (file : List ℕ) (d : Record) (i : ℕ) → i < count file → record_at file i ≡ Some (get_or (held file) i d)
unfolding record_at
held_at file d i h = rw (lt-ltb i (count file) h, rows.held_at 36 decoded file d i h)

-- at each index below the count a record is held, and at no other
pub held_here : (file : List ℕ) (i : ℕ) → i < count file → get_elem? (held file) i ≡ some (record_in file i)
held_here file i h = rows.held_here 36 decoded file i h

pub held_past : (file : List ℕ) (i : ℕ) → count file ≤ i → get_elem? (held file) i ≡ none
held_past file i h = rows.held_past 36 decoded file i h

pub held_below : (file : List ℕ) (i : ℕ) (r : Record) → get_elem? (held file) i ≡ some r → i < count file
held_below file i r h = rows.held_below 36 decoded file i r h

pub held_is : (file : List ℕ) (i : ℕ) (r : Record) → get_elem? (held file) i ≡ some r → record_in file i ≡ r
held_is file i r h = rows.held_is 36 decoded file i r h

-- THE BYTES OF RECORDS, AND THE RECORDS OF BYTES

pub all_length : (rs : List Record) → length (encoded_all rs) ≡ 36 * length rs
all_length rs = rows.joined_length 36 encoded encoded_length rs

pub all_whole : (rs : List Record) → whole (encoded_all rs) ≡ true
all_whole rs = rows.joined_whole 36 encoded encoded_length rs

-- the bytes of records in range hold these records
pub held_all : (rs : List Record) → ((r : Record) → Memᴰ r rs → InRange r) → held (encoded_all rs) ≡ rs
held_all rs h = rows.held_joined 36 encoded encoded_length decoded (omega arith) rs (λ r m. read_back r (h r m))

-- a file in whole records is the bytes of the records that it holds
pub all_held : (file : List ℕ) → Bytes file → whole file ≡ true → encoded_all (held file) ≡ file
all_held file b h = rows.joined_held 36 encoded decoded whole_record file b h

-- and the bytes at an index are those of the record there
pub all_at : (rs : List Record) (d : Record) (i : ℕ) → i < length rs → bytes_at (encoded_all rs) i ≡ encoded (get_or rs i d)
all_at rs d i h = rows.joined_at 36 encoded encoded_length rs d i h
