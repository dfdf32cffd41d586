-- A record's fields where they stand in the file: a part of a row is a part of the file.
use Prim.Native.Nat.{ℕ, ◌+◌, ◌*◌, ◌<◌}
use mathlib.Core.Path.{◌≡◌}
use mathlib.Core.List.{List}
use native.Mathlib.Omega.{arith}
use lib.ListN.{length, drop, get_or}
use Rattle.little.specs.Little.{Bytes}
use Rattle.little.proofs.Laws.{number_small, drop_bytes}
use Rattle.rowfile.proofs.Parts as rows
use Rattle.record.specs.Bytes.{decoded}
use Rattle.file.specs.File.{count, bytes_at, record_in}

-- a byte of a record
pub byte_of : (file : List ℕ) (i o : ℕ) → o < 36 → get_or (bytes_at file i) o 0 ≡ get_or file (36 * i + o) 0
byte_of file i o h = rows.row_byte 36 file i o h

-- a record has 36 bytes
pub size_of : (file : List ℕ) (i : ℕ) → i < count file → length (bytes_at file i) ≡ 36
size_of file i h = rows.row_length 36 file i (omega arith) h

pub bytes_of : (file : List ℕ) (i : ℕ) → Bytes file → Bytes (bytes_at file i)
bytes_of file i b = rows.row_bytes 36 file i b

-- a record's `at` has four bytes
pub at_small : (file : List ℕ) (i : ℕ) → Bytes file → (record_in file i).at < 4294967296
unfolding decoded
at_small file i b = number_small 4 (drop 4 (bytes_at file i)) (drop_bytes 4 (bytes_at file i) (bytes_of file i b))

-- a record's kind is a byte
pub kind_small : (file : List ℕ) (i : ℕ) → Bytes file → (record_in file i).kind < 256
unfolding decoded
kind_small file i b = bytes_of file i b 0
