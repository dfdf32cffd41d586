-- The entries that an index holds, as rows of 16 bytes: an entry has 16 bytes and in range is read back, and 16 bytes are those of their entry.
use Prim.Native.Nat.{ℕ, ◌*◌, ◌<◌}
use mathlib.Core.Path.{◌≡◌}
use mathlib.Core.Bool.{true}
use mathlib.Core.List.{List, Memᴰ}
use native.Mathlib.Omega.{arith}
use lib.ListN.{length, get_or}
use Rattle.little.specs.Little.{Bytes}
use Rattle.rowfile.proofs.Held as rows
use Rattle.rowfile.proofs.Parts as parts
use Rattle.rowfile.specs.Rows.{row_at}
use Rattle.entry.specs.declared.Entry.{Entry}
use Rattle.entry.specs.Entries.{encoded, decoded, count, whole, held, encoded_all, entry_in}
use Rattle.entry.proofs.Laws.{InRange, encoded_length, read_back, decoded_range}
use Rattle.entry.proofs.Laws.{whole as whole_entry}

pub held_length : (file : List ℕ) → length (held file) ≡ count file
held_length file = rows.held_length 16 decoded file

-- the entry at a position is the one that is held there
pub held_at : (file : List ℕ) (d : Entry) (i : ℕ) → i < count file → get_or (held file) i d ≡ entry_in file i
held_at file d i h = rows.held_at 16 decoded file d i h

-- every entry in a file is in range
pub entry_range : (file : List ℕ) (i : ℕ) → Bytes file → InRange (entry_in file i)
entry_range file i b = decoded_range (row_at 16 file i) (parts.row_bytes 16 file i b)

pub all_length : (es : List Entry) → length (encoded_all es) ≡ 16 * length es
all_length es = rows.joined_length 16 encoded encoded_length es

pub all_whole : (es : List Entry) → whole (encoded_all es) ≡ true
all_whole es = rows.joined_whole 16 encoded encoded_length es

pub all_count : (es : List Entry) → count (encoded_all es) ≡ length es
all_count es = rows.joined_count 16 encoded encoded_length (omega arith) es

-- the bytes of entries in range hold these entries
pub held_all : (es : List Entry) → ((e : Entry) → Memᴰ e es → InRange e) → held (encoded_all es) ≡ es
held_all es h = rows.held_joined 16 encoded encoded_length decoded (omega arith) es (λ e m. read_back e (h e m))

-- an index in whole entries is the bytes of the entries that it holds
pub all_held : (file : List ℕ) → Bytes file → whole file ≡ true → encoded_all (held file) ≡ file
all_held file b h = rows.joined_held 16 encoded decoded whole_entry file b h

-- and the bytes at a position are those of the entry there
pub all_at : (es : List Entry) (d : Entry) (i : ℕ) → i < length es → row_at 16 (encoded_all es) i ≡ encoded (get_or es i d)
all_at es d i h = rows.joined_at 16 encoded encoded_length es d i h
