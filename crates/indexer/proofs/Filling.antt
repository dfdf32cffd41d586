-- The entries of a record file: those of its first record and of what is behind it; and one entry more is laid behind those before it.
use Prim.Native.Nat.{ℕ, suc, ◌/◌, ◌≤◌, ◌<◌}
use mathlib.Core.Path.{◌≡◌, sym, ap, ◌∙◌}
use mathlib.Core.Bool.{Bool, true, false, cond}
use mathlib.Core.List.{List, [], ◌∷◌, ◌++◌}
use native.Mathlib.Omega.{arith}
use borrow.Author.Tests.{lt-ltb}
use lib.ListN.{length, take, drop, length-drop}
use lib.Seq.{sets, length-sets}
use Rattle.std.proofs.Common.{append_assoc}
use Rattle.rowfile.specs.Rows as rows
use Rattle.rowfile.proofs.Held.{held_length}
use Rattle.rowfile.proofs.Stored.{stored_sets}
use Rattle.rowfile.proofs.Laid as rows-laid
use Rattle.record.specs.declared.Record.{Record}
use Rattle.record.specs.Bytes.{decoded}
use Rattle.file.specs.File.{held}
use Rattle.entry.specs.declared.Entry.{Entry}
use Rattle.entry.specs.Entries.{encoded, encoded_all, count, stored}
use Rattle.entry.proofs.Laws.{encoded_length}
use Rattle.index.specs.Index.{entered, entry_of, entries}

-- THE ENTRIES OF A FILE

abbrev pub left : List ℕ → List Entry
left file = entries (held file)

-- a file of less than a record has none
pub left_none : (file : List ℕ) → length file < 36 → left file ≡ []
unfolding entries rows.front
left_none file h = let z : length file / 36 ≡ 0 = omega arith in rw z

-- the first record's is the first, where it has one
left_first : (file : List ℕ) → 36 ≤ length file → left file ≡ cond (entered (decoded (take 36 file)).kind) (entry_of (decoded (take 36 file)) ∷ left (drop 36 file)) (left (drop 36 file))
unfolding entries rows.front
left_first file h =
    let z : length file / 36 ≡ suc (length (drop 36 file) / 36) = omega (arith, length-drop 36 file) in
    rw z

pub left_entered : (file : List ℕ) → 36 ≤ length file → entered (decoded (take 36 file)).kind ≡ true → left file ≡ entry_of (decoded (take 36 file)) ∷ left (drop 36 file)
left_entered file h e = left_first file h ∙ ap (λ b. cond b (entry_of (decoded (take 36 file)) ∷ left (drop 36 file)) (left (drop 36 file))) e

pub left_other : (file : List ℕ) → 36 ≤ length file → entered (decoded (take 36 file)).kind ≡ false → left file ≡ left (drop 36 file)
left_other file h e = left_first file h ∙ ap (λ b. cond b (entry_of (decoded (take 36 file)) ∷ left (drop 36 file)) (left (drop 36 file))) e

-- one more is passed
pub one_passed : (done : List Entry) (e : Entry) (rest es : List Entry) {all : List Entry} → done ++ rest ≡ all → rest ≡ e ∷ es → (done ++ e ∷ []) ++ es ≡ all
one_passed done e rest es h k = rw append_assoc (ap (◌++◌ done) (sym k) ∙ h)

-- there are no more entries than bytes
entries_few : (rs : List Record) → length (entries rs) ≤ length rs
unfolding entries
entries_few [] = omega arith
entries_few (r ∷ rs) = go (entered r.kind) (entries_few rs)
  where
    go : (b : Bool) → length (entries rs) ≤ length rs → length (cond b (entry_of r ∷ entries rs) (entries rs)) ≤ suc (length rs)
    go true h = omega arith
    go false h = omega arith

pub left_few : (file : List ℕ) → length (left file) ≤ length file
left_few file = omega (arith, entries_few (held file), held_length 36 decoded file)

-- ONE MORE ENTRY LAID

pub nothing_laid : (index : List ℕ) → index ≡ sets index 0 (encoded_all [])
nothing_laid index = rows-laid.laid_none encoded index

pub laid_more : (es : List Entry) (e : Entry) (index : List ℕ) → length es < count index
    → stored e (length es) (sets index 0 (encoded_all es)) ≡ sets index 0 (encoded_all (es ++ e ∷ []))
laid_more es e index h =
    let l : length (sets index 0 (encoded_all es)) ≡ length index = length-sets index 0 (encoded_all es) in
    stored_sets 16 (encoded e) (length es) (sets index 0 (encoded_all es)) (lt-ltb (length es) (count (sets index 0 (encoded_all es))) (rw l h))
    ∙ rows-laid.laid_more encoded 16 encoded_length es index e

pub laid_all : (es : List Entry) (index : List ℕ) → length es ≤ count index → sets index 0 (encoded_all es) ≡ encoded_all es ++ drop (length (encoded_all es)) index
laid_all es index h = rows-laid.laid_all encoded 16 encoded_length es index (omega arith)
