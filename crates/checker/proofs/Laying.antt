-- Records that a pass has stored are read at their index: a store leaves all others alone.
use Prim.Native.Nat.{ℕ, zero, suc, ◌+◌, ◌/◌, ◌≤◌, ◌<◌}
use native.Mathlib.Nat.{not-suc-le-zero}
use native.Mathlib.Omega.{arith}
use mathlib.Core.Path.{◌≡◌, refl, sym, ap, ◌∙◌}
use mathlib.Core.List.{List, [], ◌∷◌}
use lib.ListN.{length}
use borrow.Author.Tests.{lt-ltb}
use Rattle.record.specs.declared.Record.{Record}
use Rattle.record.specs.Range.{InRange}
use Rattle.std.specs.Prelude.{Option, Some, None}
use Rattle.file.specs.File.{record_at, stored, record_in}
use Rattle.file.proofs.Laws.{stored_length, read_stored, read_other}
use Rattle.reader.specs.Passed.{stored_all}
use Rattle.verdict.specs.Verdict.{blank}
use Rattle.verdict.specs.Meaning.{nth}
use Rattle.checker.specs.Passing.{Fit}

what : Option Record → Record
what (Some r) = r
what None = blank

found : (l : List ℕ) (i : ℕ) → i < length l / 36 → record_in l i ≡ what (record_at l i)
unfolding record_at what
found l i h = rw (lt-ltb i (length l / 36) h)

stored_here : (r : Record) (i : ℕ) (file : List ℕ) → i < length file / 36 → InRange r → record_in (stored r i file) i ≡ r
unfolding what
stored_here r i file h fits = found (stored r i file) i (rw (stored_length r i file) h) ∙ ap what (read_stored r i file (lt-ltb i (length file / 36) h) fits)

stored_there : (r : Record) (i j : ℕ) (file : List ℕ) → i < length file / 36 → j < length file / 36 → (j ≡ i → ⊥) → record_in (stored r i file) j ≡ record_in file j
stored_there r i j file h l d =
    found (stored r i file) j (rw (stored_length r i file) l)
    ∙ ap what (read_other r i file (lt-ltb i (length file / 36) h) j d)
    ∙ sym (found file j l)

pub laid_length : (rs : List Record) (n : ℕ) (file : List ℕ) → length (stored_all n rs file) ≡ length file
unfolding stored_all
laid_length [] n file = refl
laid_length (r ∷ rs) n file = laid_length rs (n + 1) (stored r n file) ∙ stored_length r n file

-- what stands before the first index is kept
laid_before : (rs : List Record) (n : ℕ) (file : List ℕ) (j : ℕ) → n + length rs ≤ length file / 36 → j < n → record_in (stored_all n rs file) j ≡ record_in file j
unfolding stored_all
laid_before [] n file j h l = refl
laid_before (r ∷ rs) n file j h l =
    laid_before rs (n + 1) (stored r n file) j (rw (stored_length r n file) (omega arith)) (omega arith)
    ∙ stored_there r n j file (omega arith) (omega arith) (omega arith)

laid_from : (rs : List Record) (n : ℕ) (file : List ℕ) → n + length rs ≤ length file / 36 → Fit rs → (k : ℕ) → k < length rs
    → record_in (stored_all n rs file) (n + k) ≡ nth rs k
unfolding stored_all
laid_from [] n file h fit k l = absurd (not-suc-le-zero l)
laid_from (r ∷ rs) n file h fit zero l =
    let z : n + 0 ≡ n = omega arith in
    rw z
    (laid_before rs (n + 1) (stored r n file) n (rw (stored_length r n file) (omega arith)) (omega arith)
    ∙ stored_here r n file (omega arith) (fit 0 (omega arith)))
laid_from (r ∷ rs) n file h fit (suc k) l =
    let z : n + suc k ≡ n + 1 + k = omega arith in
    rw z (laid_from rs (n + 1) (stored r n file) (rw (stored_length r n file) (omega arith)) (λ j q. fit (suc j) (omega arith)) k (omega arith))

pub laid_at : (rs : List Record) (file : List ℕ) → length rs ≤ length file / 36 → Fit rs → (k : ℕ) → k < length rs → record_in (stored_all 0 rs file) k ≡ nth rs k
laid_at rs file h fit k l = let z : 0 + k ≡ k = omega arith in rw z at (laid_from rs 0 file (omega arith) fit k l)
