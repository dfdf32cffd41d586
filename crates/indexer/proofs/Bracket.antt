-- In entries that rise, what comes before a key ends where what does not begins: so one position tells of all.
use Prim.Native.Nat.{ℕ, ◌-◌, ◌≤◌, ◌<◌}
use native.Mathlib.Decide.{dec_lt}
use native.Mathlib.Omega.{arith}
use mathlib.Core.Path.{◌≡◌, refl, sym, ◌∙◌}
use mathlib.Core.Bool.{Bool, true, false, true≢false}
use mathlib.Core.List.{List}
use Rattle.entry.specs.declared.Entry.{Entry}
use Rattle.entry.specs.Order.{Key, key_of, before}
use Rattle.entry.proofs.Ordered.{before_transitive}
use Rattle.indexer.specs.Inner.{Rises, Lower}

module _ (s : List ℕ) (f : ℕ → Entry) (n : ℕ) (r : Rises s f n) (k : Key) where
  -- what stands before one that comes before the key does too, and what stands behind one that does not neither
  earlier : (i j : ℕ) → i < j → j < n → before (key_of s (f j)) k ≡ true → before (key_of s (f i)) k ≡ true
  earlier i j p q e = before_transitive (key_of s (f i)) (key_of s (f j)) k (r i j p q) e

  later : (i j : ℕ) → i < j → j < n → before (key_of s (f i)) k ≡ false → (t : Bool) → before (key_of s (f j)) k ≡ t → t ≡ false
  later i j p q e true h = absurd (true≢false (sym (earlier i j p q h) ∙ e))
  later i j p q e false h = refl

  pub lower_at : (p : ℕ) → p ≤ n → (0 < p → before (key_of s (f (p - 1))) k ≡ true) → (p < n → before (key_of s (f p)) k ≡ false) → Lower s f n k p
  lower_at p within last next = record {
    within = within;
    below = λ i h. elim (dec_lt i (p - 1)) [
      | yes l ↦ earlier i (p - 1) l (omega arith) (last (omega arith))
      | no l ↦ let z : i ≡ p - 1 = omega arith in rw z (last (omega arith))
    ];
    above = λ i h q. elim (dec_lt p i) [
      | yes l ↦ later p i l q (next (omega arith)) (before (key_of s (f i)) k) refl
      | no l ↦ let z : i ≡ p = omega arith in rw z (next (omega arith))
    ];
  }
