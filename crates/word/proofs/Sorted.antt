-- What a search among rows sorted by their first number finds: the comparisons rise along the rows, so that none is missed.
use Rattle.std.proofs.Common.{◌≡◌, ℕ, zero, suc, ◌+◌, ◌-◌, ◌<◌, ◌≤◌, List, length, get_or, Ok, Err, sym, arith}
use native.Mathlib.Decide.{dec_lt}
use Rattle.std.specs.List.Sorted.{IsBinarySearchResult, IsNonDecreasingBy}
use Rattle.std.specs.Ordering.{nat_cmp, ordering_index}
use Rattle.std.proofs.lemmas.Cmp.{ranked}
use Rattle.std.proofs.lemmas.List.Sorted.{IsNonDecreasingBy-from_default}
use Rattle.std.proofs.lemmas.Bool.Decides.{nat_tests}

abbrev pub none : ℕ × ℕ
none = (0, 0)

module _ (rows : List (ℕ × ℕ)) (next : (i : ℕ) → i + 1 < length rows → (get_or rows i none).0 ≤ (get_or rows (i + 1) none).0) where
  rises : (i d : ℕ) → i + d < length rows → (get_or rows i none).0 ≤ (get_or rows (i + d) none).0
  rises i zero h = let e : i + 0 ≡ i = omega arith in rw e (omega arith)
  rises i (suc d) h =
      let e : i + suc d ≡ i + d + 1 = omega arith in
      let a = rises i d (omega arith) in
      let b = next (i + d) (omega arith) in
      rw e (omega arith)

  rising : (i j : ℕ) → i ≤ j → j < length rows → (get_or rows i none).0 ≤ (get_or rows j none).0
  rising i j le lt =
      let e : i + (j - i) ≡ j = omega arith in
      rw e at (rises i (j - i) (omega arith))

  module _ (key : ℕ) where
    comparisons_rise : IsNonDecreasingBy (λ row. ordering_index (nat_cmp row.0 key)) rows
    comparisons_rise = IsNonDecreasingBy-from_default (λ row. ordering_index (nat_cmp row.0 key)) rows none
        (λ i j le lt. let keys_rise : (get_or rows i none).0 ≤ (get_or rows j none).0 = rising i j le lt in grind (arith, nat_tests))

    pub found : (i : ℕ) → IsBinarySearchResult (λ row. nat_cmp row.0 key) rows (Ok i) → (get_or rows i none).0 ≡ key
    found i h = ranked _ key _ (sym (h none))

    pub missed : (i : ℕ) → IsBinarySearchResult (λ row. nat_cmp row.0 key) rows (Err i)
        → (j : ℕ) → j < length rows → (get_or rows j none).0 ≡ key → ⊥
    missed i h j lt same = elim (dec_lt j i) [
      | yes l ↦
          let b : (get_or rows j none).0 < key = ranked _ key _ (sym ((h comparisons_rise).0 j none (omega arith) l)) in
          omega arith
      | no q ↦
          let b : key < (get_or rows j none).0 = ranked _ key _ (sym ((h comparisons_rise).1 j none (omega arith) lt)) in
          omega arith
    ]
