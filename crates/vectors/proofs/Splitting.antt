-- The first line of an input and those after it: it ends before the first newline, or where the input does.
use Prim.Native.Nat.{ℕ, suc, ◌+◌, ◌≤◌, ◌<◌}
use mathlib.Core.Path.{◌≡◌, refl, sym, ap, ◌∙◌}
use mathlib.Core.Bool.{Bool, true, false, cond, not}
use mathlib.Core.List.{List, [], ◌∷◌}
use native.Mathlib.Decide.{dec_lt}
use native.Mathlib.Omega.{arith}
use borrow.Author.Tests.{lt-ltb, le-ltb}
use lib.ListN.{length, take, drop}
use Rattle.std.specs.Prelude.{Option, Some, None}
use Rattle.std.specs.List.{slice_split, onto_first, position, position_or_len}
use Rattle.std.proofs.lemmas.List.Splits.{slice_split_first, slice_split-cons_no}

module _ (p : ℕ → Bool) where
  -- where no byte passes, the input is the one line
  alone : (xs : List ℕ) → length xs ≤ position_or_len p xs → slice_split p xs ≡ xs ∷ []
  alone [] h = refl
  alone (x ∷ xs) h = go (p x) refl h (alone xs)
    where
      go : (b : Bool) → p x ≡ b → length (x ∷ xs) ≤ cond (not b) (1 + position_or_len p xs) 0
          → (length xs ≤ position_or_len p xs → slice_split p xs ≡ xs ∷ []) → slice_split p (x ∷ xs) ≡ (x ∷ xs) ∷ []
      go true e g rest = absurd (omega arith)
      go false e g rest = slice_split-cons_no p x xs e ∙ ap (onto_first x) (rest (omega arith))

  pub first_line : (xs : List ℕ) (n : ℕ) → Some n ≡ position p xs → slice_split p xs ≡ take n xs ∷ slice_split p (drop (n + 1) xs)
  first_line xs n e =
      elim (dec_lt (position_or_len p xs) (length xs)) [
        | yes h ↦ let is : n ≡ position_or_len p xs = cc (e, lt-ltb (position_or_len p xs) (length xs) h) in rw is (slice_split_first p xs 0 h)
        | no h ↦ absurd (cc (e, le-ltb (position_or_len p xs) (length xs) (omega (arith, h))))
      ]

  pub last_line : (xs : List ℕ) → None ≡ position p xs → slice_split p xs ≡ xs ∷ []
  last_line xs e =
      elim (dec_lt (position_or_len p xs) (length xs)) [
        | yes h ↦ absurd (cc (e, lt-ltb (position_or_len p xs) (length xs) h))
        | no h ↦ alone xs (omega (arith, h))
      ]
