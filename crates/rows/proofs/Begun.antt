-- The word of the first row that gives records of a kind: found among the rows before, or else among those after.
use Prim.Native.Nat.{ℕ}
use mathlib.Core.Path.{◌≡◌, refl, sym}
use mathlib.Core.Bool.{Bool, true, false, cond, not, ◌&&◌}
use mathlib.Core.List.{List, [], ◌∷◌, ◌++◌}
use borrow.Author.Tests.{eq-eqb}
use lib.Dec.{eqb}
use Rattle.word.specs.Words.{word}
use Rattle.word.proofs.Words.{clash, both}
use Rattle.grammar.specs.Grammar.{Row}
use Rattle.rows.specs.Packed.{gives, begun_by}

-- each row has a word
unfoldable pub wordy : List Row → Bool
wordy [] = true
wordy (r ∷ rs) = not (eqb (word r.begin) 0) && wordy rs

module _ (k : ℕ) where
  -- rows before and rows after
  pub before_these : (xs ys : List Row) → (begun_by k xs ≡ 0 → ⊥) → begun_by k xs ≡ begun_by k (xs ++ ys)
  unfolding begun_by
  before_these [] ys n = absurd (n refl)
  before_these (x ∷ xs) ys n = go (gives k x.act) refl (before_these xs ys)
    where
      go : (b : Bool) → gives k x.act ≡ b → ((begun_by k xs ≡ 0 → ⊥) → begun_by k xs ≡ begun_by k (xs ++ ys))
          → cond b (word x.begin) (begun_by k xs) ≡ cond b (word x.begin) (begun_by k (xs ++ ys))
      go true e f = refl
      go false e f = f (rw e at n)

  pub after_those : (xs ys : List Row) → wordy xs ≡ true → begun_by k xs ≡ 0 → begun_by k ys ≡ begun_by k (xs ++ ys)
  unfolding begun_by wordy
  after_those [] ys t z = refl
  after_those (x ∷ xs) ys t z =
      let (p, q) = both (not (eqb (word x.begin) 0)) (wordy xs) t in
      go (gives k x.act) refl p (after_those xs ys q)
    where
      go : (b : Bool) → gives k x.act ≡ b → not (eqb (word x.begin) 0) ≡ true → (begun_by k xs ≡ 0 → begun_by k ys ≡ begun_by k (xs ++ ys))
          → begun_by k ys ≡ cond b (word x.begin) (begun_by k (xs ++ ys))
      go true e p f = absurd (spelt (rw e at z) p)
        where
          spelt : word x.begin ≡ 0 → not (eqb (word x.begin) 0) ≡ true → ⊥
          spelt y p = clash (sym (rw (eq-eqb (word x.begin) 0 y) at p))
      go false e p f = f (rw e at z)
