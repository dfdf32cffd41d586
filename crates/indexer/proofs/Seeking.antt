-- In entries that rise those that bear an owner and a name stand together, by their `at`, from where the least key with both would stand.
use Prim.Native.Nat.{ℕ, ◌≤◌, ◌<◌}
use native.Mathlib.Decide.{dec_lt}
use native.Mathlib.Omega.{arith}
use mathlib.Core.Path.{◌≡◌, sym, ap, ◌∙◌}
use mathlib.Core.Bool.{true, false, true≢false}
use mathlib.Core.List.{List}
use borrow.Author.Tests.{eq-eqb}
use Rattle.entry.specs.declared.Entry.{Entry}
use Rattle.entry.specs.Order.{key, key_of, name_of, ahead, alike, before, precedes}
use Rattle.entry.proofs.Ordered.{Before, by_owner, by_name, by_at, of_before, to_before, same_alike, ahead_irreflexive}
use Rattle.index.specs.Answers.{bears}
use Rattle.index.proofs.Least.{bears_so}
use Rattle.indexer.specs.Inner.{Rises, Lower}

module _ (s : List ℕ) (owner : ℕ) (name : List ℕ) where
  pub bears_of : (e : Entry) → e.owner ≡ owner → alike (name_of s e) name ≡ true → bears s owner name e ≡ true
  unfolding bears
  bears_of e p h = rw (eq-eqb e.owner owner p) h

  pub bears_owner : (e : Entry) → bears s owner name e ≡ true → e.owner ≡ owner
  bears_owner e h = (bears_so s owner name e h).0

  pub bears_name : (e : Entry) → bears s owner name e ≡ true → alike (name_of s e) name ≡ true
  bears_name e h = rw (bears_so s owner name e h).1 (same_alike name)

  -- none that bears them comes before the least key with both
  not_less : (e : Entry) → bears s owner name e ≡ true → before (key_of s e) (key owner name 0) ≡ true → ⊥
  not_less e h b = go (of_before (key_of s e) (key owner name 0) b)
    where
      go : Before (key_of s e) (key owner name 0) → ⊥
      go (by_owner l) = omega (arith, (bears_so s owner name e h).0)
      go (by_name p n) = true≢false (sym n ∙ ap (λ m. ahead m name) (bears_so s owner name e h).1 ∙ ahead_irreflexive name)
      go (by_at p n l) = omega arith

  -- those that bear them go by their `at`
  by_their_at : (e f : Entry) → bears s owner name e ≡ true → bears s owner name f ≡ true → precedes s e f ≡ true → e.at < f.at
  by_their_at e f h k b = go (of_before (key_of s e) (key_of s f) b)
    where
      go : Before (key_of s e) (key_of s f) → e.at < f.at
      go (by_owner l) = absurd (omega (arith, (bears_so s owner name e h).0, (bears_so s owner name f k).0))
      go (by_name p n) =
          absurd (true≢false (sym n ∙ ap (λ m. ahead m (name_of s f)) ((bears_so s owner name e h).1 ∙ sym (bears_so s owner name f k).1) ∙ ahead_irreflexive (name_of s f)))
      go (by_at p n l) = l

  -- what comes before one that bears them, and not before the least key with both, bears them
  between : (e f : Entry) → bears s owner name f ≡ true → precedes s e f ≡ true → before (key_of s e) (key owner name 0) ≡ false → bears s owner name e ≡ true
  between e f k b c = go (of_before (key_of s e) (key_of s f) b)
    where
      not_least : Before (key_of s e) (key owner name 0) → ⊥
      not_least l = true≢false (sym (to_before l) ∙ c)

      go : Before (key_of s e) (key_of s f) → bears s owner name e ≡ true
      go (by_owner l) = absurd (not_least (by_owner (rw (bears_so s owner name f k).0 at l)))
      go (by_name p n) = absurd (not_least (by_name (p ∙ (bears_so s owner name f k).0) (rw (bears_so s owner name f k).1 at n)))
      go (by_at p n l) = bears_of e (p ∙ (bears_so s owner name f k).0) (rw (n ∙ (bears_so s owner name f k).1) (same_alike name))

  module _ (f : ℕ → Entry) (n p : ℕ) (r : Rises s f n) (l : Lower s f n (key owner name 0) p) where
    pub seeks_none : (p < n → bears s owner name (f p) ≡ true → ⊥) → (j : ℕ) → j < n → bears s owner name (f j) ≡ true → ⊥
    seeks_none h j jn b = elim (dec_lt j p) [
      | yes q ↦ not_less (f j) b (l.below j q)
      | no q ↦ elim (dec_lt p j) [
        | yes t ↦ h (omega arith) (between (f p) (f j) b (r p j t jn) (l.above p (omega arith) (omega arith)))
        | no t ↦ let z : j ≡ p = omega arith in h (omega arith) (rw z at b)
      ]
    ]

    pub seeks_least : p < n → bears s owner name (f p) ≡ true → (j : ℕ) → j < n → bears s owner name (f j) ≡ true → (f p).at ≤ (f j).at
    seeks_least pn h j jn b = elim (dec_lt j p) [
      | yes q ↦ absurd (not_less (f j) b (l.below j q))
      | no q ↦ elim (dec_lt p j) [
        | yes t ↦ omega (arith, by_their_at (f p) (f j) h b (r p j t jn))
        | no t ↦ let z : j ≡ p = omega arith in rw z (omega arith)
      ]
    ]
