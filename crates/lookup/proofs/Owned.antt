-- The chain of owners by its own equation: a record without an owner has 0, and one with an owner has one more than that owner. It is
-- the only count of which this holds, since `at` falls from a record to its owner.
use Prim.Native.Nat.{ℕ, zero, suc, ◌≤◌, ◌<◌}
use mathlib.Core.Path.{◌≡◌, refl, ap, ◌∙◌}
use mathlib.Core.Bool.{Bool, true, false, cond}
use mathlib.Core.List.{List, [], ◌∷◌}
use mathlib.Core.Option.{Option, none, some, map, none-ne-some}
use native.Mathlib.Omega.{arith}
use borrow.Author.Tests.{ltb-true, eqb-true, le-ltb}
use lib.Dec.{ltb}
use Rattle.record.specs.declared.Record.{Record}
use Rattle.lookup.specs.First.{first}
use Rattle.lookup.specs.Chain.{is_at, at_index, owner_of, counted, within, owners_of}

-- the first record of a test passes it
passes : (p : Record → Bool) (rs : List Record) (s : Record) → at_index rs (first p rs) ≡ some s → p s ≡ true
unfolding first
passes p [] s h = absurd (none-ne-some s h)
passes p (r ∷ rs) s h = go (p r) refl (first p rs) (λ e. passes p rs s e) h
  where
    go : (b : Bool) → p r ≡ b → (o : Option ℕ) → (at_index rs o ≡ some s → p s ≡ true)
        → at_index (r ∷ rs) (cond b (some 0) (map suc o)) ≡ some s → p s ≡ true
    go true e o f h = cc
    go false e none f h = absurd (none-ne-some s h)
    go false e (some i) f h = f h

module _ (rs : List Record) where
  -- an owner stands below what it owns
  pub owner_below : (r s : Record) → owner_of rs r ≡ some s → s.at < r.at
  owner_below r s h = go (ltb r.owner r.at) refl h
    where
      go : (b : Bool) → ltb r.owner r.at ≡ b → cond b (at_index rs (first (is_at r.owner) rs)) none ≡ some s → s.at < r.at
      go true e h =
          let l : r.owner < r.at = ltb-true r.owner r.at e in
          let a : s.at ≡ r.owner = eqb-true s.at r.owner (passes (is_at r.owner) rs s h) in
          omega arith
      go false e h = absurd (none-ne-some s h)

  -- an owner that is not below its record ends the chain
  pub not_below : (r : Record) → r.at ≤ r.owner → owner_of rs r ≡ none
  not_below r h = rw (le-ltb r.owner r.at h)

  -- what is counted depends only on the owner that there is
  alike : (o : Option Record) (f g : Record → ℕ) → ((s : Record) → o ≡ some s → f s ≡ g s) → counted f o ≡ counted g o
  alike none f g h = refl
  alike (some s) f g h = ap suc (h s refl)

  -- any number of steps that `at` allows for is enough
  enough : (n m : ℕ) (r : Record) → r.at ≤ n → r.at ≤ m → within n rs r ≡ within m rs r
  unfolding within
  enough zero zero r h l = refl
  enough zero (suc m) r h l = rw (not_below r (omega arith))
  enough (suc n) zero r h l = rw (not_below r (omega arith))
  enough (suc n) (suc m) r h l = alike (owner_of rs r) (λ s. within n rs s) (λ s. within m rs s)
      (λ s e. let b : s.at < r.at = owner_below r s e in enough n m s (omega arith) (omega arith))

  -- no owner, or one more than the owner has
  pub chain : (r : Record) → owners_of rs r ≡ counted (λ s. owners_of rs s) (owner_of rs r)
  unfolding owners_of within
  chain r =
      enough r.at (suc r.at) r (omega arith) (omega arith)
      ∙ alike (owner_of rs r) (λ s. within r.at rs s) (λ s. within s.at rs s)
      (λ s e. let b : s.at < r.at = owner_below r s e in enough r.at s.at s (omega arith) (omega arith))

  -- and no other count has this equation
  only : (f : Record → ℕ) → ((r : Record) → f r ≡ counted f (owner_of rs r)) → (n : ℕ) (r : Record) → r.at ≤ n → f r ≡ within n rs r
  unfolding within
  only f c zero r h = c r ∙ ap (counted f) (not_below r (omega arith))
  only f c (suc n) r h = c r ∙ alike (owner_of rs r) f (λ s. within n rs s) (λ s e. let b : s.at < r.at = owner_below r s e in only f c n s (omega arith))

  pub only_chain : (f : Record → ℕ) → ((r : Record) → f r ≡ counted f (owner_of rs r)) → (r : Record) → f r ≡ owners_of rs r
  unfolding owners_of
  only_chain f c r = only f c r.at r (omega arith)

  pub no_owner : (r : Record) → owner_of rs r ≡ none → owners_of rs r ≡ 0
  no_owner r e = chain r ∙ rw e

  pub one_owner : (r s : Record) → owner_of rs r ≡ some s → owners_of rs r ≡ suc (owners_of rs s)
  one_owner r s e = chain r ∙ rw e
