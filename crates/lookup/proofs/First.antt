-- What the first record of a test is, by the records before it; and that the greatest `at` is one.
use Prim.Native.Nat.{ℕ, zero, suc, max, ◌≤◌, ◌<◌}
use mathlib.Core.Path.{◌≡◌, refl}
use mathlib.Core.Bool.{Bool, true, false, cond}
use mathlib.Core.List.{List, [], ◌∷◌}
use mathlib.Core.Option.{Option, some, none, map, none-ne-some, some-injective}
use native.Mathlib.Omega.{arith}
use lib.ListN.{get_elem?}
use Rattle.record.specs.declared.Record.{Record}
use Rattle.lookup.specs.First.{first, greatest}

module _ (p : Record → Bool) where
  -- a record that passes is the first if none before it does
  pub is_first : (rs : List Record) (i : ℕ) (r : Record) → get_elem? rs i ≡ some r → p r ≡ true
      → ((k : ℕ) (s : Record) → get_elem? rs k ≡ some s → k < i → p s ≡ false) → first p rs ≡ some i
  unfolding first
  is_first [] i r h q f = absurd (none-ne-some r h)
  is_first (s ∷ rs) zero r h q f =
      let e : p s ≡ true = cc in
      rw e
  is_first (s ∷ rs) (suc i) r h q f =
      let e : p s ≡ false = f 0 s refl (omega arith) in
      rw (e, is_first rs i r h q (λ k t g l. f (suc k) t g (omega arith)))

  -- and there is none if no record passes
  pub no_first : (rs : List Record) → ((k : ℕ) (s : Record) → get_elem? rs k ≡ some s → p s ≡ false) → first p rs ≡ none
  unfolding first
  no_first [] f = refl
  no_first (s ∷ rs) f =
      let e : p s ≡ false = f 0 s refl in
      rw (e, no_first rs (λ k t g. f (suc k) t g))

  -- where the first is, there is a record
  pub first_there : (rs : List Record) (i : ℕ) → first p rs ≡ some i → (r : Record) × (get_elem? rs i ≡ some r)
  unfolding first
  first_there [] i h = absurd (none-ne-some i h)
  first_there (s ∷ rs) i h = go (p s) (first p rs) refl h (first_there rs)
    where
      go : (b : Bool) (o : Option ℕ) → first p rs ≡ o → cond b (some 0) (map suc o) ≡ some i
          → ((k : ℕ) → first p rs ≡ some k → (r : Record) × (get_elem? rs k ≡ some r)) → (r : Record) × (get_elem? (s ∷ rs) i ≡ some r)
      go true o e h f =
          let z : 0 ≡ i = some-injective 0 i h in
          (s, rw (← z) refl)
      go false none e h f = absurd (none-ne-some i h)
      go false (some k) e h f =
          let z : suc k ≡ i = some-injective (suc k) i h in
          let w = f k e in
          (w.0, rw (← z) w.1)

  -- a record that passes has no greater `at` than the greatest
  pub at_most : (rs : List Record) (k : ℕ) (s : Record) → get_elem? rs k ≡ some s → p s ≡ true → s.at ≤ greatest p rs
  unfolding greatest
  at_most [] k s h q = absurd (none-ne-some s h)
  at_most (r ∷ rs) zero s h q =
      let e : p r ≡ true = cc in
      let a : r.at ≡ s.at = cc in
      rw e (omega arith)
  at_most (r ∷ rs) (suc k) s h q = go (p r) (at_most rs k s h q)
    where
      go : (b : Bool) → s.at ≤ greatest p rs → s.at ≤ cond b (max r.at (greatest p rs)) (greatest p rs)
      go true l = omega arith
      go false l = l

  -- and the greatest is no greater than what bounds them all
  pub within : (rs : List Record) (m : ℕ) → ((k : ℕ) (s : Record) → get_elem? rs k ≡ some s → p s ≡ true → s.at ≤ m) → greatest p rs ≤ m
  unfolding greatest
  within [] m f = omega arith
  within (r ∷ rs) m f = go (p r) refl (within rs m (λ k s h q. f (suc k) s h q))
    where
      go : (b : Bool) → p r ≡ b → greatest p rs ≤ m → cond b (max r.at (greatest p rs)) (greatest p rs) ≤ m
      go true e l =
          let h : r.at ≤ m = f 0 r refl e in
          omega arith
      go false e l = l
