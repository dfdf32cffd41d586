-- The first that has the greatest `at` of those that pass is the one with no greater among them and no equal before it; there is one
-- exactly where some record passes.
use Prim.Native.Nat.{ℕ, zero, suc, ◌≤◌, ◌<◌}
use mathlib.Core.Path.{◌≡◌, refl, sym, subst, ◌∙◌}
use mathlib.Core.Bool.{Bool, true, false, true≢false, ◌&&◌}
use mathlib.Core.List.{List, [], ◌∷◌}
use mathlib.Core.Logic.{◌⊎◌, inl, inr}
use mathlib.Core.Option.{Option, some, none, none-ne-some, some-injective}
use native.Mathlib.Nat.{le_antisymm}
use native.Mathlib.Decide.{dec_lt}
use native.Mathlib.Omega.{arith}
use borrow.Author.Tests.{eq-eqb, ne_eqb}
use lib.Dec.{eqb}
use lib.ListN.{get_elem?}
use Rattle.record.specs.declared.Record.{Record}
use Rattle.lookup.specs.First.{greatest}
use Rattle.lookup.specs.Force.{latest, Latest}
use Rattle.lookup.proofs.First.{is_first, no_first, at_most, within}

module _ (p : Record → Bool) where
  abbrev None : List Record → Type 0
  None rs = (k : ℕ) (s : Record) → get_elem? rs k ≡ some s → p s ≡ false

  pub is_latest : (rs : List Record) (i : ℕ) (r : Record) → Latest p rs i r → latest p rs ≡ some i
  unfolding latest
  is_latest rs i r l =
      let top : r.at ≡ greatest p rs = le_antisymm (at_most p rs i r l.here l.passes) (within p rs r.at l.most) in
      is_first (λ s. p s && eqb s.at (greatest p rs)) rs i r l.here (rw l.passes (eq-eqb r.at (greatest p rs) top))
      (λ k s h q. go s top (λ e. l.first k s h e q) (p s) refl)
    where
      go : (s : Record) → r.at ≡ greatest p rs → (p s ≡ true → s.at < r.at) → (b : Bool) → p s ≡ b → (b && eqb s.at (greatest p rs)) ≡ false
      go s top f true e =
          let h : s.at < r.at = f e in
          ne_eqb s.at (greatest p rs) (λ z. omega arith)
      go s top f false e = refl

  pub no_latest : (rs : List Record) → None rs → latest p rs ≡ none
  unfolding latest
  no_latest rs f = no_first (λ s. p s && eqb s.at (greatest p rs)) rs (λ k s h. rw (f k s h))

  -- a record in front: it passes or not, and is as late as the latest behind it or not
  in_front : (rs : List Record) (s : Record) → p s ≡ true → ((k : ℕ) (t : Record) → get_elem? rs k ≡ some t → p t ≡ true → t.at ≤ s.at) → Latest p (s ∷ rs) 0 s
  in_front rs s q f = record {
    here = refl;
    passes = q;
    most = λ k t h e. most k t h e;
    first = λ k t h e l. absurd (omega arith);
  }
    where
      most : (k : ℕ) (t : Record) → get_elem? (s ∷ rs) k ≡ some t → p t ≡ true → t.at ≤ s.at
      most zero t h e =
          let a : t.at ≡ s.at = cc in
          omega arith
      most (suc k) t h e = f k t h e

  behind : (rs : List Record) (s : Record) (i : ℕ) (r : Record) → Latest p rs i r → (p s ≡ true → s.at < r.at) → Latest p (s ∷ rs) (suc i) r
  behind rs s i r l f = record { here = l.here; passes = l.passes; most = λ k t h e. most k t h e; first = λ k t h e q. first k t h e q }
    where
      less : (t : Record) → ◌≡◌ {A = Option Record} (some s) (some t) → p t ≡ true → t.at < r.at
      less t h e =
          let a : t.at ≡ s.at = cc in
          let q : p s ≡ true = cc in
          let z : s.at < r.at = f q in
          omega arith

      most : (k : ℕ) (t : Record) → get_elem? (s ∷ rs) k ≡ some t → p t ≡ true → t.at ≤ r.at
      most zero t h e =
          let z = less t h e in
          omega arith
      most (suc k) t h e = l.most k t h e

      first : (k : ℕ) (t : Record) → get_elem? (s ∷ rs) k ≡ some t → p t ≡ true → k < suc i → t.at < r.at
      first zero t h e q = less t h e
      first (suc k) t h e q = l.first k t h e (omega arith)

  abbrev Some : List Record → Type 0
  Some rs = (i : ℕ) × ((r : Record) × Latest p rs i r)

  -- either no record passes, or one of them is the latest
  some_or_none : (rs : List Record) → None rs ⊎ Some rs
  some_or_none [] = inl (λ k s h. absurd (none-ne-some s h))
  some_or_none (s ∷ rs) = go (p s) refl (some_or_none rs)
    where
      all : p s ≡ false → None rs → None (s ∷ rs)
      all e f zero t h = cc
      all e f (suc k) t h = f k t h

      either : p s ≡ true → Some rs → Some (s ∷ rs)
      either e w = elim (dec_lt s.at w.1.0.at) [
        | yes q ↦ (suc w.0, (w.1.0, behind rs s w.0 w.1.0 w.1.1 (λ _. q)))
        | no q ↦ (0, (s, in_front rs s e (λ k t h u. let z = w.1.1.most k t h u in omega (arith, q, z))))
      ]

      go : (b : Bool) → p s ≡ b → None rs ⊎ Some rs → None (s ∷ rs) ⊎ Some (s ∷ rs)
      go false e (inl f) = inl (all e f)
      go true e (inl f) = inr (0, (s, in_front rs s e (λ k t h u. absurd (true≢false (sym u ∙ f k t h)))))
      go false e (inr w) = inr (suc w.0, (w.1.0, behind rs s w.0 w.1.0 w.1.1 (λ u. absurd (true≢false (sym u ∙ e)))))
      go true e (inr w) = inr (either e w)

  -- the index that comes out is that of the latest
  pub latest_is : (rs : List Record) (i : ℕ) → latest p rs ≡ some i → (r : Record) × Latest p rs i r
  latest_is rs i h = go (some_or_none rs)
    where
      go : None rs ⊎ Some rs → (r : Record) × Latest p rs i r
      go (inl f) = absurd (none-ne-some i (sym (no_latest rs f) ∙ h))
      go (inr w) =
          let e : w.0 ≡ i = some-injective w.0 i (sym (is_latest rs w.0 w.1.0 w.1.1) ∙ h) in
          subst (λ (n : ℕ). (r : Record) × Latest p rs n r) e w.1

  -- and where none comes out, no record passes
  pub none_is : (rs : List Record) → latest p rs ≡ none → (k : ℕ) (s : Record) → get_elem? rs k ≡ some s → p s ≡ false
  none_is rs h = go (some_or_none rs)
    where
      go : None rs ⊎ Some rs → None rs
      go (inl f) = f
      go (inr w) = absurd (none-ne-some w.0 (sym h ∙ is_latest rs w.0 w.1.0 w.1.1))
