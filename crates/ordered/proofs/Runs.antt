-- Two rising runs of one length are the same where each thing of the one stands in the other: its place can only be its own.
use Prim.Native.Nat.{ℕ, zero, suc, ◌+◌, ◌-◌, ◌≤◌, ◌<◌, zero-le}
use native.Mathlib.Nat.{le_antisymm}
use native.Mathlib.Decide.{dec_lt, ℕ_discrete}
use native.Mathlib.Omega.{arith}
use mathlib.Core.Path.{◌≡◌, sym, ap, ◌∙◌}
use mathlib.Core.Bool.{Bool, true, true≢false}
use Rattle.ordered.specs.Order.{Order}

-- each of the first n comes before all later ones of them
abbrev pub Climbs : {A : Type 0} → (A → A → Bool) → (ℕ → A) → ℕ → Type 0
Climbs before f n = (i j : ℕ) → i < j → j < n → before (f i) (f j) ≡ true

pub climbs_less : {A : Type 0} (before : A → A → Bool) (f : ℕ → A) (m n : ℕ) → m ≤ n → Climbs before f n → Climbs before f m
climbs_less before f m n l h i j p q = h i j p (omega arith)

module _ {A : Type 0} {before : A → A → Bool} (o : Order before) where
  pub not_itself : {a b : A} → before a b ≡ true → a ≡ b → ⊥
  not_itself {a} {b} h e = true≢false (sym h ∙ ap (before a) (sym e) ∙ o.irreflexive a)

  pub not_both : {a b : A} → before a b ≡ true → before b a ≡ true → ⊥
  not_both {a} {b} p q = true≢false (sym (o.transitive a b a p q) ∙ o.irreflexive a)

  module _ {f g : ℕ → A} {n : ℕ} (fr : Climbs before f n) (gr : Climbs before g n) (t : (k : ℕ) → k < n → (i : ℕ) × (i < n) × (f i ≡ g k)) where
    -- what comes later in the one stands later in the other
    later : (j k : ℕ) (hj : j < n) (hk : k < n) → j < k → (t j hj).0 < (t k hk).0
    later j k hj hk l =
        let a = t j hj in
        let b = t k hk in
        elim (dec_lt a.0 b.0) [
          | yes p ↦ p
          | no p ↦ absurd (elim (ℕ_discrete a.0 b.0) [
            | yes e ↦ not_itself (gr j k l hk) (sym a.2 ∙ ap f e ∙ b.2)
            | no e ↦ not_both (gr j k l hk) (rw (b.2, a.2) at (fr b.0 a.0 (omega arith) a.1))
          ])
        ]

    not_lower : (k : ℕ) (h : k < n) → k ≤ (t k h).0
    not_lower zero h = zero-le
    not_lower (suc k) h =
        let l : k < n = omega arith in
        omega (arith, not_lower k l, later k (suc k) l h (omega arith))

    not_higher : (r k : ℕ) (h : k < n) → suc (k + r) ≡ n → (t k h).0 ≤ k
    not_higher zero k h e = omega (arith, (t k h).1)
    not_higher (suc r) k h e =
        let l : suc k < n = omega arith in
        omega (arith, not_higher r (suc k) l (omega arith), later k (suc k) h l (omega arith))

    pub runs_same : (k : ℕ) → k < n → f k ≡ g k
    runs_same k h = ap f (le_antisymm (not_lower k h) (not_higher (n - suc k) k h (omega arith))) ∙ (t k h).2
