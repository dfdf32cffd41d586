-- Where a list from outside, given by its positions, first differs from the sorted list: found by looking for each thing of the sorted list
-- in the front that rises, and by counting how many things do not come after one.
use Prim.Native.Nat.{ℕ, suc, ◌+◌, ◌-◌, ◌≤◌, ◌<◌, suc-le-suc}
use native.Mathlib.Decide.{dec_lt}
use native.Mathlib.Omega.{arith}
use mathlib.Core.Path.{◌≡◌, sym, ap, ◌∙◌}
use mathlib.Core.Logic.{◌⊎◌, ⊎_elim}
use mathlib.Core.Bool.{Bool, true, false, true≢false}
use mathlib.Core.List.Permᴰ
use mathlib.Core.List.{List, Memᴰ, Permᴰ}
use lib.ListN.{length, get_or}
use Rattle.ordered.specs.Order.{Order, Rising}
use Rattle.ordered.specs.Counted.{up_to, total, total_to}
use Rattle.ordered.proofs.Members.{perm_mem, perm_length, get_mem, mem_get}
use Rattle.ordered.proofs.Sorting.{rising_all}
use Rattle.ordered.proofs.Totals.{total_perm, weighs_least, weighs_same}
use Rattle.ordered.proofs.Runs.{Climbs, climbs_less, runs_same}
use Rattle.ordered.proofs.Fronts.{Upto, upto, upto_own, upto_perm}

-- the first n things of f, of which there are c, are those of l, and then the one or the other ends, or they differ
pub record Differs {A : Type 0} (d : A) (f : ℕ → A) (c : ℕ) (l : List A) (n : ℕ) : Type 0 where
  pub given : n ≤ c
  pub wanted : n ≤ length l
  pub same : (k : ℕ) → k < n → f k ≡ get_or l k d
  pub stop : n < c → n < length l → f n ≡ get_or l n d → ⊥

-- a is, or is not, one of the first n
abbrev pub Among : {A : Type 0} → (ℕ → A) → ℕ → A → Type 0
Among f n a = (k : ℕ) × (k < n) × (f k ≡ a)

abbrev pub Missing : {A : Type 0} → (ℕ → A) → ℕ → A → Type 0
Missing f n a = (k : ℕ) → k < n → f k ≡ a → ⊥

module _ {A : Type 0} {before : A → A → Bool} (o : Order before) (d : A) (l : List A) (up : Climbs before (λ k. get_or l k d) (length l)) where
  module _ {f : ℕ → A} {n : ℕ} (rises : Climbs before f n) where
    -- where each thing of the sorted list stands in the front, and that is no longer, it is the front
    pub all_same : length l ≡ n → ((k : ℕ) → k < length l → Among f n (get_or l k d)) → (k : ℕ) → k < n → f k ≡ get_or l k d
    all_same e t = runs_same o rises (λ i j p q. up i j p (omega arith)) (λ k p. t k (omega arith))

    -- p things do not come after the one before p, and none of them is lacking: they are the first p
    front_same :
        (p : ℕ)
        → p < n
        → up_to before (f p) l ≡ p + 1
        → ((k : ℕ) → k < length l → before (f p) (get_or l k d) ≡ false → Among f n (get_or l k d))
        → (p < length l) × ((k : ℕ) → k ≤ p → f k ≡ get_or l k d)
    front_same p h e t = (
      omega (arith, w.within),
      λ k q. runs_same o
          (climbs_less before f (suc p) n h rises)
          (climbs_less before (λ i. get_or l i d) (suc p) (length l) (omega (arith, w.within)) up)
          near k (suc-le-suc q),
    )
      where
        w : Upto before d (f p) l (up_to before (f p) l)
        w = upto before o d (f p) l up

        near : (k : ℕ) → k < suc p → Among f (suc p) (get_or l k d)
        near k q =
            let not_after = w.here k (omega arith) in
            let a = t k (omega (arith, w.within)) not_after in
            elim (dec_lt p a.0) [
              | yes r ↦ absurd (true≢false (sym (rises p a.0 r a.1) ∙ ap (before (f p)) a.2 ∙ not_after))
              | no r ↦ (a.0, omega arith, a.2)
            ]

-- the sorted list l of es, and f of which there are c, whose first n rise, and no further
module _ {A : Type 0} {before : A → A → Bool} (o : Order before) (d : A) {l es : List A} (sort : Rising before l) (perm : Permᴰ l es)
    {f : ℕ → A} {c n : ℕ} (nc : n ≤ c) (rises : Climbs before f n) where
  up : Climbs before (λ k. get_or l k d) (length l)
  up = rising_all before o l d sort

  wanted_in : (k : ℕ) → k < length l → Memᴰ (get_or l k d) es
  wanted_in k h = perm_mem perm (get_mem l d k h)

  -- what does not come after the one before it is not the next of the sorted list
  pub not_after : 0 < n → before (f (n - 1)) (f n) ≡ false → n < length l → ((k : ℕ) → k ≤ n → f k ≡ get_or l k d) → ⊥
  not_after n0 b nl s = true≢false (sym (up (n - 1) n (omega arith) nl) ∙ rw (← s n (omega arith), ← s (n - 1) (omega arith)) b)

  -- nor are those that weigh more than all of it
  pub too_heavy : (weight : A → ℕ) → total weight es < total_to weight f (n + 1) → n < length l → ((k : ℕ) → k ≤ n → f k ≡ get_or l k d) → ⊥
  too_heavy weight h nl s =
      omega (arith, total_perm weight perm, weighs_least weight d l (n + 1) (omega arith), weighs_same weight f (λ i. get_or l i d) (n + 1) (λ k p. s k (omega arith)))

  -- none of es is lacking, and the front has no more than these
  pub differs_none : n ≡ length es → ((e : A) → Memᴰ e es → Among f n e) → Differs d f c l n
  differs_none ne t = record {
    given = nc;
    wanted = omega (arith, perm_length perm);
    same = all_same o d l up rises (perm_length perm ∙ sym ne) (λ k h. t (get_or l k d) (wanted_in k h));
    stop = λ p q. absurd (omega (arith, perm_length perm));
  }

  -- of es each that does not come after all of the first p of the front stands there, and one that would stand at p is lacking;
  -- q things, and with the one at q not one more, do not come after the one before q
  module _ (p : ℕ) (pn : p ≤ n)
      (stop : n < c → n < length l → ((k : ℕ) → k ≤ n → f k ≡ get_or l k d) → ⊥)
      (each : (e : A) → Memᴰ e es → Among f n e ⊎ ((k : ℕ) → k < p → before (f k) e ≡ true))
      (lack : p < n → (e : A) × Memᴰ e es × Missing f n e × (before (f p) e ≡ false))
      (q : ℕ) (qp : q ≤ p)
      (good : 0 < q → up_to before (f (q - 1)) es ≡ q)
      (more : q < p → up_to before (f q) es ≡ q + 1 → ⊥) where
    front : (r : ℕ) → q ≡ suc r → (q ≤ length l) × ((k : ℕ) → k < q → f k ≡ get_or l k d)
    front r e =
        let z : q - 1 ≡ r = omega arith in
        let g : up_to before (f r) l ≡ r + 1 = upto_perm before (f r) perm ∙ (rw z at (good (omega arith))) ∙ omega arith in
        let w = front_same o d l up rises r (omega arith) g stands in
        (omega (arith, w.0), λ k h. w.1 k (omega arith))
      where
        stands : (k : ℕ) → k < length l → before (f r) (get_or l k d) ≡ false → Among f n (get_or l k d)
        stands k h no-later =
            ⊎_elim (λ a. a) (λ b. absurd (true≢false (sym (b r (omega arith)) ∙ no-later))) (each (get_or l k d) (wanted_in k h))

    fronts : (q ≤ length l) × ((k : ℕ) → k < q → f k ≡ get_or l k d)
    fronts = elim (dec_lt 0 q) [
      | yes h ↦ front (q - 1) (omega arith)
      | no h ↦ (omega arith, λ k r. absurd (omega arith))
    ]

    -- the one lacking would stand before the one at q, and all that do are there
    not_lacking : q ≡ p → p < n → q < length l → f q ≡ get_or l q d → ⊥
    not_lacking e h ql s =
        let (a, m, gone, not-before) = lack h in
        let (k, kl, t) = mem_get l d a (perm_mem (Permᴰ.symm perm) m) in
        elim (dec_lt q k) [
          | yes r ↦ true≢false (sym (up q k r kl) ∙ (rw (← s, ← t) (rw e not-before)))
          | no r ↦ elim (dec_lt k q) [
            | yes u ↦ gone k (omega arith) (fronts.1 k u ∙ sym t)
            | no u ↦ let z : k ≡ q = omega arith in gone q (omega arith) (s ∙ ap (λ i. get_or l i d) (sym z) ∙ sym t)
          ]
        ]

    -- the first n and the one at n are not those of the sorted list
    not_risen : q ≡ n → n < c → q < length l → f q ≡ get_or l q d → ⊥
    not_risen e h ql s = stop h (omega arith) (λ k r. elim (dec_lt k q) [
      | yes u ↦ fronts.1 k u
      | no u ↦ let z : k ≡ q = omega arith in rw z s
    ])

    pub differs_at : Differs d f c l q
    differs_at = record {
      given = omega arith;
      wanted = fronts.0;
      same = fronts.1;
      stop = λ h ql s. elim (dec_lt q p) [
        | yes r ↦ more r (sym (upto_perm before (f q) perm) ∙ ap (λ x. up_to before x l) s ∙ upto_own before o d l up q ql)
        | no r ↦ elim (dec_lt p n) [
          | yes u ↦ not_lacking (omega arith) u ql s
          | no u ↦ not_risen (omega arith) (omega arith) ql s
        ]
      ];
    }
