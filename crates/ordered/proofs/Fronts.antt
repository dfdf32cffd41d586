-- The things of a rising list that do not come after one are its front, and as many as `up_to` counts in any order of the list.
use Prim.Native.Nat.{ℕ, zero, suc, ◌+◌, ◌≤◌, ◌<◌, zero-le, suc-le-suc}
use native.Mathlib.Nat.{not-suc-le-zero, le_of_suc-le-suc}
use native.Mathlib.Decide.{dec_lt}
use native.Mathlib.Omega.{arith}
use mathlib.Core.Path.{◌≡◌, refl, sym, ap, ◌∙◌}
use mathlib.Core.Bool.{Bool, true, false, cond, true≢false}
use mathlib.Core.List.{List, [], ◌∷◌, ◌++◌, Permᴰ}
use lib.ListN.{length, get_or}
use Rattle.std.specs.Prelude.{filter, not}
use Rattle.ordered.specs.Order.{Order}
use Rattle.ordered.specs.Counted.{up_to}
use Rattle.ordered.proofs.Runs.{Climbs}

module _ {A : Type 0} (before : A → A → Bool) where
  steps : (b c : Bool) (n : ℕ) → cond b (cond c n (suc n)) (suc (cond c n (suc n))) ≡ cond c (cond b n (suc n)) (suc (cond b n (suc n)))
  steps true true n = refl
  steps true false n = refl
  steps false true n = refl
  steps false false n = refl

  pub upto_perm : (x : A) {l k : List A} → Permᴰ l k → up_to before x l ≡ up_to before x k
  unfolding up_to
  upto_perm x Permᴰ.nil = refl
  upto_perm x (Permᴰ.cons {a = a} e p) = rw (upto_perm x p, ← e)
  upto_perm x (Permᴰ.swap {a = a} {b = b} {l = l} e d) = rw (← e, ← d) (steps (before x a) (before x b) (up_to before x l))
  upto_perm x (Permᴰ.trans p q) = upto_perm x p ∙ upto_perm x q

  pub upto_few : (x : A) (l : List A) → up_to before x l ≤ length l
  unfolding up_to
  upto_few x [] = zero-le
  upto_few x (a ∷ l) = go (before x a) (upto_few x l)
    where
      go : (b : Bool) → up_to before x l ≤ length l → cond b (up_to before x l) (suc (up_to before x l)) ≤ suc (length l)
      go true h = omega arith
      go false h = omega arith

  -- one thing more counts where it does not come after x
  pub upto_more : (x : A) (l : List A) (a : A) → up_to before x (l ++ a ∷ []) ≡ cond (before x a) (up_to before x l) (up_to before x l + 1)
  unfolding up_to
  upto_more x [] a = go (before x a)
    where
      go : (b : Bool) → cond b 0 1 ≡ cond b 0 (0 + 1)
      go true = refl
      go false = refl
  upto_more x (c ∷ l) a = rw (upto_more x l a) (go (before x c) (before x a) (up_to before x l))
    where
      go : (b d : Bool) (n : ℕ) → cond b (cond d n (n + 1)) (suc (cond d n (n + 1))) ≡ cond d (cond b n (suc n)) (cond b n (suc n) + 1)
      go true true n = refl
      go true false n = refl
      go false true n = refl
      go false false n = omega arith

  -- those that do not come after x, counted one by one
  pub upto_filter : (x : A) (l : List A) → length (filter (λ a. not (before x a)) l) ≡ up_to before x l
  unfolding up_to
  upto_filter x [] = refl
  upto_filter x (a ∷ l) = go (before x a) (upto_filter x l)
    where
      go : (b : Bool) → length (filter (λ a. not (before x a)) l) ≡ up_to before x l
          → length (cond (not b) (a ∷ filter (λ a. not (before x a)) l) (filter (λ a. not (before x a)) l)) ≡ cond b (up_to before x l) (suc (up_to before x l))
      go true h = h
      go false h = ap suc h

  -- u things of the list, and those the first, do not come after x
  pub record Upto (d x : A) (l : List A) (u : ℕ) : Type 0 where
    pub within : u ≤ length l
    pub here : (k : ℕ) → k < u → before x (get_or l k d) ≡ false
    pub past : (k : ℕ) → u ≤ k → k < length l → before x (get_or l k d) ≡ true

  all_after : (d x : A) (l : List A) → ((k : ℕ) → k < length l → before x (get_or l k d) ≡ true) → up_to before x l ≡ 0
  unfolding up_to
  all_after d x [] h = refl
  all_after d x (a ∷ l) h = rw (h 0 (omega arith)) (all_after d x l (λ k p. h (suc k) (suc-le-suc p)))

  module _ (o : Order before) (d : A) where
    pub upto : (x : A) (l : List A) → Climbs before (λ k. get_or l k d) (length l) → Upto d x l (up_to before x l)
    unfolding up_to
    upto x [] h = record { within = zero-le; here = λ k p. absurd (not-suc-le-zero p); past = λ k p q. absurd (not-suc-le-zero q) }
    upto x (a ∷ l) h = go (upto x l (λ i j p q. h (suc i) (suc j) (suc-le-suc p) (suc-le-suc q))) (before x a) refl
      where
        after : before x a ≡ true → (k : ℕ) → k < length l → before x (get_or l k d) ≡ true
        after e k p = o.transitive x a (get_or l k d) e (h 0 (suc k) (omega arith) (suc-le-suc p))

        go : Upto d x l (up_to before x l) → (b : Bool) → before x a ≡ b → Upto d x (a ∷ l) (cond b (up_to before x l) (suc (up_to before x l)))
        go u true e = let z = all_after d x l (after e) in record {
          within = omega arith;
          here = λ k p. absurd (omega arith);
          past = λ k. elim k as (λ k. up_to before x l ≤ k → k < suc (length l) → before x (get_or (a ∷ l) k d) ≡ true) [ zero ↦ λ p q. e | suc k ↦ λ p q. after e k (le_of_suc-le-suc q) ];
        }
        go u false e = record {
          within = suc-le-suc u.within;
          here = λ k. elim k as (λ k. k < suc (up_to before x l) → before x (get_or (a ∷ l) k d) ≡ false) [ zero ↦ λ p. e | suc k ↦ λ p. u.here k (le_of_suc-le-suc p) ];
          past = λ k. elim k as (λ k. suc (up_to before x l) ≤ k → k < suc (length l) → before x (get_or (a ∷ l) k d) ≡ true) [ zero ↦ λ p q. absurd (not-suc-le-zero p) | suc k ↦ λ p q. u.past k (le_of_suc-le-suc p) (le_of_suc-le-suc q) ];
        }

    -- as many as its place says do not come after a thing of the list
    pub upto_own : (l : List A) → Climbs before (λ k. get_or l k d) (length l) → (j : ℕ) → j < length l → up_to before (get_or l j d) l ≡ j + 1
    upto_own l h j p = elim (dec_lt j u) [
      | yes q ↦ elim (dec_lt (suc j) u) [
        | yes r ↦ absurd (true≢false (sym (h j (suc j) (omega arith) (omega (arith, w.within))) ∙ w.here (suc j) r))
        | no r ↦ omega arith
      ]
      | no q ↦ absurd (true≢false (sym (w.past j (omega arith) p) ∙ o.irreflexive x))
    ]
      where
        x : A
        x = get_or l j d

        u : ℕ
        u = up_to before x l

        w : Upto d x l u
        w = upto x l h
