-- A list is sorted by putting each thing in its place, and two rising lists of the same things are one: their heads come first in both.
use Prim.Native.Nat.{ℕ, zero, suc, ◌<◌, zero-le, suc-le-suc}
use native.Mathlib.Nat.{le_of_suc-le-suc, not-suc-le-zero}
use mathlib.Core.Path.{◌≡◌, refl, sym, ◌∙◌}
use mathlib.Core.Logic.{◌⊎◌, ⊎_elim}
use mathlib.Core.Bool.{Bool, true, false, cond, true≢false}
use mathlib.Core.List.Memᴰ
use mathlib.Core.List.Permᴰ
use mathlib.Core.List.{List, [], ◌∷◌, Memᴰ, Permᴰ}
use lib.ListN.{length, get_or}
use Rattle.ordered.specs.Order.{Order, Rising, Apart, insert, sorted}
use Rattle.ordered.proofs.Members.{perm_mem, apart_perm, get_mem}

-- THE SAME THINGS

insert_permutes : {A : Type 0} (before : A → A → Bool) (a : A) (l : List A) → Permᴰ (insert before a l) (a ∷ l)
unfolding insert
insert_permutes before a [] = Permᴰ.refl (a ∷ [])
insert_permutes before a (b ∷ l) = go (before a b) (insert_permutes before a l)
  where
    go : (t : Bool) → Permᴰ (insert before a l) (a ∷ l) → Permᴰ (cond t (a ∷ b ∷ l) (b ∷ insert before a l)) (a ∷ b ∷ l)
    go true p = Permᴰ.refl (a ∷ b ∷ l)
    go false p = Permᴰ.trans (Permᴰ.cons refl p) (Permᴰ.swap refl refl)

pub sorted_permutes : {A : Type 0} (before : A → A → Bool) (l : List A) → Permᴰ (sorted before l) l
unfolding sorted
sorted_permutes before [] = Permᴰ.nil
sorted_permutes before (a ∷ l) = Permᴰ.trans (insert_permutes before a (sorted before l)) (Permᴰ.cons refl (sorted_permutes before l))

-- RISING

-- the rest of a rising list rises
pub rising_tail : {A : Type 0} (before : A → A → Bool) (a : A) (l : List A) → Rising before (a ∷ l) → Rising before l
rising_tail before a [] h = tt
rising_tail before a (b ∷ l) h = h.1

-- what comes before each of a rising list can be put in front
pub put_front : {A : Type 0} (before : A → A → Bool) (a : A) (l : List A) → ((b : A) → Memᴰ b l → before a b ≡ true) → Rising before l → Rising before (a ∷ l)
put_front before a [] f h = tt
put_front before a (b ∷ l) f h = (f b (Memᴰ.head refl), h)

module _ {A : Type 0} (before : A → A → Bool) (o : Order before) where
  -- the head of a rising list comes before each of the rest
  pub head_all : (a : A) (l : List A) → Rising before (a ∷ l) → (b : A) → Memᴰ b l → before a b ≡ true
  head_all a [] h b m = absurd (Memᴰ.not-nil m)
  head_all a (c ∷ l) h b m =
      ⊎_elim (λ e. rw e h.0) (λ n. o.transitive a c b h.0 (head_all c l h.1 b n)) (Memᴰ.cases_cons m)

  insert_rises : (a : A) (l : List A) → Rising before l → ((b : A) → Memᴰ b l → (before a b ≡ true) ⊎ (before b a ≡ true))
      → Rising before (insert before a l)
  unfolding insert
  insert_rises a [] h f = tt
  insert_rises a (b ∷ l) h f = go (before a b) refl (insert_rises a l (rising_tail before b l h) (λ c m. f c (Memᴰ.tail m)))
    where
      after : before a b ≡ false → (c : A) → Memᴰ c (insert before a l) → before b c ≡ true
      after e c m =
          ⊎_elim (λ q. rw q (⊎_elim (λ t. absurd (true≢false (sym t ∙ e))) (λ t. t) (f b (Memᴰ.head refl))))
          (head_all b l h c) (Memᴰ.cases_cons (perm_mem (insert_permutes before a l) m))

      go : (t : Bool) → before a b ≡ t → Rising before (insert before a l) → Rising before (cond t (a ∷ b ∷ l) (b ∷ insert before a l))
      go true e r = (e, h)
      go false e r = put_front before b (insert before a l) (after e) r

  pub sorted_rises : (l : List A) → Apart before l → Rising before (sorted before l)
  unfolding sorted
  sorted_rises [] h = tt
  sorted_rises (a ∷ l) h = insert_rises a (sorted before l) (sorted_rises l h.1) (λ b m. h.0 b (perm_mem (sorted_permutes before l) m))

  -- ONLY ONE RISING LIST

  not_both : (a b : A) → before a b ≡ true → before b a ≡ true → ⊥
  not_both a b p q = true≢false (sym (o.transitive a b a p q) ∙ o.irreflexive a)

  not_in_rest : (a : A) (l : List A) → Rising before (a ∷ l) → Memᴰ a l → ⊥
  not_in_rest a l h m = true≢false (sym (head_all a l h a m) ∙ o.irreflexive a)

  one_head : (a b : A) (k l : List A) → Rising before (a ∷ k) → Rising before (b ∷ l) → Memᴰ a (b ∷ l) → Memᴰ b (a ∷ k) → a ≡ b
  one_head a b k l p q m n =
      ⊎_elim (λ e. e)
      (λ u. ⊎_elim (λ e. sym e) (λ v. absurd (not_both a b (head_all a k p b v) (head_all b l q a u))) (Memᴰ.cases_cons n)) (Memᴰ.cases_cons m)

  -- what else the one has the other has
  rest_in : (a b : A) (k l : List A) → a ≡ b → Rising before (a ∷ k) → ((c : A) → Memᴰ c (a ∷ k) → Memᴰ c (b ∷ l))
      → (c : A) → Memᴰ c k → Memᴰ c l
  rest_in a b k l e p f c m =
      ⊎_elim (λ q. absurd (not_in_rest a k p (Memᴰ.cast (e ∙ sym q) m))) (λ n. n) (Memᴰ.cases_cons (f c (Memᴰ.tail m)))

  pub same_members : (k l : List A) → Rising before k → Rising before l
      → ((c : A) → Memᴰ c k → Memᴰ c l) → ((c : A) → Memᴰ c l → Memᴰ c k) → k ≡ l
  same_members [] [] p q f g = refl
  same_members [] (b ∷ l) p q f g = absurd (Memᴰ.not-nil (g b (Memᴰ.head refl)))
  same_members (a ∷ k) [] p q f g = absurd (Memᴰ.not-nil (f a (Memᴰ.head refl)))
  same_members (a ∷ k) (b ∷ l) p q f g =
      let e : a ≡ b = one_head a b k l p q (f a (Memᴰ.head refl)) (g b (Memᴰ.head refl)) in
      let t : k ≡ l = same_members k l (rising_tail before a k p) (rising_tail before b l q) (rest_in a b k l e p f) (rest_in b a l k (sym e) q g) in
      rw (e, t)

  pub only : (k l : List A) → Rising before k → Rising before l → Permᴰ k l → k ≡ l
  only k l p q d = same_members k l p q (λ c m. perm_mem d m) (λ c m. perm_mem (Permᴰ.symm d) m)

  -- in whatever order things are sorted, the result is one
  pub same_sorted : (k l : List A) → Apart before l → Permᴰ k l → sorted before k ≡ sorted before l
  same_sorted k l h d =
      only (sorted before k) (sorted before l) (sorted_rises k (apart_perm before d h)) (sorted_rises l h)
      (Permᴰ.trans (sorted_permutes before k) (Permᴰ.trans d (Permᴰ.symm (sorted_permutes before l))))

  -- BY INDEX

  pub rising_all : (l : List A) (d : A) → Rising before l → (i j : ℕ) → i < j → j < length l → before (get_or l i d) (get_or l j d) ≡ true
  rising_all [] d h i j p q = absurd (not-suc-le-zero q)
  rising_all (a ∷ l) d h i zero p q = absurd (not-suc-le-zero p)
  rising_all (a ∷ l) d h zero (suc j) p q = head_all a l h (get_or l j d) (get_mem l d j (le_of_suc-le-suc q))
  rising_all (a ∷ l) d h (suc i) (suc j) p q = rising_all l d (rising_tail before a l h) i j (le_of_suc-le-suc p) (le_of_suc-le-suc q)

pub all_rising : {A : Type 0} (before : A → A → Bool) (l : List A) (d : A)
    → ((i j : ℕ) → i < j → j < length l → before (get_or l i d) (get_or l j d) ≡ true) → Rising before l
all_rising before [] d f = tt
all_rising before (a ∷ []) d f = tt
all_rising before (a ∷ b ∷ l) d f =
    (f 0 1 (suc-le-suc zero-le) (suc-le-suc (suc-le-suc zero-le)), all_rising before (b ∷ l) d (λ i j p q. f (suc i) (suc j) (suc-le-suc p) (suc-le-suc q)))
