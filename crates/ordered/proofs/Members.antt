-- The laws of what is in a list, by going through the list: in any order it holds the same things, and each stands at an index.
use Prim.Native.Nat.{ℕ, zero, suc, ◌<◌, zero-le, suc-le-suc}
use native.Mathlib.Nat.{le_of_suc-le-suc, not-suc-le-zero}
use mathlib.Core.Path.{◌≡◌, refl, ap, ◌∙◌}
use mathlib.Core.Logic.{◌⊎◌, inl, inr, ⊎_elim}
use mathlib.Core.Bool.{Bool, true}
use mathlib.Core.List.Memᴰ
use mathlib.Core.List.{List, [], ◌∷◌, Memᴰ, Permᴰ}
use lib.ListN.{length, get_or}
use Rattle.ordered.specs.Order.{Apart}

-- IN ANY ORDER

pub perm_mem : {A : Type 0} {a : A} {k l : List A} → Permᴰ k l → Memᴰ a k → Memᴰ a l
perm_mem Permᴰ.nil m = m
perm_mem (Permᴰ.cons e d) m = ⊎_elim (λ h. Memᴰ.head (h ∙ e)) (λ n. Memᴰ.tail (perm_mem d n)) (Memᴰ.cases_cons m)
perm_mem (Permᴰ.swap p q) m =
    ⊎_elim (λ h. Memᴰ.tail (Memᴰ.head (h ∙ p)))
    (λ n. ⊎_elim (λ h. Memᴰ.head (h ∙ q)) (λ r. Memᴰ.tail (Memᴰ.tail r)) (Memᴰ.cases_cons n)) (Memᴰ.cases_cons m)
perm_mem (Permᴰ.trans d e) m = perm_mem e (perm_mem d m)

pub perm_length : {A : Type 0} {k l : List A} → Permᴰ k l → length k ≡ length l
perm_length Permᴰ.nil = refl
perm_length (Permᴰ.cons e d) = ap suc (perm_length d)
perm_length (Permᴰ.swap p q) = refl
perm_length (Permᴰ.trans d e) = perm_length d ∙ perm_length e

-- being apart asks nothing of the order
pub apart_perm : {A : Type 0} (before : A → A → Bool) {k l : List A} → Permᴰ k l → Apart before l → Apart before k
apart_perm before Permᴰ.nil h = tt
apart_perm before (Permᴰ.cons {a} {b} {l₁ = k} {l₂ = l} e d) h = (λ c m. rw e (h.0 c (perm_mem d m)), apart_perm before d h.1)
apart_perm {A} before (Permᴰ.swap {a} {b} {a'} {b'} {l} p q) h = (first, (λ c m. rw q (h.0 c (Memᴰ.tail m)), h.1.1))
  where
    first : (c : A) → Memᴰ c (b ∷ l) → (before a c ≡ true) ⊎ (before c a ≡ true)
    first c m =
        ⊎_elim (λ e. let t : c ≡ a' = e ∙ q in rw (p, t) (⊎_elim inr inl (h.0 b' (Memᴰ.head refl)))) (λ n. rw p (h.1.0 c n)) (Memᴰ.cases_cons m)
apart_perm before (Permᴰ.trans d e) h = apart_perm before d (apart_perm before e h)

-- BY INDEX

pub get_mem : {A : Type 0} (l : List A) (d : A) (i : ℕ) → i < length l → Memᴰ (get_or l i d) l
get_mem [] d i h = absurd (not-suc-le-zero h)
get_mem (a ∷ l) d zero h = Memᴰ.head refl
get_mem (a ∷ l) d (suc i) h = Memᴰ.tail (get_mem l d i (le_of_suc-le-suc h))

pub mem_get : {A : Type 0} (l : List A) (d : A) (a : A) → Memᴰ a l → (i : ℕ) × (i < length l) × (a ≡ get_or l i d)
mem_get [] d a m = absurd (Memᴰ.not-nil m)
mem_get (b ∷ l) d a m =
    ⊎_elim (λ e. (0, suc-le-suc zero-le, e)) (λ n. let (i, h, e) = mem_get l d a n in (suc i, suc-le-suc h, e)) (Memᴰ.cases_cons m)
