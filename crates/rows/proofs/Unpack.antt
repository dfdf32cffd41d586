-- The items of a number, one after the other, and a number that holds no kinds.
use Prim.Native.Nat.{ℕ, zero, suc, ◌-◌, ◌/◌, ◌%◌, ◌^◌, ◌<◌}
use mathlib.Core.Path.{◌≡◌, refl, sym, ap, ◌∙◌}
use mathlib.Core.Bool.{Bool, true, false, cond}
use mathlib.Core.List.{List, [], ◌∷◌}
use native.Mathlib.Decide.{dec_lt}
use native.Mathlib.Omega.{arith}
use native.Mathlib.Nat.{pow-zero, pow-suc, div-lt_iff_lt-mul}
use borrow.Author.Tests.{ne_eqb}
use lib.Dec.{eqb, ltb}
use lib.ListN.{drop}
use Rattle.grammar.specs.Grammar.{Item}
use Rattle.grammar.specs.Tokens.{Ahead}
use Rattle.grammar.specs.Engine.{Frame, Draft, empty, items}
use Rattle.rows.specs.Packed.{item_at, items_in, items_of, kinds_in, kinds_of}

-- so many bytes suffice
enough : (n s : ℕ) → s < 256 ^ n → items_in (suc n) s ≡ items_in n s
unfolding items_in
enough zero s h = let e : s ≡ 0 = omega (arith, rw (pow-zero 256) at h) in rw e
enough (suc n) s h =
    let q : s / 256 < 256 ^ n = (div-lt_iff_lt-mul {k = 256} {x = s} {y = 256 ^ n} (omega arith)).1 (rw (pow-suc 256 n) at h) in
    ap (λ is. cond (eqb s 0) [] (item_at (s % 256) ∷ is)) (enough n (s / 256) q)

-- the first item and the others
pub split : (s : ℕ) → s < 2 ^ 64 → (s ≡ 0 → ⊥) → items_of s ≡ item_at (s % 256) ∷ items_of (s / 256)
unfolding items_of items_in
split s h n = rw (ne_eqb s 0 n) (ap (λ is. item_at (s % 256) ∷ is) (sym (enough 7 (s / 256) (omega arith))))

pub no_items : items_of 0 ≡ []
unfolding items_of items_in
no_items = refl

drop_none : (m : ℕ) → drop m (items_of 0) ≡ []
unfolding items_of items_in
drop_none zero = refl
drop_none (suc m) = refl

-- one of the items to be dropped
pub drop_one : (m r : ℕ) → r < 2 ^ 64 → (m ≡ 0 → ⊥) → drop m (items_of r) ≡ drop (m - 1) (items_of (r / 256))
drop_one zero r h n = absurd (n refl)
drop_one (suc m) r h n = let e : suc m - 1 ≡ m = omega arith in rw e (elim (dec_lt 0 r) [
  | yes p ↦ ap (drop (suc m)) (split r h (λ e. omega arith))
  | no q ↦ let e : r ≡ 0 = omega arith in rw e (drop_none (suc m) ∙ sym (drop_none m))
])

-- passing over items is dropping them
pub over : {A M : Type 0} (m : ℕ) (f : Frame A) (is : List Item) (d : Draft A) (a : Ahead A M) → items m f is d a ≡ items 0 f (drop m is) d a
unfolding items
over zero f is d a = refl
over (suc m) f [] d a = refl
over (suc m) f (i ∷ is) d a = over m f is d a

-- a number of kinds that is nothing but its mark
pub no_kinds : (n : ℕ) → empty (kinds_of n) ≡ ltb n 256
unfolding kinds_of kinds_in empty
no_kinds n = go (ltb n 256)
  where
    go : (p : Bool) → empty (cond p [] (n % 256 ∷ kinds_in 7 (n / 256))) ≡ p
    go true = refl
    go false = refl
