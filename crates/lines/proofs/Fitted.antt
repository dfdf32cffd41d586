-- Which acts give a record of a kind and code: the test of a row's numbers.
use Prim.Native.Nat.{ℕ, ◌+◌, ◌-◌, ◌/◌, ◌%◌, ◌^◌, ◌≤◌, ◌<◌}
use mathlib.Core.Path.{◌≡◌, refl, sym, ap, ◌∙◌}
use mathlib.Core.Bool.{Bool, true, false, cond, ◌&&◌, ◌||◌}
use mathlib.Core.List.{List, ◌∷◌}
use native.Mathlib.Decide.{dec_lt}
use native.Mathlib.Omega.{arith}
use borrow.Author.Tests.{eqb-true, eqb-false, eq-eqb, ne_eqb, lt-ltb, le-ltb, le-leb, lt-leb}
use lib.Dec.{eqb, leb, ltb}
use Rattle.grammar.specs.Grammar.{Item, statement, close, refuse, back, up_to54}
use Rattle.grammar.specs.Engine.{Maybe, none, some}
use Rattle.rows.specs.Packed.{item_at, items_of, move_of, plain, act_of}
use Rattle.rows.proofs.Unpack.{split, no_items}
use Rattle.rows.proofs.Ranges.{at_code, at_more, all_low, all_high}
use Rattle.render.specs.Forms.{Form, form, of_code}
use Rattle.lines.specs.Formed.{begin_of, form_by}

-- the first item is no code, or is this one
abbrev code_fits : ℕ → ℕ → Bool
code_fits b c = (ltb b 32 || leb 48 b) || eqb b (32 + c)

same_code : (b c : ℕ) → 32 ≤ b → eqb (b - 32) c ≡ eqb b (32 + c)
same_code b c h = go (eqb b (32 + c)) refl
  where
    go : (t : Bool) → eqb b (32 + c) ≡ t → eqb (b - 32) c ≡ t
    go true e = eq-eqb (b - 32) c (omega (arith, eqb-true b (32 + c) e))
    go false e = ne_eqb (b - 32) c (λ q. eqb-false b (32 + c) e (omega arith))

or_true : (t : Bool) → t || true ≡ true
or_true true = refl
or_true false = refl

first_fits : (is : List Item) (b c : ℕ) → of_code (item_at b ∷ is) c ≡ code_fits b c
unfolding of_code
first_fits is b c = elim (dec_lt b 32) [
  | yes p ↦ rw (lt-ltb b 32 p) (all_low (λ i. of_code (i ∷ is) c ≡ true) refl refl refl refl refl refl refl refl refl refl b p)
  | no p ↦ elim (dec_lt b 48) [
    | yes q ↦ rw (le-ltb b 32 (omega arith), lt-leb 48 b q, at_code b (omega arith) q) (same_code b c (omega arith))
    | no q ↦ rw (le-leb 48 b (omega arith), or_true (ltb b 32)) (elim (dec_lt b 64) [
      | yes l ↦ rw (at_more b (omega arith) l)
      | no l ↦ all_high (λ i. of_code (i ∷ is) c ≡ true) (λ n. refl) refl refl refl refl (λ n. refl) (λ n. refl) b (omega arith)
    ])
  ]
]

items_fit : (s c : ℕ) → s < 2 ^ 64 → of_code (items_of s) c ≡ code_fits (s % 256) c
unfolding of_code
items_fit s c h = elim (dec_lt 0 s) [
  | yes p ↦ ap (λ is. of_code is c) (split s h (λ e. omega arith)) ∙ first_fits (items_of (s / 256)) (s % 256) c
  | no p ↦ let e : s ≡ 0 = omega arith in rw (e, no_items)
]

module _ (w k c : ℕ) (head items : ℕ) (h : items < 2 ^ 64) where
  abbrev does : ℕ
  does = head % 128

  abbrev test : Bool
  test = (ltb does 64 && eqb does k) && code_fits (items % 256) c

  abbrev the : Bool → Maybe Form
  the o = some (form k (begin_of w) (items_of items) (move_of (head / 256)) o)

  by_plain : (o : Bool) → form_by w k c o (plain does (head / 256) items) ≡ cond test (the o) none
  unfolding plain form_by
  by_plain o = go (ltb does 64) (eqb does k) refl
    where
      none_else : (p q : Bool) → form_by w k c o (cond p (close (items_of items)) (cond q back (refuse (does - 80)))) ≡ none
      none_else true q = refl
      none_else false true = refl
      none_else false false = refl

      go : (p q : Bool) → eqb does k ≡ q
          → form_by w k c o (cond p (statement does (items_of items) (move_of (head / 256))) (cond (eqb does 64) (close (items_of items)) (cond (eqb does 66) back (refuse (does - 80))))) ≡ cond ((p && q) && code_fits (items % 256) c) (the o) none
      go true true e = rw (e, items_fit items c h, eqb-true does k e)
      go true false e = rw e
      go false q e = none_else (eqb does 64) (eqb does 66)

  fitted : form_by w k c false (act_of head items) ≡ cond test (the (leb 128 (head % 256))) none
  unfolding act_of form_by
  fitted = go (leb 128 (head % 256))
    where
      go : (t : Bool) → form_by w k c false (cond t (up_to54 (plain does (head / 256) items)) (plain does (head / 256) items)) ≡ cond test (the t) none
      go true = by_plain true
      go false = by_plain false

  pub fits : test ≡ true → the (leb 128 (head % 256)) ≡ form_by w k c false (act_of head items)
  fits t = sym (fitted ∙ ap (λ t. cond t (the (leb 128 (head % 256))) none) t)

  pub unfit : test ≡ false → none ≡ form_by w k c false (act_of head items)
  unfit t = sym (fitted ∙ ap (λ t. cond t (the (leb 128 (head % 256))) none) t)
