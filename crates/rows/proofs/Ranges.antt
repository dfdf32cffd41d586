-- The items by the ranges of their bytes, and the key words by their numbers.
use Prim.Native.Nat.{ℕ, zero, suc, ◌-◌, ◌≤◌, ◌<◌}
use Prim.Native.String.{String}
use mathlib.Core.Path.{◌≡◌, refl}
use mathlib.Core.Bool.{Bool, true, false, cond, ◌&&◌}
use mathlib.Core.List.{List, [], ◌∷◌}
use native.Mathlib.Omega.{arith}
use native.Mathlib.Decide.{dec_lt}
use borrow.Author.Tests.{le-leb, lt-leb, ne_eqb, eqb-true, leb-true, ltb-true, ltb-false}
use lib.Dec.{eqb, leb, ltb}
use lib.ListN.{length}
use Rattle.word.specs.Words.{keys, values, words, raised, upper, same, first_where, word_of, word}
use Rattle.word.proofs.Words.{both}
use Rattle.word.proofs.Steps.{Apart}
use Rattle.word.proofs.Spelt.{below, below_at}
use Rattle.grammar.specs.Grammar.{Item, key, keyword, name, own, x, y, semi, value, first, first_key, second, string, code, if_more, no_name, among, whole}
use Rattle.grammar.specs.Tokens.{Ahead}
use Rattle.grammar.specs.Engine.{passed}
use Rattle.grammar.specs.Table.{versions, microns}
use Rattle.rows.specs.Packed.{nth, key_at, item_at}

pub at_code : (b : ℕ) → 32 ≤ b → b < 48 → item_at b ≡ code (b - 32)
unfolding item_at
at_code b h l = rw (lt-leb 128 b (omega arith), lt-leb 96 b (omega arith), lt-leb 80 b (omega arith), lt-leb 64 b (omega arith), lt-leb 48 b l, le-leb 32 b h)

pub at_more : (b : ℕ) → 48 ≤ b → b < 64 → item_at b ≡ if_more (b - 48)
unfolding item_at
at_more b h l = rw (lt-leb 128 b (omega arith), lt-leb 96 b (omega arith), lt-leb 80 b (omega arith), lt-leb 64 b l, le-leb 48 b h)

pub at_whole : (b : ℕ) → 64 ≤ b → b < 80 → item_at b ≡ whole (b - 64)
unfolding item_at
at_whole b h l = rw (lt-leb 128 b (omega arith), lt-leb 96 b (omega arith), lt-leb 80 b l, le-leb 64 b h)

pub at_among : (b : ℕ) → 80 ≤ b → b < 96 → item_at b ≡ cond (eqb b 80) (among versions) (among microns)
unfolding item_at
at_among b h l = rw (lt-leb 128 b (omega arith), lt-leb 96 b l, le-leb 80 b h)

pub at_string : (b : ℕ) → 96 ≤ b → b < 128 → Apart b (112 ∷ 113 ∷ []) → item_at b ≡ string (b - 96)
unfolding item_at
at_string b h l n = rw (lt-leb 128 b l, le-leb 96 b h, ne_eqb b 112 n.0, ne_eqb b 113 n.1.0)

pub at_word_microns : item_at 112 ≡ keyword "MICRONS"
unfolding item_at
at_word_microns = refl

pub at_word_units : item_at 113 ≡ keyword "UNITS"
unfolding item_at
at_word_units = refl

pub at_key : (b : ℕ) → 128 ≤ b → item_at b ≡ key (key_at (b - 128))
unfolding item_at
at_key b h = rw (le-leb 128 b h)

-- the others
pub at_low : (b : ℕ) → b < 32
    → item_at b ≡ cond (leb 16 b) (cond (eqb b 16) no_name second) (cond (eqb b 1) x (cond (eqb b 2) y (cond (eqb b 5) name (cond (eqb b 6) own (cond (eqb b 7) value (cond (eqb b 8) first (cond (eqb b 9) first_key semi)))))))
unfolding item_at
at_low b l = rw (lt-leb 128 b (omega arith), lt-leb 96 b (omega arith), lt-leb 80 b (omega arith), lt-leb 64 b (omega arith), lt-leb 48 b (omega arith), lt-leb 32 b l)

pub at_no_name : (b : ℕ) → b ≡ 16 → item_at b ≡ no_name
unfolding item_at
at_no_name b e = rw e

pub at_second : (b : ℕ) → 16 ≤ b → b < 32 → (b ≡ 16 → ⊥) → item_at b ≡ second
at_second b h l n = rw (at_low b l, le-leb 16 b h, ne_eqb b 16 n)

pub at_semi : (b : ℕ) → b < 16 → Apart b (1 ∷ 2 ∷ 5 ∷ 6 ∷ 7 ∷ 8 ∷ 9 ∷ []) → item_at b ≡ semi
at_semi b l n =
    rw (at_low b (omega arith), lt-leb 16 b l, ne_eqb b 1 n.0, ne_eqb b 2 n.1.0, ne_eqb b 5 n.1.1.0, ne_eqb b 6 n.1.1.1.0, ne_eqb b 7 n.1.1.1.1.0, ne_eqb b 8 n.1.1.1.1.1.0, ne_eqb b 9 n.1.1.1.1.1.1.0)

-- WHAT HOLDS OF ALL ITEMS OF A RANGE

module _ (P : Item → Type 0) where
  pub choose : (t : Bool) {i j : Item} → P i → P j → P (cond t i j)
  choose true p q = p
  choose false p q = q

  pub all_low : P x → P y → P semi → P name → P own → P value → P first → P first_key → P no_name → P second → (b : ℕ) → b < 32 → P (item_at b)
  all_low p1 p2 p4 p5 p6 p7 p8 p9 p16 p b l =
      rw (at_low b l)
      (choose (leb 16 b) (choose (eqb b 16) p16 p) (choose (eqb b 1) p1 (choose (eqb b 2) p2 (choose (eqb b 5) p5 (choose (eqb b 6) p6 (choose (eqb b 7) p7 (choose (eqb b 8) p8 (choose (eqb b 9) p9 p4))))))))

  pub all_high : ((n : ℕ) → P (whole n)) → P (among versions) → P (among microns) → P (keyword "MICRONS") → P (keyword "UNITS") → ((n : ℕ) → P (string n)) → ((n : ℕ) → P (key (key_at n)))
      → (b : ℕ) → 64 ≤ b → P (item_at b)
  unfolding item_at
  all_high pw pv pm pk pu ps pk' b h =
      rw (le-leb 64 b h)
      (choose (leb 128 b) (pk' (b - 128)) (choose (leb 96 b) (choose (eqb b 112) pk (choose (eqb b 113) pu (ps (b - 96)))) (choose (leb 80 b) (choose (eqb b 80) pv pm) (pw (b - 64)))))

-- WHAT IS PASSED OVER: only `if_more` passes anything over

module _ {A M : Type 0} (a : Ahead A M) where
  pub low_passes_none : (b : ℕ) → b < 48 → passed (item_at b) a ≡ 0
  low_passes_none b l = elim (dec_lt b 32) [
    | yes q ↦ all_low (λ i. passed i a ≡ 0) refl refl refl refl refl refl refl refl refl refl b q
    | no q ↦ rw (at_code b (omega arith) l)
  ]

  pub high_passes_none : (b : ℕ) → 64 ≤ b → passed (item_at b) a ≡ 0
  high_passes_none b h = all_high (λ i. passed i a ≡ 0) (λ n. refl) refl refl refl refl (λ n. refl) (λ n. refl) b h

-- THE ITEMS THAT NEED NOT TAKE A TOKEN: those of the bytes from 16 to 95

module _ (b : ℕ) where
  pub looked_at : (leb 16 b && ltb b 96) ≡ true → (16 ≤ b) × (b < 96)
  looked_at e = let h = both (leb 16 b) (ltb b 96) e in (leb-true 16 b h.0, ltb-true b 96 h.1)

  pub taken_at : (leb 16 b && ltb b 96) ≡ false → 16 ≤ b → 96 ≤ b
  taken_at e h = ltb-false b 96 (rw (le-leb 16 b h) at e)

  -- of the others, those below 96 are below 16
  pub low_at : (16 ≤ b → 96 ≤ b) → b < 96 → b < 16
  low_at g l = elim (dec_lt b 16) [
    | yes q ↦ q
    | no q ↦ absurd (omega (arith, g (omega arith), l))
  ]

-- THE KEY WORDS BY THEIR NUMBERS: one test, computed

numbers : below (λ k. eqb (word (key_at k)) k) 57 ≡ true
unfolding keys values words raised upper same first_where word_of nth key_at
numbers = refl

pub key_number : (k : ℕ) → k ≤ 56 → word (key_at k) ≡ k
key_number k l = eqb-true _ _ (below_at (λ n. eqb (word (key_at n)) n) 57 numbers k (omega arith))

nth_past : (n : ℕ) (ws : List String) → length ws ≤ n → nth n ws ≡ ""
unfolding nth
nth_past n [] h = refl
nth_past zero (w ∷ ws) h = absurd (omega arith)
nth_past (suc n) (w ∷ ws) h = nth_past n ws (omega arith)

key_past : (k : ℕ) → 57 ≤ k → key_at k ≡ ""
unfolding key_at keys
key_past k h = nth_past k ("" ∷ keys) h

no_word : word "" ≡ 0
unfolding keys values words raised upper same first_where word_of
no_word = refl

-- no key word has a greater number
pub past_number : (k : ℕ) → 57 ≤ k → word (key_at k) ≡ 0
past_number k h = rw (key_past k h) no_word
