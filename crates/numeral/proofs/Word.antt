-- The word of 64 bits that stands for a value says it again, and is its two's complement: a magnitude within the limit is far below 2 ^ 63.
use Prim.Native.Nat.{ℕ, zero, suc, ◌-◌, ◌^◌, ◌≤◌, ◌<◌}
use mathlib.Core.Path.{◌≡◌, refl, sym, ◌∙◌, ap}
use mathlib.Core.Bool.{Bool, true, false, false≢true}
use lib.Dec.{eqb, ltb}
use lib.Arith.{sub-sub_self}
use mir.Syntax.{w64}
use mir.Val.{to_z}
use mir.ValLaws.{to_z_pos, to_z-neg}
use native.Mathlib.Omega.{arith}
use native.Mathlib.Nat.{mod-eq_of_lt}
use borrow.Author.Tests.{eqb-true, eqb-false, ne_eqb, lt-ltb, le-ltb, ltb-false, not-true, not-false}
use Rattle.numeral.specs.declared.Scaled.{Scaled}
use Rattle.numeral.specs.Numeral.{scaled, Good}
use Rattle.numeral.specs.Shortest.{below_nought}
use Rattle.numeral.specs.Stored.{integer_of, stored_of, value_of}

pub stored_below : (negative : Bool) (m : ℕ) → below_nought negative m ≡ true → (1 ≤ m) × (stored_of negative m ≡ 2 ^ 64 - m)
stored_below true m h =
    let p : 1 ≤ m = omega (arith, eqb-false m 0 (not-true (eqb m 0) h)) in
    (p, mod-eq_of_lt (omega arith))
stored_below false m h = absurd (false≢true h)

pub stored_not_below : (negative : Bool) (m : ℕ) → below_nought negative m ≡ false → stored_of negative m ≡ m
stored_not_below true m h = rw (eqb-true m 0 (not-false (eqb m 0) h))
stored_not_below false m h = refl

below_nought_lem : (m : ℕ) → (m ≡ 0 → true ≡ false) → below_nought true m ≡ true
below_nought_lem m h = simp (ne_eqb m 0 (λ z. false≢true (sym (h z))))

pub restored : (negative : Bool) (m : ℕ) → Good (scaled negative m) → value_of (stored_of negative m) ≡ scaled negative m
restored true m g =
    let s = stored_below true m (below_nought_lem m g.1) in
    simp (s.1, le-ltb (2 ^ 64 - m) (2 ^ 63) (omega arith), sub-sub_self {a = m} {m = 2 ^ 64} (omega arith))
restored false m g = simp (lt-ltb m (2 ^ 63) (omega arith))

-- the word, read as a signed number of 64 bits, is the number
pub as_signed : (negative : Bool) (m : ℕ) → Good (scaled negative m) → to_z w64 (stored_of negative m) ≡ integer_of negative m
as_signed true zero g = absurd (false≢true (sym (g.1 refl)))
as_signed true (suc m) g = ap (to_z w64) (stored_below true (suc m) (below_nought_lem (suc m) g.1)).1 ∙ to_z-neg w64 m (omega arith)
as_signed false m g = to_z_pos w64 m (omega arith)

-- and every word is the word of its value
pub word_again : (word : ℕ) (negative : Bool) (m : ℕ) → word < 2 ^ 64 → value_of word ≡ scaled negative m → stored_of negative m ≡ word
word_again word negative m h e = go (ltb word (2 ^ 63)) refl
  where
    go : (t : Bool) → ltb word (2 ^ 63) ≡ t → stored_of negative m ≡ word
    go true f =
        let k = simp f at e in
        let n : false ≡ negative = ap (λ (v : Scaled). v.negative) k in
        let x : word ≡ m = ap (λ (v : Scaled). v.millionths) k in
        rw (sym n, sym x)
    go false f =
        let k = simp f at e in
        let l = ltb-false word (2 ^ 63) f in
        let n : true ≡ negative = ap (λ (v : Scaled). v.negative) k in
        let x : 2 ^ 64 - word ≡ m = ap (λ (v : Scaled). v.millionths) k in
        rw (sym n) (omega arith)
