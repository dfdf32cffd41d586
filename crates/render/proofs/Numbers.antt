-- The shortest numeral of every number can be written: it is a minus or none, digits, and a point and digits or nothing.
use Prim.Native.Nat.{ℕ, ◌/◌, ◌%◌, ◌<◌}
use mathlib.Core.Path.{◌≡◌, refl}
use mathlib.Core.Bool.{Bool, true, false, cond, ◌||◌}
use mathlib.Core.List.{List, [], ◌∷◌, ◌++◌}
use native.Mathlib.Omega.{arith}
use borrow.Author.Tests.{leb-true, le-leb, eqb-true}
use lib.Dec.{leb, eqb}
use lib.ListN.{length}
use Rattle.lexer.specs.Bytes.{is_digit, is_ascii, in_number}
use Rattle.lexer.specs.Kinds as Kind
use Rattle.numeral.specs.Numeral.{digit, all_digits}
use Rattle.numeral.specs.Shortest.{natural, fraction, pointed, below_nought, shortest}
use Rattle.numeral.proofs.Round.{natural_digits, natural_some, fraction_digits}
use Rattle.word.proofs.Words.{both}
use Rattle.render.specs.Pieces.{said}
use Rattle.render.specs.Spelt.{all, is_number, is_token, is_spelt}
use Rattle.render.proofs.All.{all_append}

-- ---- what numbers are made of is no byte above 127
-- a digit, or one other byte
low : (b k : ℕ) → k < 128 → is_digit b || eqb b k ≡ true → is_ascii b ≡ true
low b k h = go (is_digit b) refl
  where
    go : (t : Bool) → is_digit b ≡ t → t || eqb b k ≡ true → is_ascii b ≡ true
    go true q e = le-leb b 127 (omega (arith, leb-true b 57 (both (leb 48 b) (leb b 57) q).1))
    go false q e = le-leb b 127 (omega (arith, eqb-true b k e))

all_low : (s : List ℕ) → all in_number s ≡ true → all is_ascii s ≡ true
unfolding all
all_low [] e = refl
all_low (b ∷ s) e =
    let (x, y) = both (in_number b) (all in_number s) e in
    rw (low b 46 (omega arith) x, all_low s y)

number_low : (s : List ℕ) → is_number s ≡ true → all is_ascii s ≡ true
unfolding all is_number
number_low [] e = refl
number_low (b ∷ s) e =
    let (x, y) = both (is_digit b || eqb b 45) (all in_number s) e in
    rw (low b 45 (omega arith) x, all_low s y)

-- ---- the parts of a numeral
digits : (s : List ℕ) → all_digits s ≡ true → all in_number s ≡ true
unfolding all
digits [] e = refl
digits (b ∷ s) e = let (x, y) = both (digit b) (all_digits s) e in rw x (digits s y)

decimals : (s : List ℕ) → all_digits s ≡ true → all in_number (pointed s) ≡ true
unfolding all
decimals [] e = refl
decimals (b ∷ s) e = digits (b ∷ s) e

unsigned : (s t : List ℕ) → all_digits s ≡ true → 0 < length s → all in_number t ≡ true → is_number (s ++ t) ≡ true
unfolding is_number
unsigned [] t e h f = absurd (omega arith)
unsigned (b ∷ s) t e h f =
    let (x, y) = both (digit b) (all_digits s) e in
    rw x (all_append in_number s t (digits s y) f)

signed : (t : Bool) (s : List ℕ) → all in_number s ≡ true → is_number s ≡ true → is_number (cond t (45 ∷ []) [] ++ s) ≡ true
unfolding is_number
signed true s e f = e
signed false s e f = f

shortest_number : (negative : Bool) (m : ℕ) → is_number (shortest negative m) ≡ true
unfolding shortest
shortest_number negative m =
    let w = natural 19 (m / 1000000) in
    let f = pointed (fraction 6 (m % 1000000)) in
    let d = natural_digits 19 (m / 1000000) in
    let p = decimals (fraction 6 (m % 1000000)) (fraction_digits 6 (m % 1000000) (omega arith)) in
    signed (below_nought negative m) (w ++ f) (all_append in_number w f (digits w d) p) (unsigned w f d (natural_some 19 (m / 1000000)) p)

-- THE SHORTEST NUMERAL OF EVERY NUMBER CAN BE WRITTEN
pub number_spelt : (negative : Bool) (m : ℕ) → is_spelt (said Kind.number (shortest negative m)) ≡ true
unfolding is_spelt is_token
number_spelt negative m =
    let e = shortest_number negative m in
    rw (e, number_low (shortest negative m) e)
