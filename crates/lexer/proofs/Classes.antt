-- The classes of letters and digits, by the order of the tests of `class_of`: no digit is a letter or a space.
use Prim.Native.Nat.{ℕ, ◌≤◌}
use mathlib.Core.Path.{◌≡◌}
use mathlib.Core.Bool.{true}
use native.Mathlib.Omega.{arith}
use borrow.Author.Tests.{leb-true, le-leb, lt-leb, ne_eqb}
use lib.Dec.{leb}
use Rattle.lexer.specs.declared.scan.Class.TheVariants.{Letter, Digit}
use Rattle.lexer.specs.Bytes.{is_letter, is_digit, class_of}
use Rattle.lexer.proofs.Runs.{both}

pub letters : (b : ℕ) → is_letter b ≡ true → Letter ≡ class_of b
unfolding class_of
letters b h = rw h

pub digits : (b : ℕ) → is_digit b ≡ true → Digit ≡ class_of b
unfolding class_of
digits b h =
    let low : 48 ≤ b = leb-true 48 b (both (leb 48 b) (leb b 57) h).0 in
    let high : b ≤ 57 = leb-true b 57 (both (leb 48 b) (leb b 57) h).1 in
    simp (
      lt-leb 97 b (omega arith),
      lt-leb 65 b (omega arith),
      ne_eqb b 32 (λ e. omega arith),
      ne_eqb b 9 (λ e. omega arith),
      le-leb 11 b (omega arith),
      lt-leb b 13 (omega arith),
      le-leb 48 b low,
      le-leb b 57 high,
    )
