-- What a numeral says is within the limit and never minus nought: `bounded` sees to both.
use Prim.Native.Nat.{ℕ}
use mathlib.Core.Path.{◌≡◌, refl}
use mathlib.Core.Bool.{Bool, true, false, cond, ◌&&◌}
use mathlib.Core.List.{List, [], ◌∷◌, ◌++◌}
use lib.ListN.{length}
use lib.Dec.{leb, ltb, eqb}
use native.Mathlib.Omega.{arith}
use borrow.Author.Tests.{leb-true, eqb-false}
use Rattle.std.specs.Option.{IfSome}
use Rattle.std.specs.declared.option.Option.TheVariants.{None}
use Rattle.numeral.specs.Numeral.{limit, all_digits, before, after, millionths, exact, bounded, unsigned_of, numeral_of, Good}

good_bounded : (negative : Bool) (m : ℕ) → IfSome (bounded negative m) Good
good_bounded negative m = go (leb m limit) (eqb m 0) refl refl
  where
    go : (t u : Bool) → leb m limit ≡ t → eqb m 0 ≡ u → IfSome (bounded negative m) Good
    go true true e f = simp (e, f) (omega arith, λ z. refl)
    go true false e f = simp (e, f) (leb-true m limit e, λ z. absurd (eqb-false m 0 f z))
    go false u e f = simp e tt

good_unsigned : (negative : Bool) (s : List ℕ) → IfSome (unsigned_of negative s) Good
good_unsigned negative s = go (all_digits d && (ltb 0 (length d) && exact d (length (after s))))
  where
    d : List ℕ
    d = before s ++ after s

    go : (t : Bool) → IfSome (cond t (bounded negative (millionths d (length (after s)))) None) Good
    go true = good_bounded negative (millionths d (length (after s)))
    go false = tt

pub good : (s : List ℕ) → IfSome (numeral_of s) Good
good [] = tt
good (b ∷ s) = go (eqb b 45)
  where
    go : (t : Bool) → IfSome (cond t (unsigned_of true s) (unsigned_of false (b ∷ s))) Good
    go true = good_unsigned true s
    go false = good_unsigned false (b ∷ s)
