-- Values as pairs of numbers, and as the list of their numbers: the place of a value, and what stands at a place.
use Prim.Native.Nat.{ℕ, zero, suc, ◌+◌, ◌*◌, ◌<◌}
use mathlib.Core.Path.{◌≡◌, refl, ap, ◌∙◌}
use mathlib.Core.Bool.{Bool, true, false, cond}
use mathlib.Core.List.{List, [], ◌∷◌}
use native.Mathlib.Omega.{arith}
use native.Mathlib.Numerals.{add-one}
use lib.ListN.{length, get_or}
use Rattle.std.specs.declared.option.Option.{Option}
use Rattle.std.specs.declared.option.Option.TheVariants.{Some, None}
use Rattle.std.specs.List.{position, position_from}
use Rattle.std.proofs.lemmas.Iterator.Adapters.{position_from-zero}
use Rattle.word.specs.Codes.{is, flat, place_of}

-- the code of a place
abbrev pub code : Option ℕ → ℕ
code None = 0
code (Some i) = i + 1

counted : (first second i : ℕ) (l : List (ℕ × ℕ)) → code (position_from (is first second) i l) ≡ place_of (suc i) (flat l) first second
unfolding place_of
counted first second i [] = refl
counted first second i (v ∷ l) = go (is first second v) (counted first second (suc i) l)
  where
    go : (b : Bool) → code (position_from (is first second) (suc i) l) ≡ place_of (suc (suc i)) (flat l) first second
        → code (cond {A = Option ℕ} b (Some i) (position_from (is first second) (i + 1) l)) ≡ cond b (suc i) (place_of (suc (suc i)) (flat l) first second)
    go true ih = add-one i
    go false ih = rw (add-one i) ih

pub coded : (first second : ℕ) (l : List (ℕ × ℕ)) → code (position (is first second) l) ≡ place_of 1 (flat l) first second
coded first second l = ap code (position_from-zero (is first second) l) ∙ counted first second 0 l

-- the two numbers at a place
pub pair_at : (i : ℕ) (l : List (ℕ × ℕ)) → i < length l
    → ((get_or l i (0, 0)).0 ≡ get_or (flat l) (2 * i) 0) × ((get_or l i (0, 0)).1 ≡ get_or (flat l) (2 * i + 1) 0)
pair_at i [] h = absurd (omega arith)
pair_at zero (v ∷ l) h = (refl, refl)
pair_at (suc i) (v ∷ l) h =
    let r = pair_at i l (omega arith) in
    let e : 2 * suc i ≡ suc (suc (2 * i)) = omega arith in
    let f : suc (suc (2 * i)) + 1 ≡ suc (suc (2 * i + 1)) = omega arith in
    rw (e, f) r

pub flat_length : (l : List (ℕ × ℕ)) → length (flat l) ≡ 2 * length l
flat_length [] = refl
flat_length (v ∷ l) = omega (arith, flat_length l)
