-- `parser::items::judged` meets its contract: an arm for each item.
use mathlib.Core.Path.{◌≡◌, refl}
use mathlib.Core.List.{[], ◌∷◌}
use native.Mathlib.Omega.{arith}
use native.Mathlib.Decide.{dec_lt}
use Rattle.word.proofs.Steps.{apart}
use Rattle.rows.specs.Packed.{item_at}
use Rattle.rows.proofs.Ranges.{at_semi, low_at}
use Rattle.parser.proofs.items.judged.Goals as goal
use Rattle.parser.proofs.items.judged.Goals.{in_default-via-then-it-lt1, in_default-via-else-it-lt1+else-it-lt3}

pub returns-in-5 : goal.returns-in-5
unfolding item_at
returns-in-5 c b o h k g =
    rw c.in-5.is (c.to_name.ensures _ _ b o h)

pub returns-in-6 : goal.returns-in-6
unfolding item_at
returns-in-6 c b o h k g =
    rw c.in-6.is (c.to_own.ensures _ b o h refl)

pub returns-in-7 : goal.returns-in-7
unfolding item_at
returns-in-7 c b o h k g =
    rw c.in-7.is (c.to_value.ensures _ b o h k)

pub returns-in-8 : goal.returns-in-8
unfolding item_at
returns-in-8 c b o h k g =
    rw c.in-8.is (c.to_first.ensures _ b o h k)

pub returns-in-9 : goal.returns-in-9
unfolding item_at
returns-in-9 c b o h k g =
    rw c.in-9.is (c.to_first_key.ensures _ b o h k)

-- x, or y
pub returns-in-1 : goal.returns-in-1
unfolding item_at
returns-in-1 c b o h k g =
    let n = c.args.it in
    elim (dec_lt n 2) [
      | yes l ↦ let e : n ≡ 1 = omega arith in rw e (c.to_number.ensures.x e _ b o h)
      | no q ↦ let e : n ≡ 2 = omega arith in rw e (c.to_number.ensures.y e _ b o h)
    ]

-- none of the arms' bytes
pub returns-in_default : goal.returns-in_default
returns-in_default c b o h k g =
    let n = c.args.it in
    let p : n ≡ 1 → ⊥ = λ e. elim c.in_default.branch [ in_default-via-then-it-lt1 w ↦ omega arith | in_default-via-else-it-lt1+else-it-lt3 w ↦ omega arith ] in
    let q : n ≡ 2 → ⊥ = λ e. elim c.in_default.branch [ in_default-via-then-it-lt1 w ↦ omega arith | in_default-via-else-it-lt1+else-it-lt3 w ↦ omega arith ] in
    let r = (apart n (5 ∷ 6 ∷ 7 ∷ 8 ∷ 9 ∷ []) (Unit {0}) c.in_default-1.rest).1 in
    c.asked.ensures _ b o h (λ l. at_semi n (low_at n g l) (p, (q, r)))
