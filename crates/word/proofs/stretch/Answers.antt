-- `word::stretch` meets its contract: the sum is that of the bytes passed, the last first.
use Prim.Native.Nat.{ℕ, ◌-◌, ◌<◌, ◌≤◌}
use mathlib.Core.Path.{◌≡◌, refl, ◌∙◌}
use native.Mathlib.Omega.{arith}
use lib.ListN.{length, get_or, drop_of_length-le}
use Rattle.std.specs.Char.{to_ascii_uppercase}
use Rattle.std.proofs.lemmas.Bool.Decides.{nat_tests}
use Rattle.word.specs.Words.{raised, upper}
use Rattle.word.specs.Lookup.{marked}
use Rattle.word.proofs.Marked.{earlier, wider, five, six}
use Rattle.word.proofs.stretch.Goals as goal
use Rattle.word.proofs.stretch.Goals.{In-loop-i}

-- before a turn at most five bytes are passed
small : (c : In-loop-i) → c.loop-i.sum < 2199023255552
small c =
    let l = c.loop-i in
    five (length c.args.bytes.now - l.i) l.sum (omega arith) l.invariant.1

in_upper : (b : ℕ) → to_ascii_uppercase b ≡ raised b
unfolding raised
in_upper b = grind (arith, nat_tests)

pub loop-i-init : goal.loop-i-init
unfolding upper marked
loop-i-init c =
    let s = c.args.bytes.now in
    let e : length s - length s ≡ 0 = omega arith in
    (rw (drop_of_length-le s {i = length s} (omega arith)) refl, rw e (omega arith))

pub overflow_mul-sum : goal.overflow_mul-sum
overflow_mul-sum c =
    omega (arith, small (goal.at.overflow_mul-sum c).In-loop-i)

pub overflow_add-sum : goal.overflow_add-sum
overflow_add-sum c =
    omega (arith, small (goal.at.overflow_add-sum c).In-loop-i)

pub loop-i-preserved : goal.loop-i-preserved
loop-i-preserved c =
    let s = c.args.bytes.now in
    let l = c.loop-i in
    let p : 0 < l.i = omega arith in
    let q : l.i ≤ length s = omega arith in
    let e : c.from.result ≡ raised (get_or s (l.i - 1) 0) =
    c.from.ensures ∙ c.to_ascii_uppercase.ensures.value ∙ in_upper (get_or s (l.i - 1) 0) in
    (omega (arith, e, earlier l.i s p q, l.invariant.0), wider (length s) l.i c.from.result l.sum p q (omega arith) l.invariant.1)

pub returns : goal.returns
returns c =
    let s = c.args.bytes.now in
    let l = c.loop-i in
    let z : l.i ≡ 0 = omega arith in
    record { of = rw z at l.invariant.0; small = six (length s - l.i) l.sum (omega arith) l.invariant.1 }
