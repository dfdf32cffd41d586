-- `scan` meets its contract: the first i records of the file are scanned.
use mathlib.Core.Logic.{inl}
use native.Mathlib.Omega.{arith}
use lib.ListN.{length-set}
use Rattle.checker.proofs.Scanning.{scanned_start, scanned_skip, scanned_mark, scanned_again, outside, between}
use Rattle.checker.proofs.window.scan.Goals as goal

pub loop-i-init : goal.loop-i-init
loop-i-init c =
    (omega arith, scanned_start c.requires.5)

pub loop-i-preserved-then-at-low : goal.loop-i-preserved-then-at-low
loop-i-preserved-then-at-low c =
    let l = c.loop-i in
    (l.invariant.0, scanned_skip l.invariant.1 c.requires.4 (λ p q. outside c.at_of-at.result c.args.low c.args.high c.if-at-low.true (omega (arith, c.at_of-at.ensures.0)) (omega (arith, c.at_of-at.ensures.0))))

pub returns-in_default : goal.returns-in_default
returns-in_default c =
    let b = between c.at_of-at.result c.args.low c.args.high c.if-at-low.false in
    record { within = omega arith; scanned = c.loop-i.invariant.1; stop = λ _. (omega (arith, c.at_of-at.ensures.0), omega (arith, c.at_of-at.ensures.0), inl (rw c.in_default.is at c.find.ensures)) }

pub returns-then-marks-p-ne0 : goal.returns-then-marks-p-ne0
returns-then-marks-p-ne0 c =
    let b = between c.at_of-at.result c.args.low c.args.high c.if-at-low.false in
    let h = c.in-Some.ensures in
    record { within = omega arith; scanned = c.loop-i.invariant.1; stop = λ _. (omega (arith, c.at_of-at.ensures.0), omega (arith, c.at_of-at.ensures.0), scanned_again c.loop-i.invariant.1 h.0 h.1 c.if-marks-p-ne0.true) }

pub loop-i-preserved : goal.loop-i-preserved
loop-i-preserved c =
    let h = c.in-Some.ensures in
    let l = c.loop-i in
    (simp length-set l.invariant.0, scanned_mark l.invariant.1 h.0 (omega arith) h.1 c.if-marks-p-ne0.false c.requires.3)
