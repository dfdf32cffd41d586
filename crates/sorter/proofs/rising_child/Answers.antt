-- `sorter::rising_child` meets its contract: each return is a case of the laws about the child that is given way to.
use mathlib.Core.Path.{refl}
use native.Mathlib.Omega.{arith}
use borrow.Author.Tests.{not-true, not-false}
use Rattle.sorter.proofs.Precedence.{told}
use Rattle.sorter.proofs.Giving.{gives_none, gives_left, gives_other, gives_further}
use Rattle.sorter.proofs.rising_child.Goals as goal

pub returns-then-n-left : goal.returns-then-n-left
returns-then-n-left c =
    gives_none _ _ _ _ _ (λ h. absurd (omega arith)) (λ h. absurd (omega arith))

pub returns-then-precedes : goal.returns-then-precedes
returns-then-precedes c =
    gives_left _ _ _ _ _ (omega arith)
    (told _ c.precedes.ensures c.if-precedes.true refl c.read-first.ensures.of) (λ h. absurd (omega arith))

pub returns-then-n-right : goal.returns-then-n-right
returns-then-n-right c =
    gives_none _ _ _ _ _
    (λ h. told _ c.precedes.ensures c.if-precedes.false refl c.read-first.ensures.of) (λ h. absurd (omega arith))

pub returns-then-precedes-2 : goal.returns-then-precedes-2
returns-then-precedes-2 c =
    let t = c in
    gives_other _ _ _ _ _ (omega arith)
    (told _ t.precedes-2.ensures (not-true _ c.if-not-precedes.true-raw) refl t.read-first.ensures.of)
    (told _ c.precedes-then-not-precedes.ensures c.if-precedes-2.true refl t.read-second.ensures.of)

pub returns-then-not-precedes : goal.returns-then-not-precedes
returns-then-not-precedes c =
    let t = c in
    gives_none _ _ _ _ _
    (λ h. told _ t.precedes-2.ensures (not-true _ c.if-not-precedes.true-raw) refl t.read-first.ensures.of)
    (λ h. told _ c.precedes-then-not-precedes.ensures c.if-precedes-2.false refl t.read-second.ensures.of)

pub returns-then-precedes-3 : goal.returns-then-precedes-3
returns-then-precedes-3 c =
    let t = c in
    gives_further _ _ _ _ _ (omega arith)
    (told _ t.precedes-2.ensures (not-false _ c.if-not-precedes.false-raw) refl t.read-first.ensures.of)
    (told _ c.precedes-3.ensures c.if-precedes-3.true t.read-first.ensures.of t.read-second.ensures.of)

pub returns : goal.returns
returns c =
    let t = c in
    gives_left _ _ _ _ _ (omega arith)
    (told _ t.precedes-2.ensures (not-false _ c.if-not-precedes.false-raw) refl t.read-first.ensures.of)
    (λ h. told _ c.precedes-3.ensures c.if-precedes-3.false t.read-first.ensures.of t.read-second.ensures.of)
