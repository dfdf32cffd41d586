-- `next` meets its contract: what is left has the entries that there were.
use mathlib.Core.Path.{◌≡◌, sym, ap, ◌∙◌}
use mathlib.Core.List.{[]}
use native.Mathlib.Omega.{arith}
use lib.ListN.{length}
use Rattle.indexer.proofs.Filling.{left, left_none, left_entered, left_other}
use Rattle.indexer.proofs.fill.EntriesIterator.next.Goals as goal

pub returns-then-is_entered-clause-steps : goal.returns-then-is_entered-clause-steps
returns-then-is_entered-clause-steps c =
    let s = c.split_at.ensures in
    let e = rw s.front at (sym c.is_entered.ensures ∙ c.if-is_entered.true) in
    sym c.loop-self.invariant ∙ rw (c.entry_of.ensures.of, s.front, s.back) (left_entered c.loop-self.self.0.now c.loop-self-test.true e)

pub returns-then-is_entered-clause-goes : goal.returns-then-is_entered-clause-goes
returns-then-is_entered-clause-goes c =
    let e = ap length (returns-then-is_entered-clause-steps c) in
    record { on = λ h. (tt, tt, omega (arith, e)); keeps = tt; rests = λ h. tt }

pub loop-self-preserved : goal.loop-self-preserved
loop-self-preserved c =
    let s = c.split_at.ensures in
    let e = rw s.front at (sym c.is_entered.ensures ∙ c.if-is_entered.false) in
    rw s.back (sym (left_other c.loop-self.self.0.now c.loop-self-test.true e)) ∙ c.loop-self.invariant

pub returns-clause-steps : goal.returns-clause-steps
returns-clause-steps c =
    let none : left c.loop-self.self.0.now ≡ [] = left_none c.loop-self.self.0.now c.loop-self-test.false in
    (sym c.loop-self.invariant ∙ none, none)
