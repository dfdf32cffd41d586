-- `reader::reading::read` meets its contract: the first pass counts, and the second stores what was counted.
use mathlib.Core.Path.{◌∙◌}
use Rattle.parser.proofs.Exits.{handed_on}
use Rattle.reader.proofs.Handed.{by_refusal, by_stop, never_on, by_room, by_filling, never_stopped}
use Rattle.reader.proofs.reading.read.Goals as goal

pub returns-in_err-start : goal.returns-in_err-start
returns-in_err-start c =
    let a = c.args in
    let both = by_refusal a.text.now a.records.now _ c.in_err-start.ensures in
    record { value = handed_on _ _ c.from_residual.ensures.1 ∙ both.0; records_after = both.1 }

pub pass-requires : goal.pass-requires
pass-requires c =
    c.in_ok-start.ensures.3

pub returns-in_err-n : goal.returns-in_err-n
returns-in_err-n c =
    let a = c.args in
    let b = c.in_ok-start.ensures in
    let both = by_stop a.text.now b.1 c.in_ok-start.start b.0 a.records.now _ _ _ c.in_err-n.ensures in
    record { value = handed_on _ _ c.from_residual-in_err-n.ensures.1 ∙ both.0; records_after = both.1 }

pub returns-in_default : goal.returns-in_default
returns-in_default c =
    let b = c.in_ok-start.ensures in
    let never = never_on c.args.text.now b.1 c.in_ok-start.start b.0 _ _ _ (rw c.in_default.is at c.in_ok-n.ensures) in
    record { value = absurd never; records_after = absurd never }

pub returns-then-records-n : goal.returns-then-records-n
returns-then-records-n c =
    let a = c.args in
    let b = c.in_ok-start.ensures in
    let both = by_room a.text.now b.1 c.in_ok-start.start b.0 a.records.now _ _ _ (rw c.in-Over.is at c.in_ok-n.ensures) c.if-records-n.true in
    record { value = rw c.record_room-then-records-n.ensures both.0; records_after = both.1 }

pub pass-requires-2 : goal.pass-requires-2
pass-requires-2 c =
    c.in_ok-start.ensures.3

-- what was counted is not refused
pub returns-in_err-pass : goal.returns-in_err-pass
returns-in_err-pass c =
    let a = c.args in
    let b = c.in_ok-start.ensures in
    let never = never_stopped a.text.now b.1 c.in_ok-start.start b.0 a.records.now _ _ _ (rw c.in-Over.is at c.in_ok-n.ensures) _ _ c.in_err-pass.ensures in
    record { value = absurd never; records_after = absurd never }

pub returns : goal.returns
returns c =
    let a = c.args in
    let b = c.in_ok-start.ensures in
    let both = by_filling a.text.now b.1 c.in_ok-start.start b.0 a.records.now _ _ _ (rw c.in-Over.is at c.in_ok-n.ensures) c.if-records-n.false _ c.pass-2.result c.pass-2.ensures in
    record { value = both.0; records_after = both.1 }
