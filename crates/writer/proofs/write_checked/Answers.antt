-- `write_checked` meets its contract: the checker refuses, or what is written are the records that it has accepted.
use mathlib.Core.Path.{ap}
use native.Mathlib.Omega.{arith}
use Rattle.std.specs.Prelude.{Ok}
use Rattle.parser.proofs.Exits.{handed_on}
use Rattle.writer.proofs.Answering.{refused_first, reads_on, accepted_then, no_room, written_whole}
use Rattle.writer.proofs.write_checked.Goals as goal

pub returns-in_err-in_order : goal.returns-in_err-in_order
returns-in_err-in_order c =
    let a = c.args in
    rw (handed_on _ _ c.from_residual.ensures.1) (refused_first a.text.now a.file.now _ c.in_err-in_order.ensures.of a.out.now)

pub write_all-n-requires : goal.write_all-n-requires
write_all-n-requires c =
    let a = c.args in
    let m = c.in_ok-in_order in
    (c.requires, reads_on a.text.now a.file.now m.in_order m.ensures.of, λ h. m.ensures.held (ap Ok h))

pub returns-then-out-n : goal.returns-then-out-n
returns-then-out-n c =
    let a = c.args in
    let k = c.in_ok-in_order in
    let z = reads_on a.text.now a.file.now k.in_order k.ensures.of in
    rw c.text_room.ensures (accepted_then a.text.now a.file.now k.in_order k.ensures.of a.out.now _ _ (no_room a.text.now z.0 z.1 _ _ _ c.write_all-n.ensures a.out.now c.if-out-n.true))

pub write_all-requires : goal.write_all-requires
write_all-requires c =
    let a = c.args in
    let q = c.in_ok-in_order in
    (c.requires, reads_on a.text.now a.file.now q.in_order q.ensures.of, λ h. q.ensures.held (ap Ok h))

pub returns : goal.returns
returns c =
    let a = c.args in
    let v = c.in_ok-in_order in
    let z = reads_on a.text.now a.file.now v.in_order v.ensures.of in
    accepted_then a.text.now a.file.now v.in_order v.ensures.of a.out.now _ _
    (written_whole a.text.now z.0 z.1 _ _ _ c.write_all-n.ensures a.out.now _ c.if-out-n.false (omega (arith, c.well_formed)) _ c.write_all.ensures)
