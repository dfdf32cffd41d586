-- `compare` meets its contract: the refusal of the text comes first, and without one the reading gives records.
use mathlib.Core.Path.{sym, ap, ◌∙◌}
use Rattle.refusal.specs.Table.{judgement}
use Rattle.grammar.specs.Reading.{records}
use Rattle.parser.proofs.Exits.{handed_on}
use Rattle.checker.proofs.Judging.{text_refused, some_order, reads_of, by_length, by_verdict, same_held, same_done}
use Rattle.checker.proofs.compare.Goals as goal

pub in_order-requires : goal.in_order-requires
in_order-requires c =
    c.requires.1

pub returns-in_err-same-clause-of : goal.returns-in_err-same-clause-of
returns-in_err-same-clause-of c =
    rw (handed_on _ _ c.from_residual.ensures.1) (text_refused _ _ _ (c.requires.0 ∙ c.in_err-same.ensures))

pub returns-then-file-ne0-clause-of : goal.returns-then-file-ne0-clause-of
returns-then-file-ne0-clause-of c =
    let a = c.args in
    let z = some_order a.text.now a.start c.requires.0 c.requires.1 a.file.now _ c.in_ok-same.ensures in
    rw c.not_whole.ensures (by_length a.text.now a.start c.requires.0 c.requires.1 a.file.now z.0 z.1 c.if-file-ne0.true)

pub by_windows-requires : goal.by_windows-requires
by_windows-requires c =
    let a = c.args in
    let z = some_order a.text.now a.start c.requires.0 c.requires.1 a.file.now _ c.in_ok-same.ensures in
    (z.0, reads_of a.text.now a.start c.requires.0 c.requires.1 z.0 z.1)

pub returns-in_err-by_windows-clause-of : goal.returns-in_err-by_windows-clause-of
returns-in_err-by_windows-clause-of c =
    let a = c.args in
    let z = some_order a.text.now a.start c.requires.0 c.requires.1 a.file.now _ c.in_ok-same.ensures in
    rw (handed_on _ _ c.from_residual-in_err-by_windows.ensures.1)
    (by_verdict a.text.now a.start c.requires.0 c.requires.1 a.file.now z.0 z.1 c.if-file-ne0.false _ (c.in_err-by_windows.ensures z.0 z.1))

pub returns-else-not-same-clause-of : goal.returns-else-not-same-clause-of
returns-else-not-same-clause-of c =
    let a = c.args in
    let z = rw c.if-not-same.false at c.in_ok-same.ensures in
    let q = reads_of a.text.now a.start c.requires.0 c.requires.1 z.0 z.1 in
    by_verdict a.text.now a.start c.requires.0 c.requires.1 a.file.now z.0 z.1 c.if-file-ne0.false _ (ap judgement (sym (same_done a.text.now a.start a.file.now z.0 q z.2 z.0 z.1)))

pub returns-else-not-same-clause-held : goal.returns-else-not-same-clause-held
returns-else-not-same-clause-held c h =
    let a = c.args in
    let z = rw c.if-not-same.false at c.in_ok-same.ensures in
    let q = reads_of a.text.now a.start c.requires.0 c.requires.1 z.0 z.1 in
    c.requires.0 ∙ z.1 ∙ ap records (same_held a.text.now a.start a.file.now z.0 q z.2 z.0 z.1)
