-- `find` meets its contract: a record can stand only where its `at` would.
use mathlib.Core.Path.{sym, ◌∙◌}
use mathlib.Core.Bool.{true≢false}
use native.Mathlib.Omega.{arith}
use Rattle.verdict.proofs.Laws.{same_true, same_equal}
use Rattle.checker.proofs.Scanning.{nowhere}
use Rattle.checker.proofs.window.find.Goals as goal
use Rattle.checker.proofs.window.find.Goals.{else-p-c-via-then-p-c+else-same_record, else-p-c-via-else-p-c}

pub returns-then-same_record : goal.returns-then-same_record
returns-then-same_record c =
    (c.if-p-c.true, same_equal _ _ (sym c.same_record.ensures ∙ c.if-same_record.true))

pub returns-else-p-c : goal.returns-else-p-c
returns-else-p-c c =
    nowhere _ _ _ _ c.requires.2 (rw c.at_of.ensures.0 at c.lower-p.ensures)
    (elim c.else-p-c.branch [
      | else-p-c-via-then-p-c+else-same_record w ↦ λ l e. true≢false (sym (same_true _ _ e) ∙ sym w.same_record.ensures ∙ w.if-same_record.false)
      | else-p-c-via-else-p-c w ↦ λ l e. absurd (omega arith)
    ])
