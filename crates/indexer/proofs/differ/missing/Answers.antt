-- `missing` meets its contract: an entry that is not where its key would stand is nowhere.
use mathlib.Core.Path.{sym, ◌∙◌}
use mathlib.Core.Bool.{true≢false}
use native.Mathlib.Omega.{arith}
use Rattle.entry.specs.Entries.{entry_in}
use Rattle.indexer.proofs.Meetings.{equal_fields, lacks_there}
use Rattle.indexer.proofs.differ.missing.Goals as goal
use Rattle.indexer.proofs.differ.missing.Goals.{else-p-front-via-then-p-front+else-eq, else-p-front-via-else-p-front}

pub returns : goal.returns
returns c =
    let f = c.args.front.now in
    let l = rw c.part.ensures at c.lower-p.ensures in (
      lacks_there f.text.now (entry_in f.index.now) f.n f.rises c.args.e c.lower-p.result l
          (λ h q. elim c.else-p-front.branch [
            | else-p-front-via-then-p-front+else-eq w ↦ true≢false (sym (equal_fields w.read.result c.args.e (w.read.ensures.of ∙ q)) ∙ sym w.if-eq.ensures)
            | else-p-front-via-else-p-front w ↦ omega arith
          ]),
      l,
    )
