-- `settle` meets its contract: only options are ended, by a record that has no form among them, and the block after them has none.
use Prim.Native.Nat.{ℕ}
use mathlib.Core.List.{List}
use Rattle.render.specs.Plain.{bare}
use Rattle.lines.specs.declared.page.Page.{Page}
use Rattle.writer.specs.declared.pen.Taken.{Taken}
use Rattle.writer.specs.Penned.{Settled}
use Rattle.writer.proofs.Taking.{turns}
use Rattle.writer.proofs.pen.settle.Given as goal

-- what settles the record from here settles it from the start
abbrev pub invariant-loop-page : goal.invariant-loop-page
invariant-loop-page l = (s : List ℕ) (t : Taken) (q : Page) → Settled s l.«open» (bare s l.r) l.page t q → Settled s l.initial.open (bare s l.r) l.initial.page t q

abbrev pub decreases-loop-page : goal.decreases-loop-page
decreases-loop-page l = turns l.«open».inner.block
