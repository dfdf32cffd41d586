-- `parser::items::items` meets its contract: what is left of the number is what is left of the items, and they go on as they would have
-- from the empty draft.
use Prim.Native.Nat.{ℕ, ◌≤◌}
use mathlib.Core.Path.{◌≡◌}
use Rattle.grammar.specs.Engine.{Draft, items}
use Rattle.rows.specs.Packed.{items_of}
use Rattle.parser.specs.Code.{ahead_of}
use Rattle.parser.specs.Kept.{frame_of}
use Rattle.parser.specs.Drafts.{draft_of, shown, emptied}
use Rattle.parser.proofs.items.items.Given as goal

abbrev pub invariant-loop-s : goal.invariant-loop-s
invariant-loop-s l = (l.s ≤ l.list)
    × ((b : Draft ℕ) → b.rec.kind ≡ l.kind
    → shown (items 0 (frame_of l.lent.now l.f) (items_of l.s) (draft_of l.lent.now b l.d) (ahead_of l.lent.now l.t))
    ≡ shown (items 0 (frame_of l.lent.now l.f) (items_of l.list) (emptied b) (ahead_of l.lent.now l.initial.t)))

abbrev pub decreases-loop-s : goal.decreases-loop-s
decreases-loop-s l = l.s
