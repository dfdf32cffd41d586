-- `put_part` meets its contract: the part is stored where there is room for all of it.
use Prim.Native.Nat.{◌-◌}
use mathlib.Core.Path.{ap, ◌∙◌}
use native.Mathlib.Omega.{arith}
use lib.ListN.{length, take, drop, length-take, length-drop}
use Rattle.lines.specs.Put.{reach}
use Rattle.lines.proofs.Laws.{puts_laid, puts_no_room}
use Rattle.lines.proofs.Copied.{part_in}
use Rattle.lines.proofs.page.Page.put_part.Goals as goal
use Rattle.lines.proofs.page.Page.put_part.Goals.{then-to-self, else-to-self}

pub returns : goal.returns
returns c =
    let a = c.args in
    let p = a.self.now in
    let s = p.text.now in
    let to = c.saturating_add-to.result in
    let e = part_in a.len a.start s c.min.ensures c.min-2.ensures in
    let r = c.saturating_add-to.ensures ∙ ap (λ l. reach p.at (length l)) e in
    elim c.if-to-self.branch [
      | then-to-self w ↦
          let i = w.self-is in
          let f = w.copy.ensures in
          puts_laid w.copy.new.to (take a.len (drop a.start s)) (ap (λ q. q.text.now) i) (ap (λ q. q.out.ghost_name) i) r (ap (λ q. q.out.now) i)
          (omega (arith, f.len, length-take (to - p.at) (drop p.at p.out.now), length-drop p.at p.out.now, w.if-to-self.true)) w.if-to-self.true (λ n. f.after ∙ e)
      | else-to-self w ↦ let i = w.self-is in puts_no_room (ap (λ q. q.text.now) i) (ap (λ q. q.out.ghost_name) i) r (ap (λ q. q.out.now) i) w.if-to-self.false
    ]
