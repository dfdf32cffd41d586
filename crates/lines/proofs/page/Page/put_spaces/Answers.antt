-- `put_spaces` meets its contract: the spaces are stored where there is room for all of them.
use Prim.Native.Nat.{ℕ, ◌-◌}
use mathlib.Core.Path.{◌≡◌, sym, ap, ◌∙◌}
use native.Mathlib.Omega.{arith}
use Rattle.std.proofs.Common.{rules}
use lib.ListN.{length, take, drop, replicate, length-replicate, length-take, length-drop}
use Rattle.lines.specs.Put.{reach}
use Rattle.lines.proofs.Laws.{puts_laid, puts_no_room}
use Rattle.lines.proofs.page.Page.put_spaces.Goals as goal
use Rattle.lines.proofs.page.Page.put_spaces.Goals.{then-to-self, else-to-self}

pub returns : goal.returns
returns c =
    let a = c.args in
    let p = a.self.now in
    let to = c.saturating_add-to.result in
    let all : (n : ℕ) → length {A = ℕ} (replicate n 32) ≡ n = λ n. length-replicate n 32 in
    let r = c.saturating_add-to.ensures ∙ ap (reach p.at) (sym (all a.n)) in
    elim c.if-to-self.branch [
      | then-to-self w ↦
          let i = w.self-is in
          let m : length (take (to - p.at) (drop p.at p.out.now)) ≡ to - p.at = omega (arith, length-take (to - p.at) (drop p.at p.out.now), length-drop p.at p.out.now, w.if-to-self.true) in
          let f : w.fill.new.self ≡ replicate (to - p.at) 32 = w.fill.ensures.after (search rules) ∙ ap (λ n. replicate n 32) m in
          puts_laid w.fill.new.self (replicate a.n 32) (ap (λ q. q.text.now) i) (ap (λ q. q.out.ghost_name) i) r (ap (λ q. q.out.now) i)
          (ap length f ∙ all (to - p.at)) w.if-to-self.true (λ n. let k : to - p.at ≡ a.n = sym (ap length f ∙ all (to - p.at)) ∙ n ∙ all a.n in f ∙ ap (λ n. replicate n 32) k)
      | else-to-self w ↦ let i = w.self-is in puts_no_room (ap (λ q. q.text.now) i) (ap (λ q. q.out.ghost_name) i) r (ap (λ q. q.out.now) i) w.if-to-self.false
    ]
