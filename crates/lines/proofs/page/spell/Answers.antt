-- `spell` meets its contract. The loop's invariant: so many eights are stored.
use Prim.Native.Nat.{◌+◌, ◌-◌, ◌*◌, ◌≤◌, min}
use mathlib.Core.Path.{◌≡◌, ◌∙◌}
use native.Mathlib.Omega.{arith}
use lib.ListN.{length}
use Rattle.word.specs.Spelling.{spelling}
use Rattle.word.proofs.Spelt.{letters_bytes}
use Rattle.lines.proofs.Copied.{some_more, part_bytes}
use Rattle.lines.proofs.page.spell.Goals as goal

pub loop-part-preserved : goal.loop-part-preserved
loop-part-preserved c =
    let a = c.args in
    let l = c.loop-part in
    let w = spelling a.k in
    let i : c.min.result ≡ min 8 (length w - 8 * l.part) = omega (arith, c.min.ensures, c.requires.0) in
    let n : 8 * (l.part + 1) ≡ 8 * l.part + 8 = omega arith in
    let h : 8 * l.part ≤ length w = omega (arith, c.requires.0) in
    c.lay.ensures ∙ rw (i, c.eight.ensures, part_bytes 8 (8 * l.part) w (letters_bytes a.k), l.invariant, n) (some_more a.out.now a.at w (8 * l.part) 8 h)
