-- `spell` meets its contract. The loop's invariant: so many eights are stored.
use Prim.Native.Nat.{◌*◌}
use mathlib.Core.Path.{◌≡◌}
use lib.ListN.{take}
use lib.Seq.{sets}
use Rattle.word.specs.Spelling.{spelling}
use Rattle.lines.proofs.page.spell.Given as goal

abbrev pub invariant-loop-part : goal.invariant-loop-part
invariant-loop-part l = l.out ≡ sets l.initial.out l.at (take (8 * l.part) (spelling l.k))
