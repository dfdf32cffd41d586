-- `copy` meets its contract: the bytes passed are those of the other slice.
use native.Mathlib.Omega.{arith}
use Rattle.std.proofs.lemmas.List.{ext_get_or}
use Rattle.lines.proofs.page.copy.Goals as goal

pub returns-clause-after : goal.returns-clause-after
returns-clause-after c =
    let l = c.loop-i.invariant in
    ext_get_or 0 c.loop-i.to c.args.from.now l.0 (λ k h. l.1 k (omega (arith, h, l.0)))
