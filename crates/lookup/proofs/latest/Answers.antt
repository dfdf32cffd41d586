-- `lookup::latest` meets its contract: after each record the best is the latest of those passed, and at the end of them all.
use Prim.Native.Nat.{◌/◌}
use mathlib.Core.Path.{◌≡◌, ◌∙◌}
use native.Mathlib.Omega.{arith}
use lib.ListN.{length}
use Rattle.std.proofs.Common.{rules}
use Rattle.std.specs.Option.{option_map}
use Rattle.lookup.specs.Force.{asked}
use Rattle.lookup.proofs.Best.{best_told}
use Rattle.lookup.proofs.latest.Goals as goal

pub returns : goal.returns
returns c =
    let a = c.args in
    let l = c.loop-i in
    let e : l.i ≡ length a.file.now / 36 = omega arith in
    let index : c.map.result ≡ option_map (λ b. b.0) l.best = search rules in
    index ∙ best_told (asked a.owner a.kind a.code) a.file.now l.best (rw e at l.invariant)
