-- `entry::bytes` meets its contract: the four fields laid one after the other are the bytes of `encoded`.
use Prim.Native.Nat.{ℕ}
use mathlib.Core.Path.{◌≡◌, ◌∙◌}
use mathlib.Core.List.{List}
use lib.Seq.{sets}
use Rattle.little.specs.Little.{little}
use Rattle.entry.specs.Entries.{encoded}
use Rattle.entry.proofs.bytes.Goals as goal

-- a number laid over bytes that are known
laid : {b c d : List ℕ} (o v : ℕ) → d ≡ sets b o (little 4 v) → b ≡ c → d ≡ sets c o (little 4 v)
laid o v e f = e ∙ (λ i. sets (f i) o (little 4 v))

pub returns : goal.returns
unfolding encoded little
returns c =
    let at = c in
    let len = at in
    let name = len in
    let owner = name in
    let e = owner.args.e in
    laid 12 e.at at.lay-4.ensures (laid 8 e.len len.lay-3.ensures (laid 4 e.name name.lay-2.ensures owner.lay.ensures))
