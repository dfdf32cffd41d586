-- `file::bytes` meets its contract: the nine fields laid one after the other are the bytes of `encoded`.
use Prim.Native.Nat.{ℕ}
use mathlib.Core.Path.{◌≡◌, ◌∙◌}
use mathlib.Core.List.{List}
use lib.ListN.{set, replicate}
use lib.Seq.{sets}
use Rattle.little.specs.Little.{little}
use Rattle.record.specs.Bytes.{encoded}
use Rattle.file.proofs.bytes.Goals as goal

-- a number laid over bytes that are known, and known itself
laid : {b c d : List ℕ} {v w : ℕ} (o n : ℕ) → d ≡ sets b o (little n v) → b ≡ c → v ≡ w → d ≡ sets c o (little n w)
laid o n e f g = e ∙ (λ i. sets (f i) o (little n (g i)))

pub returns : goal.returns
unfolding encoded little
returns c =
    let y = c in
    let x = y in
    let len = x in
    let name = len in
    let owner = name in
    let at = owner in
    let spare = at in
    let code = spare in
    let first : ◌≡◌ {A = List ℕ} _ _ = λ i. set (set (replicate 36 0) 0 (code.kind.ensures i)) 1 (code.code.ensures i) in
    let to-spare = laid 2 2 spare.lay.ensures first spare.spare.ensures in
    let to_at = laid 4 4 at.lay-2.ensures to-spare at.at.ensures in
    let to-owner = laid 8 4 owner.lay-3.ensures to_at owner.owner.ensures in
    let to-name = laid 12 4 name.lay-4.ensures to-owner name.name.ensures in
    let to_len = laid 16 4 len.lay-5.ensures to-name len.len.ensures in
    let to-x = laid 20 8 x.lay-6.ensures to_len x.x.ensures in
    laid 28 8 y.lay-7.ensures to-x y.y.ensures
