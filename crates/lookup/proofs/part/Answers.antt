-- `lookup::part` meets its contract: the range ends in the text exactly where the start and the length together do, since no text is so
-- long that their sum is cut off inside of it.
use Prim.Native.Nat.{ℕ, ◌+◌, ◌-◌, ◌≤◌, ◌<◌}
use mathlib.Core.Path.{◌≡◌, refl, ap, ◌∙◌}
use mathlib.Core.List.{List, []}
use mathlib.Core.Logic.{⊎_elim}
use borrow.Author.Tests.{le-leb, lt-leb}
use native.Mathlib.Omega.{arith}
use lib.ListN.{length, take, drop}
use Rattle.std.specs.Prelude.{Option, Some, None}
use Rattle.std.specs.Option.{unwrap_or}
use Rattle.std.specs.Borrow.{Bor}
use Rattle.std.specs.Slice.{IsGetRangeResult}
use Rattle.lookup.specs.Name.{part}
use Rattle.lookup.proofs.part.Goals as goal

part_is : (s : List ℕ) (start len stop : ℕ) (r : Option (Bor (List ℕ))) (d : Bor (List ℕ)) → d.now ≡ [] → start ≤ stop → stop ≤ start + len → (stop ≤ length s → stop ≡ start + len)
    → IsGetRangeResult s start stop r → (unwrap_or r d).now ≡ part s start len
unfolding part
part_is s start len stop None d e k l g h =
    let out : length s < start + len = ⊎_elim (λ m. absurd (omega arith)) (λ m. omega arith) h.0 in
    rw (lt-leb (start + len) (length s) out) e
part_is s start len stop (Some x) d e k l g h =
    let z : stop ≡ start + len = g h.0.1 in
    let wide : stop - start ≡ len = omega arith in
    let in_text : start + len ≤ length s = omega (arith, h.0.1) in
    rw (le-leb (start + len) (length s) in_text) (h.0.2 ∙ ap (λ n. take n (drop start s)) wide)

pub returns : goal.returns
returns c =
    let a = c.args in
    ap (λ (b : Bor (List ℕ)). b.now) c.unwrap_or.ensures
    ∙ part_is a.text.now a.start a.len c.saturating_add.result c.get.result _ refl (omega arith) (omega arith) (λ h. omega arith) c.get.ensures.lookup
