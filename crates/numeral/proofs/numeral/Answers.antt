-- `numeral::numeral` meets its contract: no byte, a minus first, or another byte first.
use Prim.Native.Nat.{ℕ, ◌-◌, ◌<◌}
use mathlib.Core.Path.{◌≡◌, sym, ap, ◌∙◌}
use mathlib.Core.List.{List, [], ◌∷◌}
use mathlib.Core.Bool.{Bool, true, false}
use borrow.Author.Tests.{eq-eqb, ne_eqb, eqb-false}
use native.Mathlib.Omega.{arith}
use lib.Dec.{eqb}
use lib.ListN.{length, take, drop, get_or}
use lib.Seq.{take_all}
use Rattle.std.proofs.Common.{nat_eq}
use Rattle.numeral.specs.Machine.{whole_of}
use Rattle.numeral.specs.Numeral.{unsigned_of, numeral_of}
use Rattle.numeral.proofs.Fold.{reads}
use Rattle.numeral.proofs.numeral.Goals as goal

minus : (s : List ℕ) → 0 < length s → get_or s 0 0 ≡ 45 → whole_of true true 0 (take (length s - 1) (drop 1 s)) ≡ numeral_of s
minus [] h e = absurd (omega arith)
minus (b ∷ s) h e =
    ap (whole_of true true 0) (take_all (length (b ∷ s) - 1) s (omega arith)) ∙ reads true s ∙ simp (eq-eqb b 45 e)

plain : (s : List ℕ) → 0 < length s → (get_or s 0 0 ≡ 45 → ⊥) → unsigned_of false s ≡ numeral_of s
plain [] h e = absurd (omega arith)
plain (b ∷ s) h e = simp (ne_eqb b 45 e)

-- bytes that are not none
some : (n : ℕ) (b : Bool) → b ≡ nat_eq n 0 → b ≡ false → 0 < n
some n b e f = omega (arith, eqb-false n 0 (sym e ∙ f))

pub returns-then-part-eq45 : goal.returns-then-part-eq45
returns-then-part-eq45 c =
    let s = c.args.part.now in
    c.unsigned.ensures ∙ minus s (some (length s) c.is_empty.result c.is_empty.ensures c.if-is_empty.false) c.if-part-eq45.true

pub returns : goal.returns
returns c =
    let s = c.args.part.now in
    c.unsigned-2.ensures ∙ reads false s ∙ plain s (some (length s) c.is_empty.result c.is_empty.ensures c.if-is_empty.false) c.if-part-eq45.false
