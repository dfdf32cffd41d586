-- What the screen tells of a text that it lets pass, and where the first byte above 127 stands.
use Prim.Native.Nat.{ℕ, ◌≤◌, ◌<◌}
use mathlib.Core.Path.{◌≡◌, refl}
use mathlib.Core.Bool.{Bool, true, false, cond}
use mathlib.Core.List.{List}
use native.Mathlib.Omega.{arith}
use borrow.Author.Tests.{ltb-false, leb-true}
use Rattle.std.specs.Prelude.{Result, Ok, Err, ⊤}
use lib.Dec.{ltb}
use lib.ListN.{length, get_or}
use Rattle.refusal.specs.declared.Refusal.{Refusal}
use Rattle.refusal.specs.Table.{refused, too_long, not_ascii}
use Rattle.lexer.specs.Bytes.{is_ascii}
use Rattle.lexer.specs.Screen.{limit, first_high, screened}
use Rattle.lexer.proofs.Runs.{inside}

both_pass : (a b : Bool) (x y : Refusal) → ◌≡◌ {A = Result ⊤ Refusal} (cond a (Err x) (cond b (Err y) (Ok tt))) (Ok tt) → (a ≡ false) × (b ≡ false)
both_pass true b x y h = absurd (let z : ◌≡◌ {A = ℕ} 0 1 = cc in omega arith)
both_pass false true x y h = absurd (let z : ◌≡◌ {A = ℕ} 0 1 = cc in omega arith)
both_pass false false x y h = (refl, refl)

module _ (s : List ℕ) (h : screened s ≡ Ok tt) where
  passes : (ltb limit (length s) ≡ false) × (ltb (first_high s) (length s) ≡ false)
  unfolding screened
  passes = both_pass (ltb limit (length s)) (ltb (first_high s) (length s)) (refused too_long 0 0) (refused not_ascii (first_high s) 0) h

  pub clear_short : length s ≤ limit
  clear_short = ltb-false limit (length s) passes.0

  pub clear_ascii : (k : ℕ) → k < length s → get_or s k 0 ≤ 127
  clear_ascii k l =
      let f = ltb-false (first_high s) (length s) passes.1 in
      leb-true (get_or s k 0) 127 (inside is_ascii s 0 k (omega arith) (omega arith))
