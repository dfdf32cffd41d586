-- What refusal 3 of `first_token` tells: a place of the text, and 1 plus the newlines from the place given up to there.
use Prim.Native.Nat.{ℕ, ◌+◌, ◌≤◌, ◌<◌}
use mathlib.Core.Path.{◌≡◌, refl, ap}
use mathlib.Core.Bool.{Bool, true, false, cond}
use mathlib.Core.List.{List}
use native.Mathlib.Omega.{arith}
use lib.Dec.{ltb}
use Rattle.std.specs.Prelude.{Result, Ok, Err, ⊤}
use lib.ListN.{length}
use Rattle.refusal.specs.declared.Refusal.{Refusal}
use Rattle.refusal.specs.Table.{refused, too_long, not_ascii, no_token}
use Rattle.lexer.specs.declared.Lexed.{Lexed}
use Rattle.lexer.specs.Lex.{lex_from}
use Rattle.lexer.specs.Lines.{newlines}
use Rattle.lexer.specs.Screen.{limit, first_high, screened}
use Rattle.lexer.specs.Answer.{told, first_token}
use Rattle.lexer.proofs.Lines.{first_line}
use Rattle.lexer.proofs.Places.{within_first}
use Rattle.lexer.proofs.Cleared.{clear_short}

-- what refusal 3 from a place on tells
pub record NoToken (s : List ℕ) (from : ℕ) (r : Refusal) : Type 0 where
  pub after : from ≤ r.place
  pub inside : r.place < length s
  pub line : r.line ≡ 1 + newlines s from r.place

low : (a b : Bool) (p : ℕ) (r : Refusal)
    → ◌≡◌ {A = Result ⊤ Refusal} (cond a (Err (refused too_long 0 0)) (cond b (Err (refused not_ascii p 0)) (Ok tt))) (Err r) → r.number ≤ not_ascii
low true b p r h = let e : refused too_long 0 0 ≡ r = cc in omega (arith, ap (λ x. x.number) e)
low false true p r h = let e : refused not_ascii p 0 ≡ r = cc in omega (arith, ap (λ x. x.number) e)
low false false p r h = absurd (let z : ◌≡◌ {A = ℕ} 0 1 = cc in omega arith)

module _ (s : List ℕ) (place : ℕ) (r : Refusal) where
  bad : screened s ≡ Ok tt → (a : Lexed) → lex_from s place 1 ≡ a → told a ≡ Err r → NoToken s place r
  bad c (Lexed.Found t) q h = absurd (let z : ◌≡◌ {A = ℕ} 0 1 = cc in omega arith)
  bad c (Lexed.End n) q h = absurd (let z : ◌≡◌ {A = ℕ} 0 1 = cc in omega arith)
  bad c (Lexed.Bad i n) q h =
      let e : refused no_token i n ≡ r = cc in
      let l = clear_short s c in
      let w = rw q at (within_first s place 1) in
      rw (← e) (record { after = w.0; inside = w.1; line = rw q at (first_line s place 1 (omega arith)) })

  screen_said : (c : Result ⊤ Refusal) → screened s ≡ c → first_token s place ≡ Err r → r.number ≡ no_token → NoToken s place r
  unfolding first_token screened
  screen_said (Ok tt) e h k = bad e (lex_from s place 1) refl (rw (e, first_token) at h)
  screen_said (Err x) e h k =
      let q : x ≡ r = cc (rw (e, first_token) at h) in
      absurd (omega (arith, ap (λ y. y.number) q, low (ltb limit (length s)) (ltb (first_high s) (length s)) (first_high s) x e))

  pub no_token_lem : first_token s place ≡ Err r → r.number ≡ no_token → NoToken s place r
  no_token_lem = screen_said (screened s) refl
