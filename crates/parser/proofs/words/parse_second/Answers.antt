-- `parser::words::parse_second` meets its contract: the definition asks what the list of values asks, the tests decide so, and the second
-- word is the answer of its taker.
use Prim.Native.Nat.{ℕ}
use mathlib.Core.Path.{◌≡◌, refl, sym, ◌∙◌}
use mathlib.Core.Bool.{Bool, true, false, cond}
use lib.Dec.{eqb}
use Rattle.lexer.specs.declared.Kind.{Kind}
use Rattle.lexer.proofs.Kinded.{by_number}
use Rattle.std.specs.Prelude.{Some, None}
use Rattle.grammar.proofs.Second.{second_is_listed}
use Rattle.parser.specs.Code.{ahead_of}
use Rattle.parser.proofs.Exits.{handed_on}
use Rattle.parser.proofs.Taking.{not_key}
use Rattle.parser.proofs.words.parse_second.Goals as goal

pub returns-then-goes_on-eq : goal.returns-then-goes_on-eq
returns-then-goes_on-eq c =
    simp (second_is_listed, ← c.goes_on.ensures, ← c.code_of-code.ensures, ← (by_number c.args.held.kind Kind.SemiColon), ← c.eq.ensures, c.if-goes_on-eq.true)

-- a second word that is asked for, and none
given : (k j : ℕ) → cond (eqb k 0) None (Some k) ≡ Some j → (eqb j 0 ≡ false) × (k ≡ j)
given k j e = go (eqb k 0) refl e
  where
    go : (b : Bool) → eqb k 0 ≡ b → cond b None (Some k) ≡ Some j → (eqb j 0 ≡ false) × (k ≡ j)
    go true p e = absurd cc
    go false p e = let q : k ≡ j = cc in (rw q at p, q)

none : (k : ℕ) → cond (eqb k 0) None (Some k) ≡ None → eqb k 0 ≡ true
none k e = go (eqb k 0) refl e
  where
    go : (b : Bool) → eqb k 0 ≡ b → cond b None (Some k) ≡ None → eqb k 0 ≡ true
    go true p e = p
    go false p e = absurd cc

pub returns-in_default : goal.returns-in_default
returns-in_default c =
    simp (second_is_listed, c.second_value.ensures, ← c.goes_on.ensures, ← c.code_of-code.ensures, ← (by_number c.args.held.kind Kind.SemiColon), ← c.eq.ensures, c.if-goes_on-eq.false, none _ (sym c.second_key.ensures ∙ c.in_default.is))

pub returns-in_err-first : goal.returns-in_err-first
returns-in_err-first c =
    let k = given _ _ (sym c.second_key.ensures ∙ c.in-Some.is) in
    simp (second_is_listed, handed_on _ _ c.from_residual.ensures.1, ← c.goes_on.ensures, ← c.code_of-code.ensures, ← (by_number c.args.held.kind Kind.SemiColon), ← c.eq.ensures, c.if-goes_on-eq.false, k.1, k.0, not_key (ahead_of c.args.lent.now.now c.args.held) _ _ (sym c.in_err-first.ensures))

pub returns-in_err-v : goal.returns-in_err-v
returns-in_err-v c =
    let k = given _ _ (sym c.second_key.ensures ∙ c.in-Some.is) in
    simp (second_is_listed, handed_on _ _ c.from_residual-in_err-v.ensures.1, ← c.goes_on.ensures, ← c.code_of-code.ensures, ← (by_number c.args.held.kind Kind.SemiColon), ← c.eq.ensures, c.if-goes_on-eq.false, k.1, k.0, ← (c.in_err-v.ensures _ (sym c.in_ok-first.ensures)))

pub returns : goal.returns
returns c =
    let k = given _ _ (sym c.second_key.ensures ∙ c.in-Some.is) in
    simp (second_is_listed, c.code_of.ensures, ← c.goes_on.ensures, ← c.code_of-code.ensures, ← (by_number c.args.held.kind Kind.SemiColon), ← c.eq.ensures, c.if-goes_on-eq.false, k.1, k.0, ← (c.in_ok-v.ensures _ (sym c.in_ok-first.ensures)))
