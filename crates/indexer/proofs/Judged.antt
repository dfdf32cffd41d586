-- What an answer with a number says as a Result: an error is that answer, whose number is not 0, and where it is 0 nothing is refused.
use mathlib.Core.Path.{◌≡◌, refl}
use mathlib.Core.Bool.{Bool, true, false, cond}
use lib.Dec.{eqb}
use borrow.Author.Tests.{eqb-true, eqb-false, ne_eqb}
use Rattle.std.specs.Prelude.{Result, Ok, Err, ⊤}
use Rattle.refusal.specs.declared.Refusal.{Refusal}
use Rattle.refusal.specs.Table.{done, outcome, judgement}

-- nothing is refused
abbrev pub fine : Result ⊤ Refusal
fine = Ok tt

module _ (r : Refusal) where
  pub judged_err : (e : Refusal) → Err e ≡ judgement r → (r.number ≡ 0 → ⊥) × (r ≡ e)
  judged_err e = go (eqb r.number done) refl
    where
      go : (b : Bool) → eqb r.number done ≡ b → Err e ≡ cond b fine (Err r) → (r.number ≡ 0 → ⊥) × (r ≡ e)
      go true p h = cc
      go false p h = (eqb-false r.number done p, cc)

  pub judged_ok : fine ≡ judgement r → r.number ≡ 0
  judged_ok = go (eqb r.number done) refl
    where
      go : (b : Bool) → eqb r.number done ≡ b → fine ≡ cond b fine (Err r) → r.number ≡ 0
      go true p h = eqb-true r.number done p
      go false p h = cc

  -- a refusal is an error, of a call that counts too
  pub err_judged : (r.number ≡ 0 → ⊥) → Err r ≡ judgement r
  err_judged h = rw (ne_eqb r.number done h)

  pub err_outcome : (r.number ≡ 0 → ⊥) → Err r ≡ outcome r
  err_outcome h = rw (ne_eqb r.number done h)
