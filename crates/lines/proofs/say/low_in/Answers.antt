-- `lines::say::low_in` meets its contract: each arm says what its item says, and the other bytes are those of the second word.
use Prim.Native.Nat.{ℕ}
use mathlib.Core.Path.{◌≡◌, sym, ap, ◌∙◌}
use native.Mathlib.Decide.{dec_lt}
use native.Mathlib.Omega.{arith}
use mathlib.Core.List.{[], ◌∷◌}
use Rattle.record.specs.declared.Record.{Record}
use Rattle.word.specs.Spelling.{first_of}
use Rattle.word.proofs.Steps.{apart}
use Rattle.parser.specs.Kept.{name_in}
use Rattle.rows.specs.Packed.{item_at}
use Rattle.rows.proofs.Ranges.{at_second, at_semi}
use Rattle.render.specs.Plain.{bare}
use Rattle.render.specs.Says.{word, number, says}
use Rattle.lines.specs.Said.{name_said}
use Rattle.lines.proofs.say.low_in.Goals as goal

-- the first word of the code
coded : (r : Record) {kind code k : ℕ} → kind ≡ r.kind → code ≡ r.code → k ≡ first_of kind code → word (first_of r.kind r.code) ∷ [] ≡ word k ∷ []
coded r e f q = ap (λ k. word k ∷ []) (sym (q ∙ λ i. first_of (e i) (f i)))

-- a number of the record
told : {v w : ℕ} → v ≡ w → number w ∷ [] ≡ number v ∷ []
told e = ap (λ v. number v ∷ []) (sym e)

pub returns-in-1 : goal.returns-in-1
unfolding item_at says
returns-in-1 c l s =
    let a = c.args in
    ap (λ b. says (name_in s a.f.title a.f.len) (bare s a.r) (item_at b)) c.in-1.is ∙ told c.x.ensures

pub returns-in-2 : goal.returns-in-2
unfolding item_at says
returns-in-2 c l s =
    let a = c.args in
    ap (λ b. says (name_in s a.f.title a.f.len) (bare s a.r) (item_at b)) c.in-2.is ∙ told c.y.ensures

pub returns-in-5 : goal.returns-in-5
unfolding item_at says
returns-in-5 c l s =
    let a = c.args in
    ap (λ b. says (name_in s a.f.title a.f.len) (bare s a.r) (item_at b)) c.in-5.is
    ∙ λ i. name_said (name_in s (sym c.name.ensures i) (sym c.len.ensures i)) ∷ []

pub returns-in-6 : goal.returns-in-6
unfolding item_at says
returns-in-6 c l s =
    let a = c.args in
    ap (λ b. says (name_in s a.f.title a.f.len) (bare s a.r) (item_at b)) c.in-6.is

pub returns-in-7 : goal.returns-in-7
unfolding item_at says
returns-in-7 c l s =
    let a = c.args in
    ap (λ b. says (name_in s a.f.title a.f.len) (bare s a.r) (item_at b)) c.in-7.is
    ∙ coded a.r c.kind.ensures c.code.ensures c.first_word.ensures

pub returns-in-8 : goal.returns-in-8
unfolding item_at says
returns-in-8 c l s =
    let a = c.args in
    ap (λ b. says (name_in s a.f.title a.f.len) (bare s a.r) (item_at b)) c.in-8.is
    ∙ coded a.r c.kind-in-8.ensures c.code-in-8.ensures c.first_word-in-8.ensures

pub returns-in-9 : goal.returns-in-9
unfolding item_at says
returns-in-9 c l s =
    let a = c.args in
    ap (λ b. says (name_in s a.f.title a.f.len) (bare s a.r) (item_at b)) c.in-9.is
    ∙ coded a.r c.kind-in-9.ensures c.code-in-9.ensures c.first_word-in-9.ensures

pub returns-in-16 : goal.returns-in-16
unfolding item_at says
returns-in-16 c l s =
    let a = c.args in
    ap (λ b. says (name_in s a.f.title a.f.len) (bare s a.r) (item_at b)) c.in-16.is

pub returns-in_default : goal.returns-in_default
returns-in_default c l s =
    let a = c.args in
    let n = (apart _ (1 ∷ 2 ∷ 5 ∷ 6 ∷ 7 ∷ 8 ∷ 9 ∷ 16 ∷ []) (Unit {0}) c.in_default.in_default-own.rest).1 in
    elim (dec_lt a.it 16) [
      | yes p ↦ ap (says (name_in s a.f.title a.f.len) (bare s a.r)) (at_semi a.it p (n.0, (n.1.0, (n.1.1.0, (n.1.1.1.0, (n.1.1.1.1.0, (n.1.1.1.1.1.0, (n.1.1.1.1.1.1.0, tt))))))))
          ∙ c.rest_in.ensures.low p s (name_in s a.f.title a.f.len) (bare s a.r)
      | no p ↦ ap (says (name_in s a.f.title a.f.len) (bare s a.r)) (at_second a.it (omega arith) l n.1.1.1.1.1.1.1.0)
          ∙ c.rest_in.ensures.high (omega arith) s (name_in s a.f.title a.f.len) (bare s a.r) (sym c.kind-in_default.ensures) (sym c.code-in_default.ensures)
    ]
