-- The form that a record has in a block is one of the block's and the record's own, and the act that a word has is that of a row: forms
-- and rows are looked through in order.
use Prim.Native.Nat.{ℕ}
use mathlib.Core.Path.{◌≡◌, refl, sym, subst}
use mathlib.Core.Bool.{Bool, true, false, cond, not}
use mathlib.Core.List.{List, [], ◌∷◌}
use borrow.Author.Tests.{eqb-true, not-true}
use lib.Dec.{eqb}
use Rattle.word.specs.Words.{word}
use Rattle.word.proofs.Words.{both}
use Rattle.grammar.specs.Grammar.{Act, refuse, Row}
use Rattle.grammar.specs.Engine.{Maybe, none, some}
use Rattle.grammar.specs.Turns.{act_for}
use Rattle.render.specs.Spelt.{all}
use Rattle.render.specs.Plain.{Plain}
use Rattle.render.specs.Forms.{Form, of_code, is_of, form_for}
use Rattle.render.proofs.Maybe.{none_some, some_eq}
use Rattle.render.proofs.All.{all_true}

-- FORMS

-- a form that is found passes the test, and is the record's
abbrev pub Found : (Form → Bool) → Plain → Maybe Form → Type 0
Found p r none = Unit {0}
Found p r (some m) = (p m ≡ true) × (is_of r m ≡ true)

-- what every form of a block passes, the form that a record has in it passes
pub form_found : (p : Form → Bool) (r : Plain) (ms : List Form) → all p ms ≡ true → Found p r (form_for r ms)
unfolding all form_for
form_found p r [] e = tt
form_found p r (m ∷ ms) e =
    let (h, k) = both (p m) (all p ms) e in
    go (is_of r m) refl h (form_found p r ms k)
  where
    go : (t : Bool) → is_of r m ≡ t → p m ≡ true → Found p r (form_for r ms) → Found p r (cond t (some m) (form_for r ms))
    go true z h ih = (h, z)
    go false z h ih = ih

pub form_passes : (p : Form → Bool) (r : Plain) (ms : List Form) (m : Form) → all p ms ≡ true → form_for r ms ≡ some m → p m ≡ true
form_passes p r ms m t e = (subst (Found p r) e (form_found p r ms t)).0

pub of_kind : (r : Plain) (m : Form) → is_of r m ≡ true → m.kind ≡ r.kind
unfolding is_of
of_kind r m e = eqb-true m.kind r.kind (both (eqb m.kind r.kind) (of_code m.items r.code) e).0

pub form_kind : (r : Plain) (ms : List Form) (m : Form) → form_for r ms ≡ some m → m.kind ≡ r.kind
form_kind r ms m e = of_kind r m (subst (Found (λ n. true) r) e (form_found (λ n. true) r ms (all_true ms))).1

-- the form of a list of one
pub form_only : (r : Plain) (n m : Form) → form_for r (n ∷ []) ≡ some m → m ≡ n
unfolding form_for
form_only r n m e = go (is_of r n) e
  where
    go : (t : Bool) → cond t (some n) none ≡ some m → m ≡ n
    go true e = sym (some_eq e)
    go false e = absurd (none_some e)

-- a record of a kind that no form has has none of them
pub no_form : (r : Plain) (ms : List Form) → all (λ m. not (eqb m.kind r.kind)) ms ≡ true → form_for r ms ≡ none
unfolding form_for is_of all
no_form r [] h = refl
no_form r (m ∷ ms) h =
    let t = both (not (eqb m.kind r.kind)) (all (λ m. not (eqb m.kind r.kind)) ms) h in
    rw (not-true (eqb m.kind r.kind) t.0) (no_form r ms t.1)

-- ACTS

-- what every row passes, and a refusal, the act of a word passes
pub act_passes : (t : ℕ → Act → Bool) (n k : ℕ) (rows : List Row) → t k (refuse n) ≡ true → all (λ w. t (word w.begin) w.act) rows ≡ true → t k (act_for n k rows) ≡ true
unfolding act_for all
act_passes t n k [] r e = r
act_passes t n k (w ∷ ws) r e =
    let (p, q) = both (t (word w.begin) w.act) (all (λ w. t (word w.begin) w.act) ws) e in
    go (eqb (word w.begin) k) refl p (act_passes t n k ws r q)
  where
    go : (c : Bool) → eqb (word w.begin) k ≡ c → t (word w.begin) w.act ≡ true → t k (act_for n k ws) ≡ true → t k (cond c w.act (act_for n k ws)) ≡ true
    go true e p q = rw (eqb-true (word w.begin) k e) at p
    go false e p q = q
