-- A record that was read in a form of a block has that form there: the forms of a block differ in kind, or in the code that their items begin with.
use Prim.Native.Nat.{ℕ}
use mathlib.Core.Path.{◌≡◌, refl, sym, ◌∙◌}
use mathlib.Core.Bool.{Bool, true, false, not, ◌&&◌, ◌||◌}
use mathlib.Core.List.{List, [], ◌∷◌, Memᴰ}
use borrow.Author.Tests.{eqb-true, eq-eqb, not-true}
use lib.Dec.{eqb}
use Rattle.word.proofs.Words.{both, clash}
use Rattle.grammar.specs.Grammar.{Item, key, keyword, name, own, x, y, semi, value, first, first_key, second, string, code, if_more, no_name, among, whole}
use Rattle.grammar.specs.Engine.{some}
use Rattle.grammar.proofs.Listed.{skip}
use Rattle.render.specs.Spelt.{all}
use Rattle.render.specs.Plain.{Plain}
use Rattle.render.specs.Says.{holds, omitted, holds_all, gives}
use Rattle.render.specs.Forms.{Form, of_code, is_of, form_for, nobody}
use Rattle.render.proofs.All.{all_member}
use Rattle.render.proofs.Fields.{part, asked, alike}
use Rattle.render.proofs.OmittedRead.{none_omitted}

-- the code that items begin with: 0 where they begin with none
unfoldable pub leading : List Item → ℕ
leading [] = 0
leading (i ∷ is) = (gives nobody i nobody).code

-- items begin with a code, or are those of every code
by_code : (P : List Item → Type 0) → ((b : ℕ) (is : List Item) → P (code b ∷ is)) → ((is : List Item) → leading is ≡ 0 → ((c : ℕ) → of_code is c ≡ true) → P is)
    → (is : List Item) → P is
unfolding leading gives of_code
by_code P p q [] = q [] refl (λ c. refl)
by_code P p q (key w ∷ is) = q (key w ∷ is) refl (λ c. refl)
by_code P p q (keyword w ∷ is) = q (keyword w ∷ is) refl (λ c. refl)
by_code P p q (name ∷ is) = q (name ∷ is) refl (λ c. refl)
by_code P p q (own ∷ is) = q (own ∷ is) refl (λ c. refl)
by_code P p q (x ∷ is) = q (x ∷ is) refl (λ c. refl)
by_code P p q (y ∷ is) = q (y ∷ is) refl (λ c. refl)
by_code P p q (semi ∷ is) = q (semi ∷ is) refl (λ c. refl)
by_code P p q (value ∷ is) = q (value ∷ is) refl (λ c. refl)
by_code P p q (first ∷ is) = q (first ∷ is) refl (λ c. refl)
by_code P p q (first_key ∷ is) = q (first_key ∷ is) refl (λ c. refl)
by_code P p q (second ∷ is) = q (second ∷ is) refl (λ c. refl)
by_code P p q (string n ∷ is) = q (string n ∷ is) refl (λ c. refl)
by_code P p q (code b ∷ is) = p b is
by_code P p q (if_more n ∷ is) = q (if_more n ∷ is) refl (λ c. refl)
by_code P p q (no_name ∷ is) = q (no_name ∷ is) refl (λ c. refl)
by_code P p q (among vs ∷ is) = q (among vs ∷ is) refl (λ c. refl)
by_code P p q (whole n ∷ is) = q (whole n ∷ is) refl (λ c. refl)

leads : (is : List Item) → eqb (leading is) 0 ≡ false → (c : ℕ) → of_code is c ≡ eqb (leading is) c
unfolding leading gives of_code
leads = by_code (λ is. eqb (leading is) 0 ≡ false → (c : ℕ) → of_code is c ≡ eqb (leading is) c) (λ b is e c. refl)
    (λ is z o e c. clash (sym (eq-eqb (leading is) 0 z) ∙ e))

-- a record that has what the items ask has the code that they begin with
pub of_code_lem : (label lacks : List ℕ) (r : Plain) (is : List Item) → holds_all 0 label lacks is r ≡ true → of_code is r.code ≡ true
unfolding holds_all holds of_code
of_code_lem label lacks r = by_code (λ is. holds_all 0 label lacks is r ≡ true → of_code is r.code ≡ true)
    (λ b is h. eq-eqb b r.code (sym (eqb-true r.code b (both (eqb r.code b) (holds_all (omitted r (code b) is) label lacks is r) h).0)))
    (λ is z o h. o r.code)

-- other kinds, or other codes at the beginning
unfoldable pub differ : Form → Form → Bool
differ m n = not (eqb m.kind n.kind) || (not (eqb (leading m.items) 0) && (not (eqb (leading n.items) 0) && not (eqb (leading m.items) (leading n.items))))

not_its : (r : Plain) (m n : Form) → differ m n ≡ true → is_of r n ≡ true → is_of r m ≡ false
unfolding differ is_of
not_its r m n e o =
    let (k, c) = both (eqb n.kind r.kind) (of_code n.items r.code) o in
    go (eqb m.kind r.kind) refl (eqb-true n.kind r.kind k) c
  where
    codes : (s : Bool) → eqb m.kind n.kind ≡ true → eqb m.kind n.kind ≡ s → (not s || (not (eqb (leading m.items) 0) && (not (eqb (leading n.items) 0) && not (eqb (leading m.items) (leading n.items))))) ≡ true
        → of_code n.items r.code ≡ true → of_code m.items r.code ≡ false
    codes true k q e c =
        let (u, v) = both (not (eqb (leading m.items) 0)) (not (eqb (leading n.items) 0) && not (eqb (leading m.items) (leading n.items))) e in
        let (w, d) = both (not (eqb (leading n.items) 0)) (not (eqb (leading m.items) (leading n.items))) v in
        let l : leading n.items ≡ r.code = eqb-true _ _ (sym (leads n.items (not-true _ w) r.code) ∙ c) in
        leads m.items (not-true _ u) r.code ∙ rw (sym l) (not-true _ d)
    codes false k q e c = clash (sym k ∙ q)

    go : (t : Bool) → eqb m.kind r.kind ≡ t → n.kind ≡ r.kind → of_code n.items r.code ≡ true → (t && of_code m.items r.code) ≡ false
    go true q k c = codes (eqb m.kind n.kind) (eq-eqb _ _ (eqb-true _ _ q ∙ sym k)) refl e c
    go false q k c = refl

unfoldable pub distinct : List Form → Bool
distinct [] = true
distinct (m ∷ ms) = all (differ m) ms && distinct ms

pub its_form : (r : Plain) {m : Form} {ms : List Form} → Memᴰ m ms → distinct ms ≡ true → is_of r m ≡ true → form_for r ms ≡ some m
unfolding distinct form_for
its_form r (Memᴰ.head {x = n} {xs = ms} e) d o = let q : is_of r n ≡ true = rw (sym e) o in rw (q, e)
its_form r {m} (Memᴰ.tail {x = n} {xs = ms} i) d o =
    let (u, v) = both (all (differ n) ms) (distinct ms) d in
    rw (not_its r n m (all_member (differ n) i u) o) (its_form r i v o)

-- items that ask nothing of the record
unfoldable pub unasking : List Item → Bool
unasking [] = true
unasking (i ∷ is) = eqb (asked i) 0 && (eqb (skip i) 0 && unasking is)

pub holds_nobody : (label lacks : List ℕ) (r : Plain) → r.kind ≡ 0 → (is : List Item) → unasking is ≡ true → holds_all 0 label lacks is r ≡ true → holds_all 0 label lacks is nobody ≡ true
unfolding holds_all unasking part
holds_nobody label lacks r k [] u h = refl
holds_nobody label lacks r k (i ∷ is) u h =
    let (p, q) = both (eqb (asked i) 0) (eqb (skip i) 0 && unasking is) u in
    let (s, t) = both (eqb (skip i) 0) (unasking is) q in
    let (v, w) = both (holds label lacks r i) (holds_all (omitted r i is) label lacks is r) h in
    let same : part (asked i) nobody ≡ part (asked i) r = rw (eqb-true (asked i) 0 p) in
    let w0 : holds_all 0 label lacks is r ≡ true = rw (none_omitted i s r is) at w in
    rw ((alike label lacks nobody r nobody i same).holds (sym k), v, none_omitted i s nobody is) (holds_nobody label lacks r k is t w0)
