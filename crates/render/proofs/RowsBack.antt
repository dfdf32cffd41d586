-- The row that a record is written by is the row that its first word begins: a test of the table finds no other row with that word.
use Prim.Native.Nat.{ℕ}
use Prim.Native.String.{String}
use mathlib.Core.Path.{◌≡◌, refl, sym}
use mathlib.Core.Bool.{Bool, true, false, cond, not, ◌&&◌, ◌||◌}
use mathlib.Core.List.{List, [], ◌∷◌, ◌++◌}
use mathlib.Core.Logic.{◌⊎◌, inl, inr, ⊎_elim}
use borrow.Author.Tests.{eq-eqb, not-true}
use lib.Dec.{eqb}
use Rattle.word.specs.Words.{keys, values, words, raised, upper, same, first_where, word_of, word, is_key}
use Rattle.word.specs.Codes.{kind_values, values_in, values_of}
use Rattle.word.specs.Spelling.{spelling}
use Rattle.word.proofs.Words.{both}
use Rattle.grammar.specs.Grammar.{Block, Act, statement, close, refuse, back, up_to54, Row, Body, keyed, worded, options, parts, counted}
use Rattle.grammar.specs.Table.{body}
use Rattle.grammar.specs.Engine.{some}
use Rattle.grammar.specs.Turns.{act_for}
use Rattle.grammar.proofs.Blocks.{at_block}
use Rattle.render.specs.Plain.{Plain}
use Rattle.render.specs.Forms.{Form, form, Close, forms_of, row_forms, is_of, form_for, close_of}
use Rattle.render.proofs.Maybe.{none_some, some_eq}
use Rattle.render.proofs.Stands.{ends_no_name}
use Rattle.render.proofs.Codes.{each_value}
use Rattle.render.proofs.ItemsSpelt.{asks_code, next_asks}
use Rattle.render.proofs.WordsBack.{tied, well_spelt, key_first}
use Rattle.render.proofs.Legible.{leads, no_semi, legible}

-- A TEST OF THE TABLE

unfoldable pub legible_act : Act → Bool
legible_act (statement k is m) = legible k 0 false false is
legible_act (close is) = legible 0 0 false false is && not (ends_no_name is)
legible_act (refuse n) = true
legible_act back = true
legible_act (up_to54 act) = legible_act act

-- no row begins with the word k
unfoldable pub absent : ℕ → List Row → Bool
absent k [] = true
absent k (w ∷ ws) = not (eqb k (word w.begin)) && absent k ws

-- each row is legible and has a word of its own, a key word where t
unfoldable pub legible_rows : Bool → List Row → Bool
legible_rows t [] = true
legible_rows t (w ∷ ws) = (legible_act w.act && (not t || is_key (word w.begin))) && (absent (word w.begin) ws && legible_rows t ws)

unfoldable pub legible_body : Body → Bool
legible_body (keyed n rows) = legible_rows true rows
legible_body (worded rows) = legible_rows false rows
legible_body (options rows b) = legible_rows false rows
legible_body (parts k is) = leads no_semi 0 is && legible k 0 false false is
legible_body (counted k is) = legible k 0 false false is

pub all_legible : (b : Block) → legible_body (body b) ≡ true
unfolding legible_body legible_rows absent legible_act legible leads next_asks asks_code ends_no_name well_spelt key_first each_value tied spelling keys values words raised upper same first_where word_of is_key kind_values values_in values_of
all_legible = at_block legible_body refl

-- THE ROW OF A WORD

-- the word w begins the act in these rows, and is a key word where t
pub record Begun (t : Bool) (rows : List Row) (w : String) (act : Act) : Type 0 where
  pub key : not t || is_key (word w) ≡ true
  pub acts : (n : ℕ) → act_for n (word w) rows ≡ act
  pub legible : legible_act act ≡ true
  known : (k : ℕ) → absent k rows ≡ true → eqb k (word w) ≡ false

module _ (t : Bool) (v : Row) (ws : List Row) (s : legible_rows t (v ∷ ws) ≡ true) where
  tested : (legible_act v.act ≡ true) × (not t || is_key (word v.begin) ≡ true) × (absent (word v.begin) ws ≡ true) × (legible_rows t ws ≡ true)
  unfolding legible_rows
  tested =
      let (h, k) = both (legible_act v.act && (not t || is_key (word v.begin))) (absent (word v.begin) ws && legible_rows t ws) s in
      let (a, b) = both (legible_act v.act) (not t || is_key (word v.begin)) h in
      let (c, d) = both (absent (word v.begin) ws) (legible_rows t ws) k in
      (a, b, c, d)

  here : Begun t (v ∷ ws) v.begin v.act
  unfolding act_for absent
  here = record {
    key = tested.1;
    acts = λ n. rw (eq-eqb (word v.begin) (word v.begin) refl);
    legible = tested.0;
    known = λ k h. not-true _ (both (not (eqb k (word v.begin))) (absent k ws) h).0;
  }

  there : (w : String) (act : Act) → Begun t ws w act → Begun t (v ∷ ws) w act
  unfolding act_for absent
  there w act b = record {
    key = b.key;
    acts = λ n. rw (b.known (word v.begin) tested.2) (b.acts n);
    legible = b.legible;
    known = λ k h. b.known k (both (not (eqb k (word v.begin))) (absent k ws) h).1;
  }

-- THE ROW OF A FORM

-- the form m is that of the act, begun with the word w
abbrev pub Of : String → Bool → Act → Form → Type 0
Of w o (statement k is mv) m = m ≡ form k (w ∷ []) is mv o
Of w o (close is) m = ⊥
Of w o (refuse n) m = ⊥
Of w o back m = ⊥
Of w o (up_to54 act) m = Of w true act m

pub of_begin : (w : String) (o : Bool) (act : Act) (m : Form) → Of w o act m → m.begin ≡ w ∷ []
of_begin w o (statement k is mv) m e = rw e
of_begin w o (close is) m e = absurd e
of_begin w o (refuse n) m e = absurd e
of_begin w o back m e = absurd e
of_begin w o (up_to54 act) m e = of_begin w true act m e

pub of_old : (w : String) (act : Act) (m : Form) → Of w true act m → m.old ≡ true
of_old w (statement k is mv) m e = rw e
of_old w (close is) m e = absurd e
of_old w (refuse n) m e = absurd e
of_old w back m e = absurd e
of_old w (up_to54 act) m e = of_old w act m e

pub of_legible : (w : String) (o : Bool) (act : Act) (m : Form) → Of w o act m → legible_act act ≡ true → legible m.kind 0 false false m.items ≡ true
unfolding legible_act
of_legible w o (statement k is mv) m e s = rw e s
of_legible w o (close is) m e s = absurd e
of_legible w o (refuse n) m e s = absurd e
of_legible w o back m e s = absurd e
of_legible w o (up_to54 act) m e s = of_legible w true act m e s

module _ (r : Plain) (m : Form) where
  in_act : (w : String) (o : Bool) (act : Act) (fs : List Form) → form_for r (forms_of w o act ++ fs) ≡ some m → Of w o act m ⊎ (form_for r fs ≡ some m)
  unfolding forms_of form_for
  in_act w o (statement k is mv) fs e = go (is_of r (form k (w ∷ []) is mv o)) e
    where
      go : (t : Bool) → cond t (some (form k (w ∷ []) is mv o)) (form_for r fs) ≡ some m → (m ≡ form k (w ∷ []) is mv o) ⊎ (form_for r fs ≡ some m)
      go true e = inl (sym (some_eq e))
      go false e = inr e
  in_act w o (close is) fs e = inr e
  in_act w o (refuse n) fs e = inr e
  in_act w o back fs e = inr e
  in_act w o (up_to54 act) fs e = in_act w true act fs e

  abbrev Stated : Bool → List Row → Type 0
  Stated t rows = (w : String) × (act : Act) × Begun t rows w act × Of w false act m

  pub stated : (t : Bool) (rows : List Row) → legible_rows t rows ≡ true → form_for r (row_forms rows) ≡ some m → Stated t rows
  unfolding row_forms form_for
  stated t [] s e = absurd (none_some e)
  stated t (v ∷ ws) s e = ⊎_elim
      (λ o. (v.begin, v.act, here t v ws s, o))
      (λ e. let (w, act, b, o) = stated t ws (tested t v ws s).3 e in (w, act, there t v ws s w act b, o))
      (in_act v.begin false v.act (row_forms ws) e)

-- THE ROW OF LAST WORDS

pub closed : (t : Bool) (rows : List Row) (c : Close) → legible_rows t rows ≡ true → close_of rows ≡ some c → Begun t rows c.word (close c.items)
unfolding close_of
closed t [] c s e = absurd (none_some e)
closed t (v ∷ ws) c s e = go v.act refl e (λ e. there t v ws s c.word (close c.items) (closed t ws c (tested t v ws s).3 e))
  where
    go : (act : Act) → v.act ≡ act
        → elim act [ statement k is m ↦ close_of ws | close is ↦ some (record { word = v.begin; items = is }) | refuse n ↦ close_of ws | back ↦ close_of ws | up_to54 a ↦ close_of ws ] ≡ some c
        → (close_of ws ≡ some c → Begun t (v ∷ ws) c.word (close c.items)) → Begun t (v ∷ ws) c.word (close c.items)
    go (statement k is m) q e f = f e
    go (close is) q e f = let i = some_eq e in rw (← i, ← q) (here t v ws s)
    go (refuse n) q e f = f e
    go back q e f = f e
    go (up_to54 act) q e f = f e
