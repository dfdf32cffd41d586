-- When records fit the blocks that are open: by what the innermost block does with the first of them, as the definition has it.
use Prim.Native.Nat.{ℕ}
use mathlib.Core.Path.{◌≡◌, refl, sym, ap, ◌∙◌}
use mathlib.Core.Bool.{Bool, true, false, cond, ◌&&◌}
use mathlib.Core.List.{List, [], ◌∷◌}
use Rattle.word.proofs.Words.{clash, both}
use Rattle.grammar.specs.Grammar.{Block, Row, Body, keyed, worded, options, parts, counted}
use Rattle.grammar.specs.Table.{body}
use Rattle.grammar.specs.Engine.{Maybe, none, some, Frame}
use Rattle.grammar.specs.Turns.{state, shift, become}
use Rattle.render.specs.Plain.{Plain}
use Rattle.render.specs.Forms.{Form}
use Rattle.render.specs.Lines.{on_line, owns, form_in, settled_by, settled, taken_by, taking, entered, after}
use Rattle.render.specs.Fit.{takes, ends_before, may_end, last_word, begin_word, comes, ends, admits, all_end, fit_from}
use Rattle.render.proofs.Stands.{has_last}
use Rattle.render.proofs.Opened.{is_options, options_over, no_option}

-- the word that comes next where these records are still to come
abbrev pub coming : List (Frame ℕ) → List Plain → ℕ
coming fs [] = ends fs
coming fs (r ∷ rs) = comes fs r

-- the first of the records, if there is one, is another block's
abbrev pub Foreign : Frame ℕ → List Plain → Type 0
Foreign f [] = Unit {0}
Foreign f (r ∷ rs) = owns f r ≡ false

-- THE BLOCK HAS ENDED

pub fit_ended : (v : ℕ) (f : Frame ℕ) (fs : List (Frame ℕ)) (ps : List Plain) → Foreign f ps → may_end f (coming fs ps) ≡ true
    → fit_from (state v fs) ps ≡ true → fit_from (state v (f ∷ fs)) ps ≡ true
unfolding fit_from all_end admits after
fit_ended v f fs [] o e h = rw e h
fit_ended v f fs (r ∷ rs) o e h = rw (o, e) h

pub coming_last : (f : Frame ℕ) (fs : List (Frame ℕ)) (ps : List Plain) → Foreign f ps → coming (f ∷ fs) ps ≡ last_word (body f.block)
coming_last f fs [] o = refl
coming_last f fs (r ∷ rs) o = rw o

-- THE BLOCK HAS THE RECORD

pub fit_given : (v : ℕ) (f : Frame ℕ) (fs : List (Frame ℕ)) (r : Plain) (rs : List Plain) (m : Form) → owns f r ≡ true → form_in f r ≡ some m → takes v f r (some m) ≡ true
    → fit_from (shift m.move r.kind r.at r.name r.x v f fs) rs ≡ true → fit_from (state v (f ∷ fs)) (r ∷ rs) ≡ true
unfolding fit_from admits after
fit_given v f fs r rs m o e t h = rw (o, e, e, t) h

pub comes_given : (f : Frame ℕ) (fs : List (Frame ℕ)) (r : Plain) (m : Form) → owns f r ≡ true → form_in f r ≡ some m → comes (f ∷ fs) r ≡ begin_word (some m)
comes_given f fs r m o e = rw (o, e, e)

-- ITS OPTIONS ARE OVER

settled_plain : (f : Frame ℕ) (d : Body) → is_options d ≡ false → settled_by f d ≡ f
settled_plain f (keyed n rows) e = refl
settled_plain f (worded rows) e = refl
settled_plain f (options rows b) e = clash e
settled_plain f (parts k is) e = refl
settled_plain f (counted k is) e = refl

pub last_plain : (d : Body) → has_last d ≡ true → is_options d ≡ false
last_plain (keyed n rows) e = refl
last_plain (worded rows) e = refl
last_plain (options rows b) e = clash (sym e)
last_plain (parts k is) e = refl
last_plain (counted k is) e = refl

pub lines_plain : (d : Body) → on_line d ≡ false → is_options d ≡ false
unfolding on_line
lines_plain (keyed n rows) e = refl
lines_plain (worded rows) e = refl
lines_plain (options rows b) e = clash e
lines_plain (parts k is) e = refl
lines_plain (counted k is) e = refl

-- a block without options ends as it is
pub may_end_lem : (f : Frame ℕ) (w : ℕ) → is_options (body f.block) ≡ false → ends_before w f (body f.block) ≡ true → may_end f w ≡ true
may_end_lem f w e h = rw (settled_plain f (body f.block) e) h

module _ (f : Frame ℕ) (c : Block) (rows : List Row) (e : body f.block ≡ options rows c) where
  settled_become : settled f ≡ settled (become c f)
  settled_become = ap (settled_by f) e ∙ sym (settled_plain (become c f) (body c) (options_over f.block c rows e))

  -- a record that the block after its options takes is none of them
  taking_become : (v : ℕ) (r : Plain) → takes v (taking (become c f) r) r (form_in (taking (become c f) r) r) ≡ true → taking f r ≡ taking (become c f) r
  taking_become v r t = go (form_in (become c f) r) refl t
    where
      p : taken_by (become c f) none ≡ become c f
      p = settled_plain (become c f) (body c) (options_over f.block c rows e)

      go : (o : Maybe Form) → form_in (become c f) r ≡ o → takes v (taken_by (become c f) o) r (form_in (taken_by (become c f) o) r) ≡ true → taking f r ≡ taken_by (become c f) o
      go none h t = clash (sym (rw (p, h) at t))
      go (some m) h t = rw (no_option f.block c rows e r m h) (ap (settled_by f) e)

  pub fit_become : (v : ℕ) (fs : List (Frame ℕ)) (ps : List Plain) → fit_from (state v (become c f ∷ fs)) ps ≡ true → fit_from (state v (f ∷ fs)) ps ≡ true
  unfolding fit_from all_end admits after
  fit_become v fs [] h = rw settled_become h
  fit_become v fs (r ∷ rs) h = go (owns f r) h
    where
      Holds : Bool → Frame ℕ → Frame ℕ → Type 0
      Holds o g h = (cond o (takes v g r (form_in g r)) (ends_before (comes fs r) h (body h.block) && admits v fs r) && fit_from (cond o (entered v g fs r (form_in g r)) (after v fs r)) rs) ≡ true

      go : (o : Bool) → Holds o (taking (become c f) r) (settled (become c f)) → Holds o (taking f r) (settled f)
      go true h = rw (taking_become v r (both _ _ h).0) h
      go false h = rw settled_become h
