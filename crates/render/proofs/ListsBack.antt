-- The tokens of a list that fits are read as its records: blocks that do not have a record end one by one, its statement is read where
-- its owner is innermost, and what is open then is again the same to the writer and to the reader.
use Prim.Native.Nat.{ℕ, suc}
use mathlib.Core.Path.{◌≡◌, refl, sym, ap, subst, ◌∙◌}
use mathlib.Core.Bool.{Bool, true, false, cond, ◌&&◌, false≢true}
use mathlib.Core.List.{List, [], ◌∷◌, ◌++◌}
use native.Mathlib.Omega.{arith}
use borrow.Author.Tests.{eqb-true}
use lib.Dec.{eqb}
use lib.ListN.{length, length-append}
use Rattle.word.proofs.Words.{both}
use Rattle.grammar.specs.Tokens.{Ahead}
use Rattle.grammar.specs.Table.{body}
use Rattle.grammar.specs.Engine.{Maybe, none, some, Rec, Frame}
use Rattle.grammar.specs.Turns.{State, state, shift, label_of, read, more}
use Rattle.grammar.specs.Reading.{Mark}
use Rattle.grammar.proofs.Falls.{read_on}
use Rattle.render.specs.Pieces.{Said, tokens}
use Rattle.render.specs.Stripped.{finish}
use Rattle.render.specs.Plain.{Plain}
use Rattle.render.specs.Forms.{Form, forms_in, form_for, said_in}
use Rattle.render.specs.Lines.{owns, form_in, settled, settling, closing, end_all, taken_by, taking, before, statement, entered, pieces, after, lines}
use Rattle.render.specs.Fit.{takes, may_end, comes, ends, admits, all_end, fit_from, indexed}
use Rattle.render.proofs.Stands.{standing, Like, follows, ends_no_name, last_of}
use Rattle.render.proofs.Settled.{settled_keeps}
use Rattle.render.proofs.LineTokens.{tokens_then, tokens_closing, tokens_statement, statement_lexable, end_all_lexable, pieces_lexable, lines_lexable, follows_more}
use Rattle.render.proofs.StepsBack.{statement_back}
use Rattle.render.proofs.Alike.{Owner, Matches, AllMatch, Corresponds, Alike}
use Rattle.render.proofs.Turns.{given_reads, none_open}
use Rattle.render.proofs.NextWord.{is_back_word, Heads, heads_comes, heads_ends}
use Rattle.render.proofs.AfterItems.{items_follow}
use Rattle.render.proofs.Matched.{same_eq, settled_match, may_end_match, takes_match, shift_match}
use Rattle.render.proofs.BlocksBack.{settle_back, closing_back}

-- all that stands ahead where these records are still to be read
abbrev ahead : State ℕ → List Plain → List Said
ahead s rs = tokens (lines s rs) ++ (finish ∷ [])

ahead_follows : (s : State ℕ) (rs : List Plain) → follows [] (ahead s rs) ≡ true
unfolding ends_no_name
ahead_follows s rs = follows_more (tokens (lines s rs)) (finish ∷ []) (lines_lexable s rs) refl

-- the reader in the state t reads the record r from a on, where the writer is then in the state s and the records rs come next
abbrev Reads : List ℕ → State ℕ → Plain → State ℕ → List Plain → Ahead ℕ Mark → Type 0
Reads seen t r s rs a =
    (q : Rec ℕ) × (u : State ℕ) × (b : Ahead ℕ Mark) × (read_on t a ≡ more q (read_on u b)) × Like q r × Owner seen r.owner q.owner
    × Corresponds (seen ++ (q.at ∷ [])) s u × (standing b ≡ ahead s rs)

reads_from : (seen : List ℕ) (t u : State ℕ) (r : Plain) (s : State ℕ) (rs : List Plain) (a b : Ahead ℕ Mark) → read_on t a ≡ read_on u b → Reads seen u r s rs b → Reads seen t r s rs a
reads_from seen t u r s rs a b p h = (h.0, h.1, h.2, p ∙ h.3, h.4, h.5, h.6, h.7)

-- a record, and then others
reads_on : (v : ℕ) (t : State ℕ) (a : Ahead ℕ Mark) (q : Rec ℕ) (u : State ℕ) (b : Ahead ℕ Mark) (qs : List (Rec ℕ))
    → v ≡ t.version → read_on (state v t.blocks) a ≡ more q (read_on u b) → read_on u b ≡ read qs → read_on t a ≡ read (q ∷ qs)
reads_on v t a q u b qs e p g = subst (λ w. read_on (state w t.blocks) a ≡ read (q ∷ qs)) e (p ∙ ap (more q) g)

-- BLOCKS END

block_ends : (seen : List ℕ) (v w : ℕ) (f g : Frame ℕ) (fs gs : List (Frame ℕ)) (a : Ahead ℕ Mark) (us : List Said) → Matches seen f g
    → may_end f w ≡ true → standing a ≡ tokens (closing f fs) ++ us → follows [] us ≡ true → (is_back_word w ≡ true → Heads w us)
    → (b : Ahead ℕ Mark) × (read_on (state v (g ∷ gs)) a ≡ read_on (state v gs) b) × (standing b ≡ us)
block_ends seen v w f g fs gs a us m e s k h =
    closing_back v w g gs a us (sym (may_end_match seen f g m w) ∙ e)
    (s ∙ tokens_closing f fs us ∙ (λ i. tokens (settling (body (m.block i))) ++ (last_of (m.label i) (body ((settled_match seen f g m).block i)) ++ us))) k h

all_ends : (seen : List ℕ) (v : ℕ) (fs gs : List (Frame ℕ)) (a : Ahead ℕ Mark) → AllMatch seen fs gs → all_end fs ≡ true
    → standing a ≡ tokens (end_all fs) ++ (finish ∷ []) → read_on (state v gs) a ≡ read []
unfolding all_end end_all ends_no_name
all_ends seen v [] [] a m e s = none_open v a
all_ends seen v [] (g ∷ gs) a m e s = absurd m
all_ends seen v (f ∷ fs) [] a m e s = absurd m
all_ends seen v (f ∷ fs) (g ∷ gs) a m e s =
    let us = tokens (end_all fs) ++ (finish ∷ []) in
    let (p, q) = both (may_end f (ends fs)) (all_end fs) e in
    let (b, t, d) = block_ends seen v (ends fs) f g fs gs a us m.0 p (s ∙ tokens_then (closing f fs) (end_all fs) (finish ∷ []))
    (follows_more (tokens (end_all fs)) (finish ∷ []) (end_all_lexable fs) refl) (heads_ends fs (finish ∷ [])) in
    t ∙ all_ends seen v fs gs b m.1 q d

-- A RECORD

module _ (seen : List ℕ) (v : ℕ) (r : Plain) (rs : List Plain) (i : r.at ≡ length seen) where
  -- its statement, where its owner is innermost and options are over unless it is one
  taken : (f g : Frame ℕ) (fs gs : List (Frame ℕ)) (o : Maybe Form) (a : Ahead ℕ Mark) → Matches seen f g → AllMatch seen fs gs
      → f.at ≡ r.owner → form_in f r ≡ o → takes v f r o ≡ true
      → fit_from (entered v f fs r o) rs ≡ true → standing a ≡ tokens (statement (length fs) f r o) ++ ahead (entered v f fs r o) rs
      → Reads seen (state v (g ∷ gs)) r (entered v f fs r o) rs a
  taken f g fs gs none a m ms p e t k s = absurd (false≢true t)
  taken f g fs gs (some n) a m ms p e t k s =
      let us = ahead (entered v f fs r (some n)) rs in
      let j : form_in g r ≡ some n = ap (λ b. form_for r (forms_in (body b))) (sym m.block) ∙ e in
      let x : standing a ≡ said_in g.label n r ++ us = s ∙ ap (λ l. l ++ us) (tokens_statement (length fs) f r n) ∙ ap (λ l. said_in l n r ++ us) m.label in
      let (q, b, c, l, z, w, d) = statement_back v g n r a us j (sym (takes_match seen f g m v r (some n)) ∙ t) x (items_follow v f fs r rs n e k) in
      let y : Owner seen r.owner q.owner = subst (Owner seen r.owner) (sym w) (subst (λ j. Owner seen j g.at) p m.at) in
      let u = shift n.move q.kind q.at (label_of q.name) q.x v g gs in
      (q, u, b, given_reads v g gs a b n.move q c, l, y, shift_match seen q r l i v f g fs gs m ms n.move, d)

  -- the line of options ends first where it has to
  owned : (f g : Frame ℕ) (fs gs : List (Frame ℕ)) (o : Maybe Form) (a : Ahead ℕ Mark) → Matches seen f g → AllMatch seen fs gs
      → f.at ≡ r.owner → takes v (taken_by f o) r (form_in (taken_by f o) r) ≡ true
      → fit_from (entered v (taken_by f o) fs r (form_in (taken_by f o) r)) rs ≡ true
      → standing a ≡ tokens (before f o ++ statement (length fs) (taken_by f o) r (form_in (taken_by f o) r)) ++ ahead (entered v (taken_by f o) fs r (form_in (taken_by f o) r)) rs
      → Reads seen (state v (g ∷ gs)) r (entered v (taken_by f o) fs r (form_in (taken_by f o) r)) rs a
  owned f g fs gs none a m ms p t k s =
      let n = form_in (settled f) r in
      let ps = statement (length fs) (settled f) r n in
      let us = ahead (entered v (settled f) fs r n) rs in
      let x = s ∙ tokens_then (settling (body f.block)) ps us ∙ ap (λ b. tokens (settling (body b)) ++ (tokens ps ++ us)) m.block in
      let (b, q, d) = settle_back v g gs a (tokens ps ++ us) x
      (follows_more (tokens ps) us (statement_lexable (length fs) (settled f) r n) (ahead_follows (entered v (settled f) fs r n) rs)) in
      reads_from seen (state v (g ∷ gs)) (state v (settled g ∷ gs)) r (entered v (settled f) fs r n) rs a b q
      (taken (settled f) (settled g) fs gs n b (settled_match seen f g m) ms ((settled_keeps f).1 ∙ p) refl t k d)
  owned f g fs gs (some n) a m ms p t k s = taken f g fs gs (form_in f r) a m ms p refl t k s

  record_back : (fs gs : List (Frame ℕ)) (a : Ahead ℕ Mark) → AllMatch seen fs gs → admits v fs r ≡ true → fit_from (after v fs r) rs ≡ true
      → standing a ≡ tokens (pieces fs r) ++ ahead (after v fs r) rs → Reads seen (state v gs) r (after v fs r) rs a
  unfolding admits pieces after
  record_back [] gs a m t k s = absurd (false≢true t)
  record_back (f ∷ fs) [] a m t k s = absurd m
  record_back (f ∷ fs) (g ∷ gs) a m t k s = go (owns f r) refl t k s (λ b. record_back fs gs b m.1)
    where
      go : (c : Bool) → owns f r ≡ c → cond c (takes v (taking f r) r (form_in (taking f r) r)) (may_end f (comes fs r) && admits v fs r) ≡ true
          → fit_from (cond c (entered v (taking f r) fs r (form_in (taking f r) r)) (after v fs r)) rs ≡ true
          → standing a ≡ tokens (cond c (before f (form_in f r) ++ statement (length fs) (taking f r) r (form_in (taking f r) r)) (closing f fs ++ pieces fs r))
          ++ ahead (cond c (entered v (taking f r) fs r (form_in (taking f r) r)) (after v fs r)) rs
          → ((b : Ahead ℕ Mark) → admits v fs r ≡ true → fit_from (after v fs r) rs ≡ true → standing b ≡ tokens (pieces fs r) ++ ahead (after v fs r) rs → Reads seen (state v gs) r (after v fs r) rs b)
          → Reads seen (state v (g ∷ gs)) r (cond c (entered v (taking f r) fs r (form_in (taking f r) r)) (after v fs r)) rs a
      go true o t k s ih = owned f g fs gs (form_in f r) a m.0 m.1 (same_eq f.at r.owner o) t k s
      go false o t k s ih =
          let us = tokens (pieces fs r) ++ ahead (after v fs r) rs in
          let (x, y) = both (may_end f (comes fs r)) (admits v fs r) t in
          let (b, q, d) = block_ends seen v (comes fs r) f g fs gs a us m.0 x (s ∙ tokens_then (closing f fs) (pieces fs r) (ahead (after v fs r) rs))
          (follows_more (tokens (pieces fs r)) (ahead (after v fs r) rs) (pieces_lexable fs r) (ahead_follows (after v fs r) rs))
          (heads_comes v fs r (ahead (after v fs r) rs) y) in
          reads_from seen (state v (g ∷ gs)) (state v gs) r (after v fs r) rs a b q (ih b y k d)

-- THE TOKENS OF A LIST THAT FITS ARE READ AS ITS RECORDS
pub list_back : (s t : State ℕ) (seen : List ℕ) (ps : List Plain) (a : Ahead ℕ Mark) → Corresponds seen s t → indexed (length seen) ps ≡ true → fit_from s ps ≡ true
    → standing a ≡ tokens (lines s ps) ++ (finish ∷ []) → (qs : List (Rec ℕ)) × (read_on t a ≡ read qs) × Alike seen ps qs
unfolding indexed fit_from lines
list_back s t seen [] a m i k e = ([], subst (λ v. read_on (state v t.blocks) a ≡ read []) m.0 (all_ends seen s.version s.blocks t.blocks a m.1 k e), tt)
list_back s t seen (r ∷ rs) a m i k e =
    let v = s.version in
    let fs = s.blocks in
    let (j, n) = both (eqb r.at (length seen)) (indexed (suc (length seen)) rs) i in
    let (x, y) = both (admits v fs r) (fit_from (after v fs r) rs) k in
    let at = eqb-true r.at (length seen) j in
    let (q, u, b, p, l, o, c, d) = record_back seen v r rs at fs t.blocks a m.1 x y (e ∙ tokens_then (pieces fs r) (lines (after v fs r) rs) (finish ∷ [])) in
    let z : length (seen ++ (q.at ∷ [])) ≡ suc (length seen) = omega (arith, length-append seen (q.at ∷ [])) in
    let (qs, g, h) = list_back (after v fs r) u (seen ++ (q.at ∷ [])) rs b c (rw z n) y d in
    (q ∷ qs, reads_on v t a q u b qs m.0 p g, (l, at, o, h))
