-- THE TEXT IS LAID OUT AS THE RECORDS SAY: what is written goes through the open blocks, which are the owners of what comes next, so
-- each line is as deep as its record has owners, and each END as deep as the record whose block it ends.
use Prim.Native.Nat.{ℕ, suc, ◌≤◌}
use Prim.Native.String.{String}
use mathlib.Core.Path.{◌≡◌, refl, sym, ap, subst, ◌∙◌}
use mathlib.Core.Bool.{Bool, true, false, cond, ◌&&◌, false≢true}
use mathlib.Core.List.{List, [], ◌∷◌, ◌++◌, append_assoc}
use native.Mathlib.Omega.{arith}
use borrow.Author.Tests.{eqb-true, eq-eqb, not-true}
use lib.Dec.{eqb}
use lib.ListN.{length}
use Rattle.text.specs.Text.{bytes}
use Rattle.lexer.specs.Kinds as Kind
use Rattle.record.specs.declared.Record.{Record}
use Rattle.word.proofs.Words.{both}
use Rattle.grammar.specs.Grammar.{Library, Move, stay, enter, named, version, Body, keyed, worded, options, parts, counted}
use Rattle.grammar.specs.Table.{body}
use Rattle.grammar.specs.Engine.{Maybe, none, some, Frame}
use Rattle.grammar.specs.Turns.{State, counting, shift}
use Rattle.grammar.specs.Reading.{start, records, reading}
use Rattle.render.specs.Pieces.{said, Piece, newline}
use Rattle.render.specs.Plain.{Plain, aside}
use Rattle.render.specs.Says.{says_all}
use Rattle.render.specs.Forms.{Form, begins as begins_with, said_in}
use Rattle.render.specs.Lines.{spaced, indented, on_line, same, owns, form_in, settled_by, settled, settling, closing, end_all, taken_by, taking, before, goes_on, statement, entered, pieces, after, lines}
use Rattle.render.specs.Fit.{takes, may_end, comes, admits, fit_from, indexed, is_fit, Fit}
use Rattle.render.specs.Layout.{closes_with_end, chain, depth, latest, Part, begins, goes, last, part_of, end_of, ends_up_to, layout, Words, Laid}
use Rattle.render.proofs.Settled.{settled_keeps}
use Rattle.render.proofs.OwnersOpen.{open_line, top, Below, Opener, Around, Owned, chain_none, depth_open, top_below, owner_below, other, chain_more, owned_more, owned_raised, owned_settled, owned_opened}
use Rattle.render.proofs.LineKinds.{on_line_lem, first_word, opens_for, opens_here, opens_with, after_options}
use Rattle.render.proofs.LaidLines.{ended, then_indented, then_end, chain_length, then_closing, then_library}
use Rattle.render.proofs.Theorems.{reading_fit}

same_place : (a b : Maybe ℕ) → same a b ≡ true → b ≡ a
same_place none none e = refl
same_place none (some q) e = absurd (false≢true e)
same_place (some p) none e = absurd (false≢true e)
same_place (some p) (some q) e = ap some (sym (eqb-true p q e))

-- THE OPEN BLOCKS

-- the open blocks after the records qs, where the next is at k: which blocks end is told by the chain of the latest record
record Standing (k : ℕ) (qs : List Plain) (fs : List (Frame ℕ)) : Type 0 where
  bound : ℕ
  within : bound ≤ k
  owned : Owned bound qs fs
  ended : (o : Maybe ℕ) → Below bound o → ends_up_to qs o (chain qs (latest qs)) ≡ ends_up_to qs o (chain qs (top fs))

module _ (n : ℕ) (qs : List Plain) (r : Plain) (l : n ≤ r.at) where
  own_chain : chain (r ∷ qs) (some r.at) ≡ r ∷ chain qs r.owner
  unfolding chain
  own_chain = rw (eq-eqb r.at r.at refl)

  passed : (o : Maybe ℕ) (c : List Plain) → closes_with_end r.kind ≡ false → Below n o → ends_up_to (r ∷ qs) o (r ∷ c) ≡ ends_up_to (r ∷ qs) o c
  unfolding ends_up_to
  passed o c u w = rw (other n r l o w, u)

  -- a record that opens no block ends none
  no_end : (a : Maybe ℕ) → r.owner ≡ a → Below n a → closes_with_end r.kind ≡ false → (o : Maybe ℕ) → Below n o
      → ends_up_to (r ∷ qs) o (chain (r ∷ qs) (some r.at)) ≡ ends_up_to (r ∷ qs) o (chain (r ∷ qs) a)
  no_end a e b u o w = ap (ends_up_to (r ∷ qs) o) own_chain ∙ passed o (chain qs r.owner) u w ∙ ap (ends_up_to (r ∷ qs) o) (ap (chain qs) e ∙ sym (chain_more n qs r l a b))

  shifted : (mv : Move) (v : ℕ) (g : Frame ℕ) (fs : List (Frame ℕ)) → r.owner ≡ g.at → Below n g.at → opens_for (body g.block) r.kind mv ≡ true → Owned n qs (g ∷ fs)
      → Standing (suc r.at) (r ∷ qs) (shift mv r.kind r.at r.name r.x v g fs).blocks
  shifted stay v g fs e b u h = record {
    bound = n;
    within = omega arith;
    owned = owned_more n qs r l (g ∷ fs) h;
    ended = no_end g.at e b (not-true (closes_with_end r.kind) u);
  }
  shifted (enter c ks) v g fs e b u h =
      let (p, q) = opens_with (body g.block) r.kind c u in
      record {
        bound = suc r.at;
        within = omega arith;
        owned = (owned_opened n qs r c (counting r.kind g) fs l e p q h, owned_raised n (suc r.at) (r ∷ qs) (omega arith) (g ∷ fs) (owned_more n qs r l (g ∷ fs) h));
        ended = λ o b. refl;
      }
  shifted (named c ks) v g fs e b u h =
      let (p, q) = opens_with (body g.block) r.kind c u in
      record {
        bound = suc r.at;
        within = omega arith;
        owned = (owned_opened n qs r c (counting r.kind g) fs l e p q h, owned_raised n (suc r.at) (r ∷ qs) (omega arith) (g ∷ fs) (owned_more n qs r l (g ∷ fs) h));
        ended = λ o b. refl;
      }
  shifted version v g fs e b u h = record {
    bound = n;
    within = omega arith;
    owned = owned_more n qs r l (g ∷ fs) h;
    ended = no_end g.at e b (not-true (closes_with_end r.kind) u);
  }

-- BLOCKS THAT END

module _ (n : ℕ) (qs : List Plain) where
  ends_around : (f : Frame ℕ) (fs : List (Frame ℕ)) (p : ℕ) (k : Opener n qs f.block fs p) (o : Maybe ℕ) → same (some p) o ≡ false
      → ends_up_to qs o (chain qs (some p)) ≡ end_of qs k.opener ++ ends_up_to qs o (chain qs (top fs))
  unfolding ends_up_to
  ends_around f fs p k o e = rw (k.chained, k.place, e)

  -- none ends up to the block of the owner
  none_ends : (f : Frame ℕ) (fs : List (Frame ℕ)) (r : Plain) → Owned n qs (f ∷ fs) → owns f r ≡ true → ends_up_to qs r.owner (chain qs f.at) ≡ []
  unfolding ends_up_to
  none_ends f fs r h e = go f.at h e
    where
      go : (a : Maybe ℕ) → Around n qs f.block fs a (Owned n qs fs) → same a r.owner ≡ true → ends_up_to qs r.owner (chain qs a) ≡ []
      go none h e = rw (chain_none qs)
      go (some p) h e = rw (h.0.chained, h.0.place, e)

  -- the innermost block ends, and then what is around it goes on
  then_around : (f : Frame ℕ) (fs : List (Frame ℕ)) (p : ℕ) (o : Maybe ℕ) (es : List Part) (ps : List Piece) → Opener n qs f.block fs p → Owned n qs fs → same (some p) o ≡ false
      → Laid (ends_up_to qs o (chain qs (top fs)) ++ es) (open_line fs) ps → Laid (ends_up_to qs o (chain qs (some p)) ++ es) (on_line (body f.block)) (closing f fs ++ ps)
  then_around f fs p o es ps k h e g =
      rw (ends_around f fs p k o e, append_assoc (end_of qs k.opener)) (then_closing n qs f fs p k h _ ps (subst (λ c. Laid (ends_up_to qs o (chain qs (top fs)) ++ es) c ps) k.broken g))

  library_ends : (f : Frame ℕ) (fs : List (Frame ℕ)) → fs ≡ [] → f.block ≡ Library
      → Laid (ends_up_to qs none (chain qs none) ++ (last ∷ [])) (on_line (body f.block)) (closing f fs ++ end_all fs)
  unfolding end_all ends_up_to on_line
  library_ends f fs e u = rw (e, chain_none qs, ap (λ b. on_line (body b)) u) (then_library n qs f u)

  all_ended : (fs : List (Frame ℕ)) → Owned n qs fs → Laid (ends_up_to qs none (chain qs (top fs)) ++ (last ∷ [])) (open_line fs) (end_all fs)
  unfolding end_all
  all_ended [] h = absurd h
  all_ended (f ∷ fs) h = go f.at h (all_ended fs)
    where
      go : (a : Maybe ℕ) → Around n qs f.block fs a (Owned n qs fs)
          → (Owned n qs fs → Laid (ends_up_to qs none (chain qs (top fs)) ++ (last ∷ [])) (open_line fs) (end_all fs))
          → Laid (ends_up_to qs none (chain qs a) ++ (last ∷ [])) (on_line (body f.block)) (closing f fs ++ end_all fs)
      go none h ih = library_ends f fs h.0 h.1
      go (some p) h ih = then_around f fs p none _ _ h.0 h.1 refl (ih h.1)

-- RECORDS

-- the line of options ends, or there is none
then_settled : (f : Frame ℕ) (es : List Part) (ps : List Piece) → Laid es (on_line (body (settled f).block)) ps
    → Laid es (on_line (body f.block)) (settling (body f.block) ++ ps)
unfolding on_line
then_settled f es ps = go (body f.block) refl
  where
    go : (d : Body) → body f.block ≡ d → Laid es (on_line (body (settled_by f d).block)) ps → Laid es (on_line d) (settling d ++ ps)
    go (keyed n rs) e h = rw e at h
    go (worded rs) e h = rw e at h
    go (options rs c) e h = then_end es ps (subst (λ b. Laid es b ps) (after_options f.block rs c e) h)
    go (parts k is) e h = rw e at h
    go (counted k is) e h = rw e at h

-- what a form that a word begins says
begun : (label : List ℕ) (m : Form) (r : Plain) (w : String) (ws : List String) → m.begin ≡ w ∷ ws
    → said_in label m r ≡ said Kind.name (bytes w) ∷ (begins_with ws ++ says_all 0 label m.items r)
unfolding said_in begins_with
begun label m r w ws e = rw e

then_statement : (qs : List Plain) (r : Plain) (g : Frame ℕ) (m : Form) (d : ℕ) (es : List Part) (ps : List Piece)
    → owns g r ≡ true → form_in g r ≡ some m → depth qs r ≡ d → Laid es (goes_on g m.move) ps
    → Laid (part_of qs r ∷ es) (on_line (body g.block)) (statement d g r (some m) ++ ps)
then_statement qs r g m d es ps o e z h = rw (append_assoc, on_line_lem g r m e, z) (begin (on_line (body g.block)) refl _ (end (goes_on g m.move) h))
  where
    end : (on : Bool) → Laid es on ps → Laid es true (cond on [] (newline ∷ []) ++ ps)
    end true h = h
    end false h = ended false es ps h

    begin : (c : Bool) → on_line (body g.block) ≡ c → (us : List Piece) → Laid es true us
        → Laid (cond c (goes r) (begins d r) ∷ es) c (cond c (spaced (said_in g.label m r)) (indented d (said_in g.label m r)) ++ us)
    begin true u us h = (said_in g.label m r, us, refl, record { block = g; form = m; owned = o; formed = e; words = refl }, h)
    begin false u us h =
        let (w, ws, k) = first_word g r m e u in
        let b = begun g.label m r w ws k in
        rw b (then_indented es us d (Words r) _ _ (record { block = g; form = m; owned = o; formed = e; words = sym b }) h)

-- `rest` is what follows in each state that fits
module _ (n : ℕ) (qs : List Plain) (r : Plain) (l : n ≤ r.at) (v : ℕ) (es : List Part) (rest : State ℕ → List Piece) (fits : State ℕ → Bool)
    (follows : (s : State ℕ) → fits s ≡ true → Standing (suc r.at) (r ∷ qs) s.blocks → Laid es (open_line s.blocks) (rest s)) where
  then_shifted : (g : Frame ℕ) (fs : List (Frame ℕ)) (mv : Move) → r.owner ≡ g.at → Below n g.at → opens_for (body g.block) r.kind mv ≡ true → Owned n qs (g ∷ fs)
      → fits (shift mv r.kind r.at r.name r.x v g fs) ≡ true → Laid es (goes_on g mv) (rest (shift mv r.kind r.at r.name r.x v g fs))
  then_shifted g fs stay e b u h f = follows _ f (shifted n qs r l stay v g fs e b u h)
  then_shifted g fs (enter c ks) e b u h f = follows _ f (shifted n qs r l (enter c ks) v g fs e b u h)
  then_shifted g fs (named c ks) e b u h f = follows _ f (shifted n qs r l (named c ks) v g fs e b u h)
  then_shifted g fs version e b u h f = follows _ f (shifted n qs r l version v g fs e b u h)

  then_entered : (g : Frame ℕ) (fs : List (Frame ℕ)) (o : Maybe Form) → form_in g r ≡ o → Owned n qs (g ∷ fs) → owns g r ≡ true → Below n g.at
      → takes v g r o ≡ true → fits (entered v g fs r o) ≡ true → Laid (part_of qs r ∷ es) (on_line (body g.block)) (statement (length fs) g r o ++ rest (entered v g fs r o))
  then_entered g fs none e h w b t f = absurd (false≢true t)
  then_entered g fs (some m) e h w b t f =
      let a = same_place g.at r.owner w in
      then_statement qs r g m (length fs) es _ w e (ap (chain_length qs) a ∙ depth_open n qs g fs h) (then_shifted g fs m.move a b (opens_here g r m e) h f)

  then_taken : (f : Frame ℕ) (fs : List (Frame ℕ)) (o : Maybe Form) → Owned n qs (f ∷ fs) → owns f r ≡ true → Below n f.at
      → takes v (taken_by f o) r (form_in (taken_by f o) r) ≡ true → fits (entered v (taken_by f o) fs r (form_in (taken_by f o) r)) ≡ true
      → Laid (part_of qs r ∷ es) (on_line (body f.block))
      (before f o ++ (statement (length fs) (taken_by f o) r (form_in (taken_by f o) r) ++ rest (entered v (taken_by f o) fs r (form_in (taken_by f o) r))))
  then_taken f fs none h w b t z =
      let a = sym (settled_keeps f).1 in
      then_settled f (part_of qs r ∷ es) (statement (length fs) (settled f) r (form_in (settled f) r) ++ rest (entered v (settled f) fs r (form_in (settled f) r)))
      (then_entered (settled f) fs (form_in (settled f) r) refl (owned_settled n qs f fs h) (subst (λ o. same o r.owner ≡ true) a w) (subst (Below n) a b) t z)
  then_taken f fs (some m) h w b t z = then_entered f fs (form_in f r) refl h w b t z

  then_record : (fs : List (Frame ℕ)) → Owned n qs fs → admits v fs r ≡ true → fits (after v fs r) ≡ true
      → Laid (ends_up_to qs r.owner (chain qs (top fs)) ++ (part_of qs r ∷ es)) (open_line fs) (pieces fs r ++ rest (after v fs r))
  unfolding pieces after admits
  then_record [] h a z = absurd h
  then_record (f ∷ fs) h a z = go (owns f r) refl a z (then_record fs)
    where
      out : (p : Maybe ℕ) → Around n qs f.block fs p (Owned n qs fs) → same p r.owner ≡ false → admits v fs r ≡ true → (ps : List Piece)
          → (Owned n qs fs → Laid (ends_up_to qs r.owner (chain qs (top fs)) ++ (part_of qs r ∷ es)) (open_line fs) ps)
          → Laid (ends_up_to qs r.owner (chain qs p) ++ (part_of qs r ∷ es)) (on_line (body f.block)) (closing f fs ++ ps)
      out none h e a ps ih = absurd (false≢true (rw h.0 at a))
      out (some p) h e a ps ih = then_around n qs f fs p r.owner _ ps h.0 h.1 e (ih h.1)

      go : (c : Bool) → owns f r ≡ c → cond c (takes v (taking f r) r (form_in (taking f r) r)) (may_end f (comes fs r) && admits v fs r) ≡ true
          → fits (cond c (entered v (taking f r) fs r (form_in (taking f r) r)) (after v fs r)) ≡ true
          → (Owned n qs fs → admits v fs r ≡ true → fits (after v fs r) ≡ true
          → Laid (ends_up_to qs r.owner (chain qs (top fs)) ++ (part_of qs r ∷ es)) (open_line fs) (pieces fs r ++ rest (after v fs r)))
          → Laid (ends_up_to qs r.owner (chain qs f.at) ++ (part_of qs r ∷ es)) (on_line (body f.block))
          (cond c (before f (form_in f r) ++ statement (length fs) (taking f r) r (form_in (taking f r) r)) (closing f fs ++ pieces fs r)
          ++ rest (cond c (entered v (taking f r) fs r (form_in (taking f r) r)) (after v fs r)))
      go true e a z ih = rw (append_assoc, none_ends n qs f fs r h e) (then_taken f fs (form_in f r) h e (top_below n qs (f ∷ fs) h) a z)
      go false e a z ih =
          let d = (both (may_end f (comes fs r)) (admits v fs r) a).1 in
          rw (append_assoc (closing f fs)) (out f.at h e d _ (λ k. ih k d z))

from_state : (rs : List Plain) (s : State ℕ) (qs : List Plain) (k : ℕ) → indexed k rs ≡ true → fit_from s rs ≡ true → Standing k qs s.blocks
    → Laid (layout qs rs) (open_line s.blocks) (lines s rs)
unfolding lines layout fit_from indexed
from_state [] s qs k i f h = rw (h.ended none tt) (all_ended h.bound qs s.blocks h.owned)
from_state (r ∷ rs) s qs k i f h =
    let (e, j) = both (eqb r.at k) (indexed (suc k) rs) i in
    let z = eqb-true r.at k e in
    let l : h.bound ≤ r.at = let w = h.within in omega arith in
    let (a, g) = both (admits s.version s.blocks r) (fit_from (after s.version s.blocks r) rs) f in
    rw (h.ended r.owner (owner_below h.bound qs s.version s.blocks r h.owned a))
    (then_record h.bound qs r l s.version (layout (r ∷ qs) rs) (λ t. lines t rs) (λ t. fit_from t rs)
    (λ t u w. from_state rs t (r ∷ qs) (suc r.at) (subst (λ m. indexed (suc m) rs ≡ true) (sym z) j) u w) s.blocks h.owned a g)

-- EACH LINE IS AS DEEP AS ITS RECORD HAS OWNERS: the text of records that fit is laid out as they say
pub laid_out : (rs : List Plain) → Fit rs → Laid (layout [] rs) false (lines start rs)
unfolding is_fit on_line
laid_out rs fit =
    let (i, f) = both (indexed 0 rs) (fit_from start rs) fit in
    from_state rs start [] 0 i f (record { bound = 0; within = omega arith; owned = (refl, refl); ended = λ o b. refl })

-- and so is that of every reading
pub reading_laid_out : (s : List ℕ) (rs : List Record) → reading s ≡ records rs → Laid (layout [] (aside s rs)) false (lines start (aside s rs))
reading_laid_out s rs e = laid_out (aside s rs) (reading_fit s rs e)
