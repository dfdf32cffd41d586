-- What is read fits, turn by turn: a record that a block gives has a form in it, a block that ends may end, and where a block ends before
-- a word that is held, that word is the next one around it.
use Prim.Native.Nat.{ℕ, zero, suc, ◌<◌}
use mathlib.Core.Path.{◌≡◌, refl, sym, subst, ◌∙◌}
use mathlib.Core.Bool.{true, false}
use mathlib.Core.List.Memᴰ
use mathlib.Core.List.{List, [], ◌∷◌, map}
use native.Mathlib.Omega.{arith}
use borrow.Author.Tests.{eq-eqb}
use lib.ListN.{length}
use Rattle.word.specs.Words.{word_of}
use Rattle.word.proofs.Words.{clash}
use Rattle.grammar.specs.Tokens.{Ahead}
use Rattle.grammar.specs.Grammar.{Move, Body, keyed, worded, options, parts, counted}
use Rattle.grammar.specs.Table.{body}
use Rattle.grammar.specs.Engine.{Maybe, none, some, Rec, Frame}
use Rattle.grammar.specs.Standing.{Every}
use Rattle.grammar.specs.Turns.{Step, gives, ends, goes, backs, halts, step, State, state, label_of, shift, become, Outcome, read, stopped, more}
use Rattle.grammar.specs.Reading.{Mark}
use Rattle.grammar.proofs.Kept.{all}
use Rattle.grammar.proofs.Turned.{Turned, turn_turned, Reads}
use Rattle.grammar.proofs.Falls.{read_on, falls_emit, falls_moved}
use Rattle.grammar.proofs.Rises.{Owned, owned}
use Rattle.render.specs.Lines.{same, owns, on_line}
use Rattle.render.specs.Fit.{all_end, fit_from}
use Rattle.render.proofs.Every.{every_suf}
use Rattle.render.proofs.Stands.{Good, plain_rec, has_last}
use Rattle.render.proofs.StepsRead.{statement_read, last_read, options_read, before_read}
use Rattle.render.proofs.Turns.{not_stopped, turn_by, given_reads, become_reads, halts_reads, around_reads, none_open, rest_reads}
use Rattle.render.proofs.Opened.{leads, well_opened}
use Rattle.render.proofs.Nested.{places, open_places, elsewhere, leads_first, closed_last, Nested, nested_around, nested_become, nested_shift}
use Rattle.render.proofs.Coming.{coming, Foreign, fit_ended, coming_last, fit_given, comes_given, last_plain, lines_plain, may_end_lem, fit_become}

-- OUTCOMES

more_read : (q : Rec ℕ) (o : Outcome Mark (Rec ℕ)) (qs : List (Rec ℕ)) → more q o ≡ read qs → (rs : List (Rec ℕ)) × (o ≡ read rs) × (qs ≡ q ∷ rs)
more_read q (read rs) qs e = (rs, refl, cc)
more_read q (stopped n p) qs e = absurd (not_stopped e)

same_refl : (o : Maybe ℕ) → same o o ≡ true
same_refl none = refl
same_refl (some p) = eq-eqb p p refl

-- a record that the block gives is its own
gives_owned : (v : ℕ) (f : Frame ℕ) (a b : Ahead ℕ Mark) (m : Move) (q : Rec ℕ) → step v f a (body f.block) ≡ gives m q b → owns f (plain_rec q) ≡ true
gives_owned v f a b m q e =
    let t = subst (Turned (f ∷ []) a) (turn_by v f [] a e) (turn_turned v (f ∷ []) a) in
    rw (Memᴰ.eq_of_singleton (t.owner (f.at ∷ []) (Memᴰ.head refl, tt))) (same_refl f.at)

-- what is read in the blocks around is none of its own
foreign : (v : ℕ) (f : Frame ℕ) (fs : List (Frame ℕ)) (b : Ahead ℕ Mark) (qs : List (Rec ℕ)) → Nested (f ∷ fs) qs → read_on (state v fs) b ≡ read qs → Foreign f (map plain_rec qs)
foreign v f fs b qs s e = go qs (subst (Reads (Owned (places fs))) e (owned (places fs) (suc (length b.rest)) (state v fs) b (open_places fs)))
  where
    go : (qs : List (Rec ℕ)) → Owned (places fs) qs → Foreign f (map plain_rec qs)
    go [] h = tt
    go (q ∷ qs) h = elsewhere f fs s.place s.falls q.owner h.0

-- THE WORD HELD, where the block is one of statements with last words

leads_last : (d : Body) → leads d ≡ true → has_last d ≡ true
leads_last (keyed n rows) e = e
leads_last (worded rows) e = clash (sym e)
leads_last (options rows b) e = clash (sym e)
leads_last (parts k is) e = clash (sym e)
leads_last (counted k is) e = clash (sym e)

leads_lines : (d : Body) → leads d ≡ true → on_line d ≡ false
unfolding on_line
leads_lines (keyed n rows) e = refl
leads_lines (worded rows) e = refl
leads_lines (options rows b) e = clash (sym e)
leads_lines (parts k is) e = clash (sym e)
leads_lines (counted k is) e = clash (sym e)

module _ (v : ℕ) (a : Ahead ℕ Mark) (good : Every Good (all a)) (qs : List (Rec ℕ)) where
  held_comes : (f : Frame ℕ) (fs : List (Frame ℕ)) → leads (body f.block) ≡ true → read_on (state v (f ∷ fs)) a ≡ read qs → Nested (f ∷ fs) qs
      → coming (f ∷ fs) (map plain_rec qs) ≡ word_of a.held.bytes
  held_comes f fs l e s = go (step v f a (body f.block)) refl
    where
      n : on_line (body f.block) ≡ false
      n = leads_lines (body f.block) l

      go : (t : Step ℕ Mark (Rec ℕ)) → step v f a (body f.block) ≡ t → coming (f ∷ fs) (map plain_rec qs) ≡ word_of a.held.bytes
      go (gives m q b) h =
          let (rs, p, z) = more_read q (read_on (shift m q.kind q.at (label_of q.name) q.x v f fs) b) qs (sym (given_reads v f fs a b m q h) ∙ e) in
          let (w, i, j, k, o) = statement_read v f a m q b h good in
          rw z (comes_given f fs (plain_rec q) w (gives_owned v f a b m q h) i ∙ o n)
      go (ends b) h = coming_last f fs (map plain_rec qs) (foreign v f fs b qs s (sym (rest_reads v f fs a b h) ∙ e)) ∙ (last_read v f a b h good).2 n
      go (goes c b) h = let (rows, z) = options_read v f a b c h in clash (sym (rw z at l))
      go backs h = clash (sym (leads_last (body f.block) l) ∙ (before_read v f a h).0)
      go (halts k p) h = absurd (halts_reads v f fs a k p qs h e)

  around_comes : (fs : List (Frame ℕ)) → leads_first fs ≡ true → read_on (state v fs) a ≡ read qs → Nested fs qs → coming fs (map plain_rec qs) ≡ word_of a.held.bytes
  around_comes [] l e s = clash (sym l)
  around_comes (f ∷ fs) l e s = held_comes f fs l e s

  -- WHAT IS READ FITS

  -- if what is read from a later token on does
  abbrev Later : Type 0
  Later = (t : State ℕ) (b : Ahead ℕ Mark) (rs : List (Rec ℕ)) → length b.rest < length a.rest → read_on t b ≡ read rs → Every Good (all b)
      → Nested t.blocks rs → fit_from t (map plain_rec rs) ≡ true

  -- after the block has ended
  rest_fits : (f : Frame ℕ) (fs : List (Frame ℕ)) (b : Ahead ℕ Mark) → step v f a (body f.block) ≡ ends b → read_on (state v fs) b ≡ read qs → Nested fs qs → Later
      → fit_from (state v fs) (map plain_rec qs) ≡ true
  unfolding fit_from all_end
  rest_fits f [] b h e s later = let z : qs ≡ [] = cc (none_open v b) in rw z
  rest_fits f (g ∷ fs) b h e s later =
      let t = turn_by v f (g ∷ fs) a h in
      let m = subst (Turned (f ∷ g ∷ fs) a) t (turn_turned v (f ∷ g ∷ fs) a) in
      later (state v (g ∷ fs)) b qs (falls_moved (state v (f ∷ g ∷ fs)) a t) e (every_suf Good m.ahead good.1) s

  turn_fits : (f : Frame ℕ) (fs : List (Frame ℕ)) → read_on (state v (f ∷ fs)) a ≡ read qs → Nested (f ∷ fs) qs → Later
      → (read_on (state v fs) a ≡ read qs → Nested fs qs → fit_from (state v fs) (map plain_rec qs) ≡ true)
      → fit_from (state v (f ∷ fs)) (map plain_rec qs) ≡ true
  turn_fits f fs e s later around = go (step v f a (body f.block)) refl
    where
      go : (t : Step ℕ Mark (Rec ℕ)) → step v f a (body f.block) ≡ t → fit_from (state v (f ∷ fs)) (map plain_rec qs) ≡ true
      go (gives m q b) h =
          let u = shift m q.kind q.at (label_of q.name) q.x v f fs in
          let (rs, p, z) = more_read q (read_on u b) qs (sym (given_reads v f fs a b m q h) ∙ e) in
          let (w, i, j, k, o) = statement_read v f a m q b h good in
          let t = turn_by v f fs a h in
          let g = subst (Turned (f ∷ fs) a) t (turn_turned v (f ∷ fs) a) in
          let x = rw j at (well_opened f (plain_rec q) w i) in
          let y = later u b rs (falls_emit (state v (f ∷ fs)) a t) p (every_suf Good g.ahead good.1) (nested_shift f fs rs m q (label_of q.name) v x (rw z at s)) in
          rw z (fit_given v f fs (plain_rec q) (map plain_rec rs) w (gives_owned v f a b m q h) i k (rw j y))
      go (ends b) h =
          let r = sym (rest_reads v f fs a b h) ∙ e in
          let l = last_read v f a b h good in
          fit_ended v f fs (map plain_rec qs) (foreign v f fs b qs s r) (may_end_lem f _ (last_plain (body f.block) l.0) (l.1 _)) (rest_fits f fs b h r (nested_around f fs qs s) later)
      go (goes c b) h =
          let (rows, z) = options_read v f a b c h in
          let t = turn_by v f fs a h in
          let m = subst (Turned (f ∷ fs) a) t (turn_turned v (f ∷ fs) a) in
          fit_become f c rows z v fs (map plain_rec qs)
          (later (state v (become c f ∷ fs)) b qs (falls_moved (state v (f ∷ fs)) a t) (sym (become_reads v f fs a b c h) ∙ e) (every_suf Good m.ahead good.1) (nested_become f fs qs rows c z s))
      go backs h =
          let (x, y, z) = before_read v f a h in
          let r = sym (around_reads v f fs a h) ∙ e in
          let p = lines_plain (body f.block) y in
          let l : leads_first fs ≡ true = rw (closed_last (body f.block) p, x) at s.housed.0 in
          fit_ended v f fs (map plain_rec qs) (foreign v f fs a qs s r) (may_end_lem f _ p (rw (around_comes fs l r (nested_around f fs qs s)) z)) (around r (nested_around f fs qs s))
      go (halts n p) h = absurd (halts_reads v f fs a n p qs h e)

fits_below : (n v : ℕ) (fs : List (Frame ℕ)) (a : Ahead ℕ Mark) (qs : List (Rec ℕ)) → length a.rest < n → read_on (state v fs) a ≡ read qs → Every Good (all a)
    → Nested fs qs → fit_from (state v fs) (map plain_rec qs) ≡ true
unfolding fit_from all_end
fits_below zero v fs a qs h e g s = absurd (let z : ⊥ = omega arith in z)
fits_below (suc n) v [] a qs h e g s = let z : qs ≡ [] = cc (none_open v a) in rw z
fits_below (suc n) v (f ∷ fs) a qs h e g s = turn_fits v a g qs f fs e s
    (λ t b rs l e g s. fits_below n t.version t.blocks b rs (omega arith) e g s) (λ e s. fits_below (suc n) v fs a qs h e g s)

-- WHAT IS READ FROM NESTED BLOCKS ON FITS THEM
pub list_read : (s : State ℕ) (a : Ahead ℕ Mark) (qs : List (Rec ℕ)) → read_on s a ≡ read qs → Every Good (all a) → Nested s.blocks qs → fit_from s (map plain_rec qs) ≡ true
list_read s a qs e g h = fits_below (suc (length a.rest)) s.version s.blocks a qs (omega arith) e g h
