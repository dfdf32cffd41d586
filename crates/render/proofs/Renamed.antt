-- Other numbers for `at` and owner change nothing, where they are the same for the same: blocks and records are matched only by whether
-- their numbers are equal.
use Prim.Native.Nat.{ℕ, ◌-◌}
use mathlib.Core.Path.{◌≡◌, refl, ap}
use mathlib.Core.Bool.{Bool, true, false, cond}
use mathlib.Core.List.{List, [], ◌∷◌, ◌++◌, map}
use lib.Dec.{eqb}
use lib.ListN.{length, length-map}
use Rattle.grammar.specs.Grammar.{Move, stay, enter, named, version, Body, keyed, worded, options, parts, counted}
use Rattle.grammar.specs.Table.{body}
use Rattle.grammar.specs.Engine.{Maybe, none, some, Frame}
use Rattle.grammar.specs.Turns.{State, state, shift}
use Rattle.render.specs.Plain.{Plain, renamed, renamed_owner}
use Rattle.render.specs.Forms.{Form, forms_in}
use Rattle.render.specs.Lines.{same, owns, form_in, settled_by, settled, settling, ending, closing, end_all, taken_by, taking, before, goes_on, statement, entered, pieces, after, lines}
use Rattle.render.specs.Fit.{emptied, suits, takes, may_end, begin_word, comes, ends, admits, all_end, fit_from}
use Rattle.render.proofs.Unmoved.{Same, ends_same, room_same}
use Rattle.render.proofs.Unplaced.{holds_alike, gives_alike, form_alike, said_alike}

abbrev renamed_frame : (ℕ → ℕ) → Frame ℕ → Frame ℕ
renamed_frame ρ f = record { block = f.block; at = renamed_owner ρ f.at; label = f.label; lacks = f.lacks }

abbrev pub renamed_state : (ℕ → ℕ) → State ℕ → State ℕ
renamed_state ρ s = state s.version (map (renamed_frame ρ) s.blocks)

module _ (ρ : ℕ → ℕ) where
  -- ONE BLOCK

  settled_renamed : (f : Frame ℕ) → settled (renamed_frame ρ f) ≡ renamed_frame ρ (settled f)
  settled_renamed f = go (body f.block)
    where
      go : (d : Body) → settled_by (renamed_frame ρ f) d ≡ renamed_frame ρ (settled_by f d)
      go (keyed n rows) = refl
      go (worded rows) = refl
      go (options rows b) = refl
      go (parts k is) = refl
      go (counted k is) = refl

  but_place : (f : Frame ℕ) → Same (renamed_frame ρ f) f
  but_place f = record { block = refl; label = refl; lacks = refl }

  may_end_renamed : (f : Frame ℕ) (w : ℕ) → may_end (renamed_frame ρ f) w ≡ may_end f w
  may_end_renamed f w = rw (settled_renamed f) (ends_same (renamed_frame ρ (settled f)) (settled f) (but_place (settled f)) w)

  closing_renamed : (f : Frame ℕ) (fs : List (Frame ℕ)) → closing (renamed_frame ρ f) (map (renamed_frame ρ) fs) ≡ closing f fs
  closing_renamed f fs = rw (settled_renamed f, length-map fs (renamed_frame ρ)) (ap (λ l. settling (body f.block) ++ l) (go (body (settled f).block)))
    where
      go : (d : Body) → ending (length fs - 1) (renamed_frame ρ f) d ≡ ending (length fs - 1) f d
      go (keyed n rows) = refl
      go (worded rows) = refl
      go (options rows b) = refl
      go (parts k is) = refl
      go (counted k is) = refl

  -- A RECORD IN A BLOCK

  goes_on_renamed : (f : Frame ℕ) (m : Move) → goes_on (renamed_frame ρ f) m ≡ goes_on f m
  goes_on_renamed f stay = refl
  goes_on_renamed f (enter b ks) = refl
  goes_on_renamed f (named b ks) = refl
  goes_on_renamed f version = refl

  taken_renamed : (f : Frame ℕ) (o : Maybe Form) → taken_by (renamed_frame ρ f) o ≡ renamed_frame ρ (taken_by f o)
  taken_renamed f none = settled_renamed f
  taken_renamed f (some m) = refl

  before_renamed : (f : Frame ℕ) (o : Maybe Form) → before (renamed_frame ρ f) o ≡ before f o
  before_renamed f none = refl
  before_renamed f (some m) = refl

  module _ (r : Plain) where
    form_renamed : (f : Frame ℕ) → form_in (renamed_frame ρ f) (renamed ρ r) ≡ form_in f r
    form_renamed f = form_alike ρ r (forms_in (body f.block))

    taking_renamed : (f : Frame ℕ) → taking (renamed_frame ρ f) (renamed ρ r) ≡ renamed_frame ρ (taking f r)
    taking_renamed f = rw (form_renamed f) (taken_renamed f (form_in f r))

    -- what a block makes of the record, in the form that it has there
    has_renamed : {B : Type 0} (g : Frame ℕ → Plain → Maybe Form → B) (k : Frame ℕ → Plain → Maybe Form → B)
        → ((f : Frame ℕ) (o : Maybe Form) → g (renamed_frame ρ f) (renamed ρ r) o ≡ k f r o)
        → (f : Frame ℕ) → g (taking (renamed_frame ρ f) (renamed ρ r)) (renamed ρ r) (form_in (taking (renamed_frame ρ f) (renamed ρ r)) (renamed ρ r)) ≡ k (taking f r) r (form_in (taking f r) r)
    has_renamed g k h f = rw (taking_renamed f, form_renamed (taking f r)) (h (taking f r) (form_in (taking f r) r))

    takes_renamed : (v : ℕ) (f : Frame ℕ) (o : Maybe Form) → takes v (renamed_frame ρ f) (renamed ρ r) o ≡ takes v f r o
    unfolding suits
    takes_renamed v f none = refl
    takes_renamed v f (some m) = rw (room_same (renamed_frame ρ f) f (but_place f), holds_alike ρ r 0 f.label f.lacks m.items, gives_alike ρ r 0 m.items (emptied r))

    entered_renamed : (v : ℕ) (f : Frame ℕ) (fs : List (Frame ℕ)) (o : Maybe Form) → entered v (renamed_frame ρ f) (map (renamed_frame ρ) fs) (renamed ρ r) o ≡ renamed_state ρ (entered v f fs r o)
    entered_renamed v f fs none = refl
    entered_renamed v f fs (some m) = go m.move
      where
        go : (m : Move) → shift m r.kind (ρ r.at) r.name r.x v (renamed_frame ρ f) (map (renamed_frame ρ) fs) ≡ renamed_state ρ (shift m r.kind r.at r.name r.x v f fs)
        go stay = refl
        go (enter b ks) = refl
        go (named b ks) = refl
        go version = refl

    statement_renamed : (n : ℕ) (f : Frame ℕ) (o : Maybe Form) → statement n (renamed_frame ρ f) (renamed ρ r) o ≡ statement n f r o
    statement_renamed n f none = refl
    statement_renamed n f (some m) = rw (said_alike ρ r f.label m, goes_on_renamed f m.move)

module _ (ρ : ℕ → ℕ) (one-to-one : (p q : ℕ) → eqb (ρ p) (ρ q) ≡ eqb p q) where
  -- THE OPEN BLOCKS

  same_renamed : (o p : Maybe ℕ) → same (renamed_owner ρ o) (renamed_owner ρ p) ≡ same o p
  same_renamed none none = refl
  same_renamed none (some q) = refl
  same_renamed (some p) none = refl
  same_renamed (some p) (some q) = one-to-one p q

  owns_renamed : (f : Frame ℕ) (r : Plain) → owns (renamed_frame ρ f) (renamed ρ r) ≡ owns f r
  owns_renamed f r = same_renamed f.at r.owner

  module _ (r : Plain) where
    comes_renamed : (fs : List (Frame ℕ)) → comes (map (renamed_frame ρ) fs) (renamed ρ r) ≡ comes fs r
    comes_renamed [] = refl
    comes_renamed (f ∷ fs) = rw (owns_renamed f r, has_renamed ρ r (λ f r o. begin_word o) (λ f r o. begin_word o) (λ f o. refl) f)

    admits_renamed : (v : ℕ) (fs : List (Frame ℕ)) → admits v (map (renamed_frame ρ) fs) (renamed ρ r) ≡ admits v fs r
    unfolding admits
    admits_renamed v [] = refl
    admits_renamed v (f ∷ fs) = rw (
      owns_renamed f r,
      has_renamed ρ r (takes v) (takes v) (takes_renamed ρ r v) f,
      comes_renamed fs,
      may_end_renamed ρ f (comes fs r),
      admits_renamed v fs,
    )

    pieces_renamed : (fs : List (Frame ℕ)) → pieces (map (renamed_frame ρ) fs) (renamed ρ r) ≡ pieces fs r
    unfolding pieces
    pieces_renamed [] = refl
    pieces_renamed (f ∷ fs) = rw (
      owns_renamed f r,
      closing_renamed ρ f fs,
      length-map fs (renamed_frame ρ),
      has_renamed ρ r (statement (length fs)) (statement (length fs)) (statement_renamed ρ r (length fs)) f,
      form_renamed ρ r f,
      before_renamed ρ f (form_in f r),
      pieces_renamed fs,
    )

    after_renamed : (v : ℕ) (fs : List (Frame ℕ)) → after v (map (renamed_frame ρ) fs) (renamed ρ r) ≡ renamed_state ρ (after v fs r)
    unfolding after
    after_renamed v [] = refl
    after_renamed v (f ∷ fs) = rw (owns_renamed f r) (go (owns f r) (after_renamed v fs))
      where
        t : State ℕ
        t = entered v (taking (renamed_frame ρ f) (renamed ρ r)) (map (renamed_frame ρ) fs) (renamed ρ r) (form_in (taking (renamed_frame ρ f) (renamed ρ r)) (renamed ρ r))

        go : (c : Bool) → after v (map (renamed_frame ρ) fs) (renamed ρ r) ≡ renamed_state ρ (after v fs r)
            → cond c t (after v (map (renamed_frame ρ) fs) (renamed ρ r)) ≡ renamed_state ρ (cond c (entered v (taking f r) fs r (form_in (taking f r) r)) (after v fs r))
        go true h = has_renamed ρ r (λ f r o. entered v f (map (renamed_frame ρ) fs) r o) (λ f r o. renamed_state ρ (entered v f fs r o)) (λ f o. entered_renamed ρ r v f fs o) f
        go false h = h

  ends_next : (fs : List (Frame ℕ)) → ends (map (renamed_frame ρ) fs) ≡ ends fs
  ends_next [] = refl
  ends_next (f ∷ fs) = refl

  all_end_renamed : (fs : List (Frame ℕ)) → all_end (map (renamed_frame ρ) fs) ≡ all_end fs
  unfolding all_end
  all_end_renamed [] = refl
  all_end_renamed (f ∷ fs) = rw (ends_next fs, may_end_renamed ρ f (ends fs), all_end_renamed fs)

  end_all_renamed : (fs : List (Frame ℕ)) → end_all (map (renamed_frame ρ) fs) ≡ end_all fs
  unfolding end_all
  end_all_renamed [] = refl
  end_all_renamed (f ∷ fs) = rw (closing_renamed ρ f fs, end_all_renamed fs)

  -- LISTS

  -- what is written is the same
  pub lines_renamed : (s : State ℕ) (ps : List Plain) → lines (renamed_state ρ s) (map (renamed ρ) ps) ≡ lines s ps
  unfolding lines
  lines_renamed s [] = end_all_renamed s.blocks
  lines_renamed s (r ∷ ps) = rw (pieces_renamed r s.blocks, after_renamed r s.version s.blocks, lines_renamed (after s.version s.blocks r) ps)

  -- and so is what fits
  pub fit_renamed : (s : State ℕ) (ps : List Plain) → fit_from (renamed_state ρ s) (map (renamed ρ) ps) ≡ fit_from s ps
  unfolding fit_from
  fit_renamed s [] = all_end_renamed s.blocks
  fit_renamed s (r ∷ ps) = rw (admits_renamed r s.version s.blocks, after_renamed r s.version s.blocks, fit_renamed (after s.version s.blocks r) ps)
