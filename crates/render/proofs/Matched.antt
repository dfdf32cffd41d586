-- The writer's open blocks and the reader's stay matched through a record, and may end and take records alike: all but places is the same.
use Prim.Native.Nat.{ℕ}
use mathlib.Core.Path.{◌≡◌, refl, sym, ap, subst, ◌∙◌}
use mathlib.Core.Bool.{true, false≢true}
use mathlib.Core.List.{List, [], ◌∷◌, ◌++◌}
use native.Mathlib.Omega.{arith}
use borrow.Author.Tests.{eqb-true}
use lib.ListN.{length, length-append, get_or-append}
use lib.Seq.{get_or-append_seam}
use Rattle.grammar.specs.Grammar.{Move, stay, enter, named, version, Body, keyed, worded, options, parts, counted}
use Rattle.grammar.specs.Table.{body}
use Rattle.grammar.specs.Engine.{Maybe, none, some, Rec, Frame}
use Rattle.grammar.specs.Turns.{label_of, shift, counting}
use Rattle.render.specs.Plain.{Plain}
use Rattle.render.specs.Forms.{Form}
use Rattle.render.specs.Lines.{same, settled_by, settled}
use Rattle.render.specs.Fit.{takes, may_end}
use Rattle.render.proofs.Unmoved.{Same, ends_same, takes_same}
use Rattle.render.proofs.Stands.{Like}
use Rattle.render.proofs.Alike.{Owner, Matches, AllMatch, Corresponds}

-- MORE RECORDS ARE READ

module _ (seen : List ℕ) (p : ℕ) where
  owner_more : (i j : Maybe ℕ) → Owner seen i j → Owner (seen ++ (p ∷ [])) i j
  owner_more none none h = tt
  owner_more none (some j) h = h
  owner_more (some i) none h = h
  owner_more (some i) (some j) h = (omega (arith, length-append seen (p ∷ []), h.0), get_or-append seen (p ∷ []) 0 i h.0 ∙ h.1)

  -- the record that was just read
  owner_new : (i : ℕ) → i ≡ length seen → Owner (seen ++ (p ∷ [])) (some i) (some p)
  owner_new i e = rw e (omega (arith, length-append seen (p ∷ [])), get_or-append_seam seen p [] 0)

  match_more : (f g : Frame ℕ) → Matches seen f g → Matches (seen ++ (p ∷ [])) f g
  match_more f g h = record { block = h.block; at = owner_more f.at g.at h.at; label = h.label; lacks = h.lacks }

  all_more : (fs gs : List (Frame ℕ)) → AllMatch seen fs gs → AllMatch (seen ++ (p ∷ [])) fs gs
  all_more [] [] h = tt
  all_more [] (g ∷ gs) h = h
  all_more (f ∷ fs) [] h = h
  all_more (f ∷ fs) (g ∷ gs) h = (match_more f g h.0, all_more fs gs h.1)

-- the record's owner
pub same_eq : (i j : Maybe ℕ) → same i j ≡ true → i ≡ j
same_eq none none e = refl
same_eq none (some q) e = absurd (false≢true e)
same_eq (some p) none e = absurd (false≢true e)
same_eq (some p) (some q) e = ap some (eqb-true p q e)

-- ONE BLOCK

module _ (seen : List ℕ) (f g : Frame ℕ) (h : Matches seen f g) where
  pub settled_match : Matches seen (settled f) (settled g)
  settled_match = subst (λ b. Matches seen (settled f) (settled_by g (body b))) h.block (go (body f.block))
    where
      go : (b : Body) → Matches seen (settled_by f b) (settled_by g b)
      go (keyed n rows) = h
      go (worded rows) = h
      go (options rows b) = record { block = refl; at = h.at; label = h.label; lacks = h.lacks }
      go (parts k is) = h
      go (counted k is) = h

  same_but_place : Same f g
  same_but_place = record { block = h.block; label = h.label; lacks = h.lacks }

  pub takes_match : (v : ℕ) (r : Plain) (o : Maybe Form) → takes v f r o ≡ takes v g r o
  takes_match = takes_same f g same_but_place

pub may_end_match : (seen : List ℕ) (f g : Frame ℕ) → Matches seen f g → (w : ℕ) → may_end f w ≡ may_end g w
may_end_match seen f g h = ends_same (settled f) (settled g) (same_but_place seen (settled f) (settled g) (settled_match seen f g h))

-- A RECORD

module _ (seen : List ℕ) (q : Rec ℕ) (r : Plain) (l : Like q r) (i : r.at ≡ length seen) (v : ℕ) (f g : Frame ℕ) (fs gs : List (Frame ℕ)) (h : Matches seen f g) (hs : AllMatch seen fs gs) where
  counting_match : Matches (seen ++ (q.at ∷ [])) (counting r.kind f) (counting q.kind g)
  counting_match = record { block = h.block; at = owner_more seen q.at f.at g.at h.at; label = h.label; lacks = rw (h.lacks, l.kind) }

  pub shift_match : (m : Move) → Corresponds (seen ++ (q.at ∷ [])) (shift m r.kind r.at r.name r.x v f fs) (shift m q.kind q.at (label_of q.name) q.x v g gs)
  shift_match stay = (refl, (counting_match, all_more seen q.at fs gs hs))
  shift_match (enter b ks) = (refl, (record { block = refl; at = owner_new seen q.at r.at i; label = refl; lacks = refl }, (counting_match, all_more seen q.at fs gs hs)))
  shift_match (named b ks) = (refl, (record { block = refl; at = owner_new seen q.at r.at i; label = sym l.name; lacks = refl }, (counting_match, all_more seen q.at fs gs hs)))
  shift_match version = (sym l.x, (counting_match, all_more seen q.at fs gs hs))
