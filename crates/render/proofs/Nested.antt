-- The open blocks of a reading start at places of their own, and one that does not end by itself stands in one that does: a turn keeps
-- this, since it opens a block only where its record stands and only as the table says.
use Prim.Native.Nat.{ℕ, suc, ◌≤◌, ◌<◌}
use mathlib.Core.Path.{◌≡◌, refl, sym}
use mathlib.Core.Bool.{Bool, true, false, ◌||◌}
use mathlib.Core.Logic.{⊎_elim}
use mathlib.Core.List.Memᴰ
use mathlib.Core.List.{List, [], ◌∷◌, Memᴰ}
use native.Mathlib.Omega.{arith}
use borrow.Author.Tests.{ne_eqb}
use Rattle.word.proofs.Words.{clash}
use Rattle.grammar.specs.Grammar.{Block, Move, stay, enter, named, version, Row, Body, keyed, worded, options, parts, counted}
use Rattle.grammar.specs.Table.{body}
use Rattle.grammar.specs.Engine.{Maybe, none, some, Rec, Frame}
use Rattle.grammar.specs.Turns.{shift, become}
use Rattle.grammar.proofs.Turned.{Open}
use Rattle.render.specs.Lines.{same}
use Rattle.render.proofs.Maybe.{none_some, some_eq}
use Rattle.render.proofs.Stands.{has_last}
use Rattle.render.proofs.Opened.{closed, leads, opens, is_options, options_over}

-- PLACES

-- a place below p, or none where nothing is around
abbrev Under : ℕ → Maybe ℕ → List (Frame ℕ) → (ℕ → Type 0) → Type 0
Under p none fs rest = fs ≡ []
Under p (some q) fs rest = (q < p) × rest q

-- each block starts below p, and those around it below where it starts
abbrev pub Falls : List (Frame ℕ) → ℕ → Type 0
Falls [] p = Unit {0}
Falls (f ∷ fs) p = Under p f.at fs (λ q. Falls fs q)

-- each record stands at p or after it, and those that follow stand after the record
abbrev pub Climbs : List (Rec ℕ) → ℕ → Type 0
Climbs [] p = Unit {0}
Climbs (q ∷ qs) p = (p ≤ q.at) × Climbs qs (suc q.at)

abbrev pub places : List (Frame ℕ) → List (Maybe ℕ)
places [] = []
places (f ∷ fs) = f.at ∷ places fs

open_among : (known : List (Maybe ℕ)) (fs : List (Frame ℕ)) → ((o : Maybe ℕ) → Memᴰ o (places fs) → Memᴰ o known) → Open known fs
open_among known [] h = tt
open_among known (f ∷ fs) h = (h f.at (Memᴰ.head refl), open_among known fs (λ o m. h o (Memᴰ.tail m)))

pub open_places : (fs : List (Frame ℕ)) → Open (places fs) fs
open_places fs = open_among (places fs) fs (λ o m. m)

falls_under : (p q : ℕ) → p ≤ q → (o : Maybe ℕ) (fs : List (Frame ℕ)) → Under p o fs (λ q. Falls fs q) → Under q o fs (λ q. Falls fs q)
falls_under p q h none fs u = u
falls_under p q h (some n) fs u = (omega arith, u.1)

lower : (fs : List (Frame ℕ)) (p q : ℕ) → p ≤ q → Falls fs p → Falls fs q
lower [] p q h u = tt
lower (f ∷ fs) p q h u = falls_under p q h f.at fs u

falls_tail : (p : ℕ) (o : Maybe ℕ) (fs : List (Frame ℕ)) → Under p o fs (λ q. Falls fs q) → Falls fs p
falls_tail p none fs u = rw u tt
falls_tail p (some q) fs u = lower fs q p (omega arith) u.1

falls_below : (fs : List (Frame ℕ)) (p q : ℕ) → Falls fs p → Memᴰ (some q) (places fs) → q < p
falls_below [] p q u m = absurd (Memᴰ.not-nil m)
falls_below (f ∷ fs) p q u m = ⊎_elim (head f.at u) (λ g. falls_below fs p q (falls_tail p f.at fs u) g) (Memᴰ.cases_cons m)
  where
    head : (o : Maybe ℕ) → Under p o fs (λ q. Falls fs q) → some q ≡ o → q < p
    head none u e = absurd (none_some (sym e))
    head (some n) u e = let z = some_eq e in omega arith

-- no block around starts where a block does
pub elsewhere : (f : Frame ℕ) (fs : List (Frame ℕ)) (p : ℕ) → Falls (f ∷ fs) p → (o : Maybe ℕ) → Memᴰ o (places fs) → same f.at o ≡ false
elsewhere f fs p u o m = go f.at o u m
  where
    go : (a o : Maybe ℕ) → Under p a fs (λ q. Falls fs q) → Memᴰ o (places fs) → same a o ≡ false
    go none o u m = absurd (Memᴰ.not-nil (rw u at m))
    go (some n) none u m = refl
    go (some n) (some q) u m = ne_eqb n q (λ e. omega (arith, falls_below fs n q u.1 m))

shift_falls : (m : Move) (k : ℕ) (p q : ℕ) (label : List ℕ) (u v : ℕ) (f : Frame ℕ) (fs : List (Frame ℕ)) → p ≤ q → Falls (f ∷ fs) p
    → Falls (shift m k q label u v f fs).blocks (suc q)
shift_falls stay k p q label u v f fs h w = lower (f ∷ fs) p (suc q) (omega arith) w
shift_falls (enter b ks) k p q label u v f fs h w = (omega arith, lower (f ∷ fs) p q h w)
shift_falls (named b ks) k p q label u v f fs h w = (omega arith, lower (f ∷ fs) p q h w)
shift_falls version k p q label u v f fs h w = lower (f ∷ fs) p (suc q) (omega arith) w

-- HOW BLOCKS END

abbrev pub leads_first : List (Frame ℕ) → Bool
leads_first [] = false
leads_first (f ∷ fs) = leads (body f.block)

-- each block ends by itself, or stands in one that does
abbrev pub Housed : List (Frame ℕ) → Type 0
Housed [] = Unit {0}
Housed (f ∷ fs) = ((closed (body f.block) || leads_first fs) ≡ true) × Housed fs

shift_housed : (m : Move) (k q : ℕ) (label : List ℕ) (u v : ℕ) (f : Frame ℕ) (fs : List (Frame ℕ)) → opens (body f.block) m ≡ true → Housed (f ∷ fs)
    → Housed (shift m k q label u v f fs).blocks
shift_housed stay k q label u v f fs h w = w
shift_housed (enter b ks) k q label u v f fs h w = (h, w)
shift_housed (named b ks) k q label u v f fs h w = (h, w)
shift_housed version k q label u v f fs h w = w

pub closed_last : (d : Body) → is_options d ≡ false → closed d ≡ has_last d
closed_last (keyed n rows) e = refl
closed_last (worded rows) e = refl
closed_last (options rows b) e = clash e
closed_last (parts k is) e = refl
closed_last (counted k is) e = refl

-- NESTED BLOCKS

-- the open blocks where the records qs are still to come
pub record Nested (fs : List (Frame ℕ)) (qs : List (Rec ℕ)) : Type 0 where
  pub place : ℕ
  pub falls : Falls fs place
  pub climbs : Climbs qs place
  pub housed : Housed fs

module _ (f : Frame ℕ) (fs : List (Frame ℕ)) (qs : List (Rec ℕ)) where
  -- where the innermost block has ended
  pub nested_around : Nested (f ∷ fs) qs → Nested fs qs
  nested_around s = record { place = s.place; falls = falls_tail s.place f.at fs s.falls; climbs = s.climbs; housed = s.housed.1 }

  -- where its options are over
  pub nested_become : (rows : List Row) (c : Block) → body f.block ≡ options rows c → Nested (f ∷ fs) qs → Nested (become c f ∷ fs) qs
  nested_become rows c e s =
      let z : closed (body f.block) ≡ closed (body c) = rw (e, closed_last (body c) (options_over f.block c rows e)) in
      record { place = s.place; falls = s.falls; climbs = s.climbs; housed = (rw (← z) s.housed.0, s.housed.1) }

  -- where it has one more record
  pub nested_shift : (m : Move) (q : Rec ℕ) (label : List ℕ) (v : ℕ) → opens (body f.block) m ≡ true → Nested (f ∷ fs) (q ∷ qs)
      → Nested (shift m q.kind q.at label q.x v f fs).blocks qs
  nested_shift m q label v h s = record {
    place = suc q.at;
    falls = shift_falls m q.kind s.place q.at label q.x v f fs s.climbs.0 s.falls;
    climbs = s.climbs.1;
    housed = shift_housed m q.kind q.at label q.x v f fs h s.housed;
  }
