-- Bytes are put into a buffer one by one: what is stored so far, and the bytes that are left stored on from there, come to the whole.
use Prim.Native.Nat.{ℕ, suc, ◌+◌, ◌-◌, ◌≤◌, ◌<◌, min}
use mathlib.Core.Path.{◌≡◌, refl}
use mathlib.Core.Bool.{Bool, true, false}
use borrow.Author.Tests.{ltb-true, ltb-false}
use lib.Dec.{ltb}
use mathlib.Core.List.{List, [], ◌∷◌}
use native.Mathlib.Numerals.{add-one}
use native.Mathlib.Omega.{arith}
use lib.ListN.{length, take, set, length-set}
use lib.Seq.{sets, set_out}

-- of the bytes `whole`, which go to the front of out₀, n are in the buffer `out`, and `rest` are left
pub record Putting (out₀ whole out : List ℕ) (n : ℕ) (rest : List ℕ) : Type 0 where
  pub room : n ≤ length out
  pub same : length out ≡ length out₀
  pub laid : sets out n rest ≡ sets out₀ 0 whole
  pub left : n + length rest ≡ length whole

pub begun : (out whole : List ℕ) → Putting out whole out 0 whole
begun out whole = record { room = omega arith; same = refl; laid = refl; left = omega arith }

-- what is stored past the end is left out
beyond : (l : List ℕ) (n : ℕ) (vs : List ℕ) → length l ≤ n → sets l n vs ≡ l
beyond l n [] h = refl
beyond l n (v ∷ vs) h = rw (set_out l n v) (beyond l (suc n) vs (omega arith))

module _ {out₀ whole out : List ℕ} {n : ℕ} {rest : List ℕ} (p : Putting out₀ whole out n rest) where
  pub more : (b : ℕ) (rest' : List ℕ) → n < length out → rest ≡ b ∷ rest' → Putting out₀ whole (set out n b) (n + 1) rest'
  more b rest' h e = record {
    room = rw length-set (omega arith);
    same = rw length-set p.same;
    laid = rw add-one (rw e at p.laid);
    left = omega (arith, rw e at p.left);
  }

  -- none is left, or there is no room for one
  pub all : rest ≡ [] → (n ≡ min (length whole) (length out₀)) × (out ≡ sets out₀ 0 whole)
  all e = (omega (arith, p.room, p.same, rw e at p.left), rw e at p.laid)

  pub full : length out ≤ n → (n ≡ min (length whole) (length out₀)) × (out ≡ sets out₀ 0 whole)
  full h = (omega (arith, p.room, p.same, p.left), rw (beyond out n rest h) at p.laid)

  -- the bytes end, or the room does
  pub over : (n < length out → rest ≡ []) → (n ≡ min (length whole) (length out₀)) × (out ≡ sets out₀ 0 whole)
  over h = decide (ltb n (length out)) refl
    where
      decide : (t : Bool) → ltb n (length out) ≡ t → (n ≡ min (length whole) (length out₀)) × (out ≡ sets out₀ 0 whole)
      decide true e = all (h (ltb-true n (length out) e))
      decide false e = full (ltb-false n (length out) e)

-- bytes stored from the second place on leave the first
past : (x : ℕ) (l : List ℕ) (i : ℕ) (vs : List ℕ) → sets (x ∷ l) (suc i) vs ≡ x ∷ sets l i vs
past x l i [] = refl
past x l i (v ∷ vs) = past x (set l i v) (suc i) vs

-- what then stands at the front of the buffer: the bytes, or as many of them as there is room for
pub taken : (out whole : List ℕ) → take (min (length whole) (length out)) (sets out 0 whole) ≡ take (length out) whole
taken [] whole =
    let none : min (length whole) 0 ≡ 0 = omega arith in
    rw none
taken (x ∷ l) [] =
    let none : min 0 (length (x ∷ l)) ≡ 0 = omega arith in
    rw none
taken (x ∷ l) (b ∷ vs) =
    let more : min (suc (length vs)) (suc (length l)) ≡ suc (min (length vs) (length l)) = omega arith in
    rw (more, past b l 0 vs, taken l vs)

-- of the bytes `whole`, which go into out₀ from a place on, n are in the buffer `out`, and `rest` are left
pub record From (out₀ : List ℕ) (at : ℕ) (whole out : List ℕ) (n : ℕ) (rest : List ℕ) : Type 0 where
  pub same : length out ≡ length out₀
  pub laid : sets out (at + n) rest ≡ sets out₀ at whole

pub started : (out : List ℕ) (at : ℕ) (whole : List ℕ) → From out at whole out 0 whole
started out at whole =
    let here : at + 0 ≡ at = omega arith in
    record { same = refl; laid = rw here }

module _ {out₀ whole out rest : List ℕ} {at n : ℕ} (p : From out₀ at whole out n rest) where
  pub further : (b : ℕ) (rest' : List ℕ) → rest ≡ b ∷ rest' → From out₀ at whole (set out (at + n) b) (n + 1) rest'
  further b rest' e =
      let next : at + (n + 1) ≡ suc (at + n) = omega arith in
      record {
        same = rw length-set p.same;
        laid = rw next (rw e at p.laid);
      }

  -- none is left, or there is no room for one
  pub done : (n < length out₀ - at → rest ≡ []) → out ≡ sets out₀ at whole
  done h = decide (ltb (at + n) (length out)) refl
    where
      decide : (t : Bool) → ltb (at + n) (length out) ≡ t → out ≡ sets out₀ at whole
      decide true e =
          let in_room : at + n < length out = ltb-true (at + n) (length out) e in
          rw (h (omega (arith, in_room, p.same))) at p.laid
      decide false e = rw (beyond out (at + n) rest (ltb-false (at + n) (length out) e)) at p.laid
