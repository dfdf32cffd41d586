-- The blocks in the array: a block put at a depth is read there, and those before it stay.
use Prim.Native.Nat.{ℕ, zero, suc, ◌+◌, ◌-◌, ◌≤◌, ◌<◌}
use mathlib.Core.Path.{◌≡◌, refl, ap, ap₂}
use mathlib.Core.List.{List, ◌∷◌}
use native.Mathlib.Numerals.{add-one}
use native.Mathlib.Omega.{arith}
use lib.ListN.{length, set}
use lib.Seq.{get_or-set_same, get_or-set_other}
use Rattle.parser.specs.declared.open.Frame.{Frame}
use Rattle.parser.specs.Kept.{frame_of}
use Rattle.reader.specs.Open.{nothing, frame_in, frames_in}

-- the blocks before a depth stay where one is put there
before : (s : List ℕ) (e d : ℕ) (f : Frame) (o : List Frame) → e ≤ d → frames_in s e (set o d f) ≡ frames_in s e o
unfolding frames_in
before s zero d f o h = refl
before s (suc e) d f o h = ap₂ ◌∷◌ (ap (frame_of s) (get_or-set_other o d e f (nothing 0) (λ z. omega arith))) (before s e d f o (omega arith))

pub framed : (s : List ℕ) (d : ℕ) (f : Frame) (o : List Frame) → d < length o → frames_in s (d + 1) (set o d f) ≡ frame_of s f ∷ frames_in s d o
unfolding frames_in
framed s d f o h = rw (add-one d) (ap₂ ◌∷◌ (ap (frame_of s) (get_or-set_same o d f (nothing 0) h)) (before s d d f o (omega arith)))

-- the innermost of those around
pub outermost_off : (s : List ℕ) (d : ℕ) (o : List Frame) → 0 < d → frame_in s (d - 1) o ∷ frames_in s (d - 1) o ≡ frames_in s d o
unfolding frames_in
outermost_off s zero o h = absurd (let z : ⊥ = omega arith in z)
outermost_off s (suc d) o h = let e : suc d - 1 ≡ d = omega arith in rw e

-- how many there are
pub frames_length : (s : List ℕ) (d : ℕ) (o : List Frame) → length (frames_in s d o) ≡ d
unfolding frames_in
frames_length s zero o = refl
frames_length s (suc d) o = ap suc (frames_length s d o)
