-- What a test of two entries told holds of the places that they were read from.
use Prim.Native.Nat.{ℕ}
use mathlib.Core.Path.{◌≡◌, sym, ◌∙◌}
use mathlib.Core.Bool.{Bool}
use mathlib.Core.List.{List}
use Rattle.entry.specs.declared.Entry.{Entry}
use Rattle.entry.specs.Order.{precedes}

pub told : {b t : Bool} {d e x y : Entry} (s : List ℕ) → b ≡ precedes s d e → b ≡ t → d ≡ x → e ≡ y → precedes s x y ≡ t
told s h p q r = rw (← q, ← r) (sym h ∙ p)

-- of an entry that was read, what a test of it told holds of the place
pub first_read : {t : Bool} {d x : Entry} (s : List ℕ) (y : Entry) → d ≡ x → precedes s d y ≡ t → precedes s x y ≡ t
first_read s y q p = rw (← q) p
