-- Two tests in one: what one of them is known to say leaves what the other says.
use mathlib.Core.Path.{◌≡◌, refl}
use mathlib.Core.Bool.{Bool, true, false, not, ◌||◌, false≢true}

-- the second holds
pub or_right : (b : Bool) {c : Bool} → c ≡ true → (b || c) ≡ true
or_right true e = refl
or_right false e = e

-- the first does not
pub or_left : (b : Bool) {c : Bool} → b ≡ true → (not b || c) ≡ true → c ≡ true
or_left true e h = h
or_left false e h = absurd (false≢true e)
