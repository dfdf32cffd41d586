-- Where a byte stands next.
use Rattle.std.specs.Prelude.{ℕ, suc, ◌+◌, min, cond, List, [], ◌∷◌, length, drop, eqb}

-- how many bytes stand before the first b, and all of them where there is none
unfoldable pub before : ℕ → List ℕ → ℕ
before b [] = 0
before b (x ∷ s) = cond (eqb x b) 0 (suc (before b s))

-- the place of the first b from the place `at` of s on, or the end of s
abbrev pub next : ℕ → List ℕ → ℕ → ℕ
next b s at = min (at + before b (drop at s)) (length s)
