-- Worked examples, each by computation.
use Rattle.std.specs.Prelude.{◌≡◌, refl, [], ◌∷◌}
use Rattle.vectors.specs.Next.{before, next}
use Rattle.vectors.specs.Hex.{pairs}
use Rattle.vectors.specs.Plain.{meant}

-- the next 7 of 7 8 7 from the places 0, 1, 3 and 9 on; the next 9
next_bytes :
    (next 7 (7 ∷ 8 ∷ 7 ∷ []) 0 ≡ 0)
    × (next 7 (7 ∷ 8 ∷ 7 ∷ []) 1 ≡ 2)
    × (next 7 (7 ∷ 8 ∷ 7 ∷ []) 3 ≡ 3)
    × (next 7 (7 ∷ 8 ∷ 7 ∷ []) 9 ≡ 3)
    × (next 9 (7 ∷ 8 ∷ 7 ∷ []) 1 ≡ 3)
unfolding before
next_bytes = (refl, refl, refl, refl, refl)

-- `0af` is a newline and a digit left over; `zF` has no digits
hexadecimal : (pairs (48 ∷ 97 ∷ 102 ∷ []) ≡ 10 ∷ []) × (pairs (122 ∷ 70 ∷ []) ≡ 0 ∷ [])
unfolding pairs
hexadecimal = (refl, refl)

-- `a\0a b` is a, a newline, a space and b; `\5c0a` is `\0a`; `\7` is itself
written_texts :
    (meant (97 ∷ 92 ∷ 48 ∷ 97 ∷ 32 ∷ 98 ∷ []) ≡ 97 ∷ 10 ∷ 32 ∷ 98 ∷ [])
    × (meant (92 ∷ 53 ∷ 99 ∷ 48 ∷ 97 ∷ []) ≡ 92 ∷ 48 ∷ 97 ∷ [])
    × (meant (92 ∷ 55 ∷ []) ≡ 92 ∷ 55 ∷ [])
unfolding meant
written_texts = (refl, refl, refl)
