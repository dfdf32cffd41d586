-- The words of the definition are spelt as the numbered ones: they stand in the same lists.
use Prim.Native.Nat.{ℕ, zero, suc, ◌≤◌, ◌<◌}
use Prim.Native.String.{String}
use mathlib.Core.Path.{◌≡◌, refl, sym, ap, ◌∙◌}
use mathlib.Core.Bool.{false}
use mathlib.Core.List.{List, [], ◌∷◌, ◌++◌, map}
use native.Mathlib.Omega.{arith}
use lib.Dec.{eqb}
use lib.ListN.{length, get_or}
use Rattle.text.specs.Text.{bytes}
use Rattle.word.specs.Words.{keys, values, words}
use Rattle.word.specs.Spelling.{spelling}
use Rattle.rows.specs.Packed.{nth, key_at}
use Rattle.render.specs.Says.{word}
use Rattle.render.specs.Forms.{begins}
use Rattle.lines.specs.Formed.{word_at, begin_of}

nth_bytes : (k : ℕ) (l : List String) → get_or (map bytes l) k [] ≡ bytes (nth k l)
unfolding nth
nth_bytes zero [] = refl
nth_bytes (suc k) [] = refl
nth_bytes zero (w ∷ l) = refl
nth_bytes (suc k) (w ∷ l) = nth_bytes k l

nth_front : (k : ℕ) (l m : List String) → k < length l → nth k (l ++ m) ≡ nth k l
unfolding nth
nth_front k [] m h = absurd (omega arith)
nth_front zero (w ∷ l) m h = refl
nth_front (suc k) (w ∷ l) m h = nth_front k l m (omega arith)

nth_past : (k : ℕ) (l : List String) → length l ≤ k → nth k l ≡ ""
unfolding nth
nth_past zero [] h = refl
nth_past (suc k) [] h = refl
nth_past zero (w ∷ l) h = absurd (omega arith)
nth_past (suc k) (w ∷ l) h = nth_past k l (omega arith)

pub word_spelt : (w : ℕ) → bytes (word_at w) ≡ spelling w
unfolding word_at nth spelling words
word_spelt zero = refl
word_spelt (suc k) = sym (nth_bytes k (keys ++ values))

many : length keys ≡ 56
unfolding keys
many = refl

pub key_spelt : (k : ℕ) → k ≤ 56 → bytes (key_at k) ≡ spelling k
unfolding key_at nth spelling words
key_spelt zero h = refl
key_spelt (suc k) h = sym (nth_bytes k (keys ++ values) ∙ ap bytes (nth_front k keys values (omega (arith, many))))

pub key_past : (k : ℕ) → 56 < k → bytes (key_at k) ≡ spelling 0
unfolding key_at nth spelling
key_past zero h = absurd (omega arith)
key_past (suc k) h = ap bytes (nth_past k keys (omega (arith, many)))

-- what begins with a word, and with none
pub begins_word : (w : ℕ) → eqb w 0 ≡ false → begins (begin_of w) ≡ word w ∷ []
unfolding begins begin_of
begins_word w e = rw (e, word_spelt w)

pub begins_none : begins (begin_of 0) ≡ []
unfolding begins begin_of
begins_none = refl
