-- The line theorem: the line of an answer is the line at the place given and the newlines since then that stand outside the string literals.
use Prim.Native.Nat.{ℕ, ◌+◌, ◌-◌, ◌^◌, ◌≤◌, ◌<◌, min}
use mathlib.Core.Path.{◌≡◌, refl, ap, ◌∙◌}
use mathlib.Core.Logic.{⊎_elim}
use mathlib.Core.Bool.{false, not, and-false}
use mathlib.Core.List.{List, [], ◌∷◌, Memᴰ}
use native.Mathlib.Omega.{arith}
use borrow.Author.Tests.{lt-leb, le-leb, lt-ltb, le-ltb, eq-eqb}
use lib.ListN.{length}
use Rattle.lexer.specs.declared.Token.{Token}
use Rattle.lexer.specs.declared.Lexed.{Lexed}
use Rattle.lexer.specs.declared.Lexed.TheVariants.{Found, End, Bad}
use Rattle.lexer.specs.Kinds.{string_literal, number_of}
use Rattle.lexer.specs.Lex.{from, rest, lex_from, last_line}
use Rattle.lexer.specs.Places.{place_of, line_of, Within}
use Rattle.lexer.specs.Lines.{newline_at, newlines, quotes, quoted, outside_at, outside}
use Rattle.lexer.proofs.Counts.{count_split, count_le, count_none, count_same}
use Rattle.lexer.proofs.First.{first_answer, ahead}
use Rattle.lexer.proofs.Whole.{unrolls, found_within, each}
use Rattle.lexer.proofs.Places.{within_first, within_all}

-- THE FIRST ANSWER: its line is n and the newlines from the place given to its own, up to the largest line
pub line_first : (s : List ℕ) (at n : ℕ) → n ≤ last_line → line_of (lex_from s at n) ≡ min (n + newlines s at (place_of s (lex_from s at n))) last_line
line_first s at n = (first_answer s at n).line

-- places that no answer quotes
apart : (s : List ℕ) (i : ℕ) (r : Lexed) → Within s i r → (k : ℕ) → k < i → quotes r k ≡ false
apart s i (Found t) w k h = rw (lt-leb t.start k (omega arith))
apart s i (End n) w k h = refl
apart s i (Bad j n) w k h = refl

unquoted : (rs : List Lexed) (k : ℕ) → ((r : Lexed) → Memᴰ r rs → quotes r k ≡ false) → quoted rs k ≡ false
unfolding quoted
unquoted [] k h = refl
unquoted (r ∷ rs) k h = rw (h r (Memᴰ.head refl), quoted) (unquoted rs k (λ x m. h x (Memᴰ.tail m)))

before : (s : List ℕ) (i n k : ℕ) → k < i → quoted (from s i n) k ≡ false
before s i n k h = unquoted (from s i n) k (λ r m. apart s i r (within_all s i n r m) k h)

-- before the first answer nothing is quoted
early : (s : List ℕ) (i n k : ℕ) (a : Lexed) → lex_from s i n ≡ a → k < place_of s a → quoted (a ∷ rest s a) k ≡ false
unfolding quoted
early s i n k (Found t) e h =
    let w = found_within s i n t e in
    rw (lt-leb t.start k h) (before s t.stop t.line k (omega arith))
early s i n k (End m) e h = refl
early s i n k (Bad j m) e h = refl

gap : (s : List ℕ) (i n : ℕ) (a : Lexed) → lex_from s i n ≡ a → outside s (a ∷ rest s a) i (place_of s a) ≡ newlines s i (place_of s a)
gap s i n a e = count_same (outside_at s (a ∷ rest s a)) (newline_at s) i (place_of s a) (λ k g l. rw (early s i n k a e l))

-- an answer stands within the text, or at its end
held : (s : List ℕ) (i : ℕ) (r : Lexed) → Within s i r → place_of s r ≤ length s
held s i (Found t) w = omega arith
held s i (End n) w = omega arith
held s i (Bad j n) w = omega arith

-- the line of the first answer, where the lines do not run out
pub first_line : (s : List ℕ) (i n : ℕ) → n + (length s - i) < 2 ^ 64 → line_of (lex_from s i n) ≡ n + newlines s i (place_of s (lex_from s i n))
first_line s i n h =
    let r = lex_from s i n in
    omega (arith, line_first s i n (omega arith), count_le (newline_at s) i (place_of s r), held s i r (within_first s i n))

-- after a token t that is the first answer
module _ (s : List ℕ) (i n : ℕ) (t : Token) (e : lex_from s i n ≡ Found t) where
  abbrev onward : List Lexed
  onward = from s t.stop t.line

  -- a newline in the token is quoted
  body : (k : ℕ) → t.start ≤ k → k < t.stop → outside_at s (Found t ∷ onward) k ≡ false
  unfolding quoted
  body k g l =
      ⊎_elim
      (λ q. let e : number_of t.kind ≡ string_literal = ap number_of q in rw (le-leb t.start k g, lt-ltb k t.stop l, eq-eqb _ _ e))
      (λ u. rw (u k g l) (and-false (not (quoted (Found t ∷ onward) k))))
      (rw e at (first_answer s i n).plain)

  -- and the token quotes nothing after it
  after : (k : ℕ) → t.stop ≤ k → outside_at s (Found t ∷ onward) k ≡ outside_at s onward k
  unfolding quoted
  after k g =
      let w = found_within s i n t e in
      rw (le-leb t.start k (omega arith), le-ltb k t.stop g)

  parts : (p : ℕ) → t.stop ≤ p → outside s (Found t ∷ onward) i p ≡ newlines s i t.start + outside s onward t.stop p
  parts p h =
      let w = found_within s i n t e in
      let f = outside_at s (Found t ∷ onward) in
      omega (
        arith,
        gap s i n (Found t) e,
        count_split f i t.start p (omega arith) (omega arith),
        count_split f t.start t.stop p (omega arith) h,
        count_none f t.start t.stop body,
        count_same f (outside_at s onward) t.stop p (λ k g l. after k g),
      )

  -- an answer r after the token counts on from the token's line
  onto : (r : Lexed) → Memᴰ r onward → (t.line + (length s - t.stop) < 2 ^ 64 → line_of r ≡ t.line + outside s onward t.stop (place_of s r))
      → n + (length s - i) < 2 ^ 64 → line_of r ≡ n + outside s (from s i n) i (place_of s r)
  onto r m q h =
      let w = found_within s i n t e in
      let p = place_of s r in
      let u : from s i n ≡ Found t ∷ onward = unrolls s i n ∙ ap (λ a. a ∷ rest s a) e in
      let l : t.line ≡ n + newlines s i t.start = rw e at (first_line s i n h) in
      rw u (omega (
        arith,
        l,
        count_le (newline_at s) i t.start,
        q (omega (arith, l, count_le (newline_at s) i t.start)),
        parts p (ahead s t.stop r w.inside (within_all s t.stop t.line r m)),
      ))

-- EVERY ANSWER: its line is n and the newlines from the place given to its own that lie in no string literal
pub line_all : (s : List ℕ) (at n : ℕ) (r : Lexed) → Memᴰ r (from s at n) → n + (length s - at) < 2 ^ 64
    → line_of r ≡ n + outside s (from s at n) at (place_of s r)
line_all s =
    each s (λ i n r. n + (length s - i) < 2 ^ 64 → line_of r ≡ n + outside s (from s i n) i (place_of s r))
    (λ i n h. let r = lex_from s i n in
    omega (arith, first_line s i n h, gap s i n r refl, ap (λ rs. outside s rs i (place_of s r)) (unrolls s i n)))
    (λ i n t e r m q. onto s i n t e r m q)
