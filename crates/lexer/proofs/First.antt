-- What is true of the first answer from each place, by one induction over the text.
use Prim.Native.Nat.{ℕ, zero, suc, ◌+◌, ◌≤◌, ◌<◌, min}
use mathlib.Core.Path.{◌≡◌, refl, sym, ap, ◌∙◌}
use mathlib.Core.Bool.{Bool, true, false, cond, ◌||◌}
use mathlib.Core.Logic.{◌⊎◌, inl, inr}
use mathlib.Core.List.{List, ◌∷◌}
use native.Mathlib.Decide.{dec_lt, ℕ_discrete}
use native.Mathlib.Omega.{arith}
use borrow.Author.Tests.{ne_eqb}
use lib.Dec.{eqb}
use lib.ListN.{length, get_or}
use Rattle.lexer.specs.declared.scan.Class.{Class}
use Rattle.lexer.specs.declared.scan.Class.TheVariants.{Letter, Space, Digit, SemiColon, NewLine, Quote, Hash, Other}
use Rattle.lexer.specs.declared.Lexed.{Lexed}
use Rattle.lexer.specs.declared.Lexed.TheVariants.{Found, End, Bad}
use Rattle.lexer.specs.Bytes.{class_of, is_letter, is_space, is_digit, is_newline, in_name, in_number, in_comment}
use Rattle.lexer.specs.Run.{past}
use Rattle.lexer.specs.declared.Kind.{Kind}
use Rattle.lexer.specs.Lex.{from, rest, lex_from, next_line, last_line, token}
use Rattle.lexer.specs.Places.{place_of, line_of, Within}
use Rattle.lexer.specs.Lines.{newline_at, newlines}
use Rattle.lexer.proofs.Runs.{within, inside}
use Rattle.lexer.proofs.Counts.{count_split, count_le, count_none, count_one}
use Rattle.lexer.proofs.Laws.{At, none, first, at_letter, at_space, at_digit, at_semicolon, at_newline, at_quote, at_hash, at_other}

-- what holds at the end of the text, and at each place within it if it holds at all later places, holds at every place
walk : (s : List ℕ) (P : ℕ → ℕ → Type 0)
    → ((i n : ℕ) → length s ≤ i → P i n)
    → ((i n : ℕ) → i < length s → ((j m : ℕ) → i < j → P j m) → P i n)
    → (k i n : ℕ) → length s ≤ i + k → P i n
walk s P e f zero i n h = e i n (omega arith)
walk s P e f (suc k) i n h = elim (dec_lt i (length s)) [
  | yes p ↦ f i n p (λ j m q. walk s P e f k j m (omega arith))
  | no q ↦ e i n (omega arith)
]

pub everywhere : (s : List ℕ) (P : ℕ → ℕ → Type 0)
    → ((i n : ℕ) → length s ≤ i → P i n)
    → ((i n : ℕ) → i < length s → ((j m : ℕ) → i < j → P j m) → P i n)
    → (i n : ℕ) → P i n
everywhere s P e f i n = walk s P e f (length s) i n (omega arith)

-- a byte is a newline if its class says so
abbrev breaks : Class → Bool
breaks Letter = false
breaks Space = false
breaks Digit = false
breaks SemiColon = false
breaks NewLine = true
breaks Quote = false
breaks Hash = false
breaks Other = false

no_break : (a b c d e f : Bool)
    → breaks (cond a Letter (cond b Space (cond c Digit (cond d SemiColon (cond false NewLine (cond e Quote (cond f Hash Other))))))) ≡ false
no_break true b c d e f = refl
no_break false true c d e f = refl
no_break false false true d e f = refl
no_break false false false true e f = refl
no_break false false false false true f = refl
no_break false false false false false true = refl
no_break false false false false false false = refl

newline_class : (b : ℕ) → is_newline b ≡ breaks (class_of b)
unfolding class_of
newline_class b = elim (ℕ_discrete b 10) [
  | yes e ↦ rw e
  | no h ↦ rw (ne_eqb b 10 h) (sym (no_break (is_letter b) (is_space b) (is_digit b || eqb b 45) (eqb b 59) (eqb b 34) (eqb b 35)))
]

-- a byte of a run that newlines end is no newline
no_newline : (p : ℕ → Bool) (b : ℕ) → p 10 ≡ false → p b ≡ true → is_newline b ≡ false
no_newline p b h g = elim (ℕ_discrete b 10) [
  | yes e ↦ let z : ◌≡◌ {A = ℕ} 0 1 = cc (ap p e) in absurd (omega arith)
  | no h ↦ ne_eqb b 10 h
]

-- no newline stands at the places from a on before e
abbrev pub Unbroken : List ℕ → ℕ → ℕ → Type 0
Unbroken s a e = (k : ℕ) → a ≤ k → k < e → newline_at s k ≡ false

-- no newline stands in a token that is no string literal
abbrev pub Plain : List ℕ → Lexed → Type 0
Plain s (Found t) = (t.kind ≡ Kind.StringLiteral) ⊎ Unbroken s t.start t.stop
Plain s (End n) = Unit {0}
Plain s (Bad i n) = Unit {0}

-- the answer r is the first from the place i and the line n: the others follow it, it lies within the text, its line counts the newlines before it
pub record First (s : List ℕ) (i n : ℕ) (r : Lexed) : Type 0 where
  pub whole : from s i n ≡ r ∷ rest s r
  pub within : Within s i r
  pub line : n ≤ last_line → line_of r ≡ min (n + newlines s i (place_of s r)) last_line
  pub plain : Plain s r

-- the answers from i and n are those from the later place j and the line m: no token starts before j, and m counts the newlines before it
record Pass (s : List ℕ) (i n j m : ℕ) : Type 0 where
  later : i < j
  inside : j ≤ length s
  same : from s i n ≡ from s j m
  line : n ≤ last_line → m ≡ min (n + newlines s i j) last_line

module _ (s : List ℕ) where
  newline_at_lem : {i n : ℕ} {c : Class} → At s i n c → newline_at s i ≡ breaks c
  newline_at_lem {i} a = newline_class (get_or s i 0) ∙ ap breaks a.class

  -- a byte that is no newline, and a run after it that newlines end
  clean : (p : ℕ → Bool) → p 10 ≡ false → (i : ℕ) → newline_at s i ≡ false → Unbroken s i (past p s (i + 1))
  clean p e i h k g l = elim (ℕ_discrete k i) [
    | yes q ↦ rw q h
    | no q ↦ no_newline p (get_or s k 0) e (inside p s (i + 1) k (omega arith) l)
  ]

  -- an answer does not stand before the place that it is looked for from
  pub ahead : (i : ℕ) (r : Lexed) → i ≤ length s → Within s i r → i ≤ place_of s r
  ahead i (Found t) h w = w.after
  ahead i (End n) h w = h
  ahead i (Bad j n) h w = w.0

  pub sooner : (i j : ℕ) (r : Lexed) → i ≤ j → Within s j r → Within s i r
  sooner i j (Found t) h w = record { after = omega arith; some = w.some; inside = w.inside }
  sooner i j (End n) h w = tt
  sooner i j (Bad k n) h w = (omega arith, w.1)

  passed : {i n j m : ℕ} {r : Lexed} → Pass s i n j m → First s j m r → First s i n r
  passed {i} {n} {j} {m} {r} p f = record {
    whole = p.same ∙ f.whole;
    within = sooner i j r (omega arith) f.within;
    line = λ h. omega (
      arith,
      p.line h,
      f.line (omega (arith, p.line h)),
      count_split (newline_at s) i j (place_of s r) (omega arith) (ahead j r p.inside f.within),
    );
    plain = f.plain;
  }

  found : (i n : ℕ) (k : Kind) (j : ℕ) → from s i n ≡ token k i j n ∷ from s j n → i < j → j ≤ length s → (k ≡ Kind.StringLiteral) ⊎ Unbroken s i j → First s i n (token k i j n)
  found i n k j q h g u = record {
    whole = q;
    within = record { after = omega arith; some = h; inside = g };
    line = λ l. omega (arith, count_le (newline_at s) i i);
    plain = u;
  }

  -- a token that is a byte and a run after it that newlines end
  run_found : (p : ℕ → Bool) → p 10 ≡ false → (i n : ℕ) (k : Kind) → i < length s → newline_at s i ≡ false
      → from s i n ≡ token k i (past p s (i + 1)) n ∷ from s (past p s (i + 1)) n → First s i n (token k i (past p s (i + 1)) n)
  run_found p e i n k h b q = found i n k (past p s (i + 1)) q (omega arith) (within p s (i + 1) (omega arith)) (inr (clean p e i b))

  finish : (i n : ℕ) → length s ≤ i → First s i n (End n)
  finish i n h = record { whole = none s i n h; within = tt; line = λ l. omega (arith, count_le (newline_at s) i (length s)); plain = tt }

  bad : (i n : ℕ) → At s i n Other → First s i n (Bad i n)
  bad i n a = record { whole = at_other a; within = (omega arith, a.inside); line = λ l. omega (arith, count_le (newline_at s) i i); plain = tt }

  head_is : {i n : ℕ} {r : Lexed} → First s i n r → First s i n (lex_from s i n)
  head_is {i} {n} {r} f = rw (first s i n r (rest s r) f.whole) at f

  via : {i n j m : ℕ} → Pass s i n j m → First s j m (lex_from s j m) → First s i n (lex_from s i n)
  via p f = head_is (passed p f)

  over_space : {i n : ℕ} → At s i n Space → Pass s i n (i + 1) n
  over_space {i} {n} a = record {
    later = omega arith;
    inside = omega (arith, a.inside);
    same = at_space a;
    line = λ l. rw (count_one (newline_at s) i, newline_at_lem a) (omega arith);
  }

  over_newline : {i n : ℕ} → At s i n NewLine → Pass s i n (i + 1) (next_line n)
  over_newline {i} {n} a = record {
    later = omega arith;
    inside = omega (arith, a.inside);
    same = at_newline a _ refl;
    line = λ l. rw (count_one (newline_at s) i, newline_at_lem a) (omega arith);
  }

  over_comment : {i n : ℕ} → At s i n Hash → Pass s i n (past in_comment s (i + 1)) n
  over_comment {i} {n} a = record {
    later = omega arith;
    inside = within in_comment s (i + 1) (omega (arith, a.inside));
    same = at_hash a _ refl;
    line = λ l. omega (arith, count_none (newline_at s) i (past in_comment s (i + 1)) (clean in_comment refl i (newline_at_lem a)));
  }

  alone : {i n : ℕ} → At s i n SemiColon → Unbroken s i (i + 1)
  alone {i} a k g l =
      let e : k ≡ i = omega arith in
      rw e (newline_at_lem a)

  one : (i n : ℕ) → ((j m : ℕ) → i < j → First s j m (lex_from s j m)) → (c : Class) → At s i n c → First s i n (lex_from s i n)
  one i n f Letter a = head_is (run_found in_name refl i n Kind.Name a.inside (newline_at_lem a) (at_letter a _ refl))
  one i n f Space a = via (over_space a) (f (i + 1) n (omega arith))
  one i n f Digit a = head_is (run_found in_number refl i n Kind.Number a.inside (newline_at_lem a) (at_digit a _ refl))
  one i n f SemiColon a = head_is (found i n Kind.SemiColon (i + 1) (at_semicolon a) (omega arith) (omega (arith, a.inside)) (inr (alone a)))
  one i n f NewLine a = via (over_newline a) (f (i + 1) (next_line n) (omega arith))
  one i n f Quote a = head_is (found i n Kind.StringLiteral _ (at_quote a _ refl) (omega (arith, a.inside)) (omega arith) (inl refl))
  one i n f Hash a = via (over_comment a) (f (past in_comment s (i + 1)) n (omega arith))
  one i n f Other a = head_is (bad i n a)

pub first_answer : (s : List ℕ) (i n : ℕ) → First s i n (lex_from s i n)
first_answer s =
    everywhere s (λ i n. First s i n (lex_from s i n))
    (λ i n h. head_is s (finish s i n h))
    (λ i n h f. one s i n f (class_of (get_or s i 0)) (record { inside = h; class = refl }))
