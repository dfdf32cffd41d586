-- The code of a value is at most the number of the kind's values, and is not 0 where a first word that begins a value stands alone.
use Prim.Native.Nat.{ℕ, suc, ◌+◌, ◌≤◌, ◌<◌}
use mathlib.Core.Path.{◌≡◌, refl, sym}
use mathlib.Core.Bool.{Bool, true, false, cond, not, ◌&&◌, ◌||◌, false≢true}
use mathlib.Core.List.{List, [], ◌∷◌}
use native.Mathlib.Omega.{arith}
use borrow.Author.Tests.{leb-true, le-leb, eqb-true, eq-eqb, eqb-false}
use lib.Dec.{leb, eqb}
use Rattle.lexer.specs.Kinds as Kind
use Rattle.record.specs.Kinds.{VERSION, VIA}
use Rattle.word.specs.Words.{word_of, word}
use Rattle.word.specs.Codes.{kind_values, code_of, values_of, place_of}
use Rattle.word.proofs.Words.{both}
use Rattle.grammar.specs.Tokens.{Ahead, ok, then, complain, matches}
use Rattle.grammar.specs.Engine.{get_name, get_key, expect_key, parse_enum, begins, parse_second}
use Rattle.grammar.specs.Second.{goes_on, second_key}
use Rattle.grammar.specs.Listed.{Codes, kind_codes, allows, listed}
use Rattle.grammar.proofs.Answers.{Holds, holds_then, holds_after, holds_cond}
use Rattle.grammar.proofs.Second.{second_is_listed}

-- how many values a list has, two numbers for each
unfoldable pub pairs : List ℕ → ℕ
pairs [] = 0
pairs (w ∷ []) = 0
pairs (w ∷ v ∷ l) = suc (pairs l)

place_below : (n : ℕ) (l : List ℕ) (w v : ℕ) → 1 ≤ n → place_of n l w v < n + pairs l
unfolding place_of pairs
place_below n [] w v h = omega arith
place_below n (a ∷ []) w v h = omega arith
place_below n (a ∷ b ∷ l) w v h = go (eqb a w && eqb b v) (place_below (suc n) l w v (omega arith))
  where
    go : (c : Bool) → place_of (suc n) l w v < suc n + pairs l → cond c n (place_of (suc n) l w v) < n + suc (pairs l)
    go true q = omega arith
    go false q = omega arith

code_most : (k w v : ℕ) → code_of k w v ≤ pairs (values_of k)
unfolding code_of
code_most k w v = omega (arith, place_below 1 (values_of k) w v (omega arith))

-- a word that begins a value and no value of two words is a value by itself
alone_place : (n : ℕ) (l : List ℕ) (w : ℕ) → begins l w ≡ true → goes_on l w ≡ false → n ≤ place_of n l w 0
unfolding place_of begins goes_on
alone_place n [] w b g = absurd (false≢true b)
alone_place n (a ∷ []) w b g = absurd (false≢true b)
alone_place n (a ∷ u ∷ l) w b g = go (eqb a w) (eqb u 0) b g (alone_place (suc n) l w)
  where
    go : (c d : Bool) → (c || begins l w) ≡ true → ((c && not d) || goes_on l w) ≡ false
        → (begins l w ≡ true → goes_on l w ≡ false → suc n ≤ place_of (suc n) l w 0) → n ≤ cond (c && d) n (place_of (suc n) l w 0)
    go true true p q f = omega arith
    go true false p q f = absurd (false≢true (let e : false ≡ true = cc in e))
    go false d p q f = omega (arith, f p q)

alone_code : (k w : ℕ) → begins (values_of k) w ≡ true → goes_on (values_of k) w ≡ false → 1 ≤ code_of k w 0
unfolding code_of
alone_code k w b g = alone_place 1 (values_of k) w b g

-- a code of the kind
abbrev pub Coded : ℕ → ℕ → Type 0
Coded k c = (1 ≤ c) × (c ≤ pairs (values_of k))

-- a first word whose second word is asked for as a key word goes on with that word alone
unfoldable pub goes : ℕ → ℕ → Bool
goes k w = not (goes_on (values_of k) w) || leb 1 (code_of k w (second_key w))

unfoldable pub keyed_seconds : ℕ → Bool
keyed_seconds k = goes k (word "COVER") && goes k (word "OUTPUT")

or_true : (a b : Bool) → (not a || b) ≡ true → a ≡ true → b ≡ true
or_true true b e f = e
or_true false b e f = absurd (false≢true f)

or_false : (a b : Bool) → (not a || b) ≡ false → a ≡ true
or_false true b e = refl
or_false false b e = sym e

second_key_code : (k w : ℕ) → keyed_seconds k ≡ true → goes_on (values_of k) w ≡ true → eqb (second_key w) 0 ≡ false → 1 ≤ code_of k w (second_key w)
unfolding keyed_seconds goes
second_key_code k w s g z = leb-true 1 (code_of k w (second_key w)) (or_true (goes_on (values_of k) w) _ (go (eqb w (word "COVER")) (eqb w (word "OUTPUT")) refl refl) g)
  where
    go : (c d : Bool) → eqb w (word "COVER") ≡ c → eqb w (word "OUTPUT") ≡ d → goes k w ≡ true
    go true d e f = rw (eqb-true w (word "COVER") e) (both (goes k (word "COVER")) (goes k (word "OUTPUT")) s).0
    go false true e f = rw (eqb-true w (word "OUTPUT") f) (both (goes k (word "COVER")) (goes k (word "OUTPUT")) s).1
    go false false e f = absurd (false≢true (sym (simp (e, f) at z)))

module _ {A M : Type 0} (k : ℕ) where
  pub enum_coded : (code_for : ℕ → ℕ) → ((v : ℕ) → code_for v ≤ pairs (values_of k)) → (a : Ahead A M) → Holds (Coded k) (parse_enum code_for a)
  unfolding parse_enum
  enum_coded code_for m a = holds_after (Coded k) (get_name a) _ (λ t b. let c = code_for (word_of t.bytes) in
      holds_cond (Coded k) (eqb c 0) (complain 6 b) (ok c b) (λ e. tt) (λ e. (omega (arith, eqb-false c 0 e), m (word_of t.bytes))))

  pub value_coded : (a : Ahead A M) → Holds (Coded k) (parse_enum (λ w. code_of k w 0) a)
  value_coded a = enum_coded (λ w. code_of k w 0) (λ w. code_most k w 0) a

  expect_key_is : (w : ℕ) (a : Ahead A M) → Holds (λ v. v ≡ w) (expect_key w a)
  unfolding expect_key
  expect_key_is w a = holds_after (λ v. v ≡ w) (get_key a) _ (λ v b. holds_cond (λ v. v ≡ w) (eqb v w) (ok v b) (complain 7 b) (λ e. eqb-true v w e) (λ e. tt))

  pub second_coded : (w : ℕ) → begins (values_of k) w ≡ true → keyed_seconds k ≡ true → (a : Ahead A M) → Holds (Coded k) (parse_second k w a)
  second_coded w b s a = rw (second_is_listed k w a)
      (holds_cond (Coded k) (not g || (matches Kind.semicolon a && not (eqb c 0))) (ok c a) _ (λ e. (alone g (matches Kind.semicolon a) (eqb c 0) refl refl e, code_most k w 0))
      (λ e. holds_cond (Coded k) (eqb (second_key w) 0) (parse_enum follow a) (then (expect_key (second_key w) a) (λ v d. ok (code_of k w v) d))
      (λ z. enum_coded follow follow_most a)
      (λ z. holds_then (Coded k) (λ v. v ≡ second_key w) (expect_key (second_key w) a) (λ v d. ok (code_of k w v) d) (expect_key_is (second_key w) a)
      (λ v d q. (rw q (second_key_code k w s (or_false g _ e) z), code_most k w v)))))
    where
      g : Bool
      g = goes_on (values_of k) w

      c : ℕ
      c = code_of k w 0

      follow : ℕ → ℕ
      follow v = cond (eqb v 0) 0 (code_of k w v)

      follow_most : (v : ℕ) → follow v ≤ pairs (values_of k)
      follow_most v = go (eqb v 0)
        where
          go : (t : Bool) → cond t 0 (code_of k w v) ≤ pairs (values_of k)
          go true = omega arith
          go false = code_most k w v

      alone : (t m z : Bool) → g ≡ t → eqb c 0 ≡ z → (not t || (m && not z)) ≡ true → 1 ≤ c
      alone false m z p q e = alone_code k w b p
      alone true true false p q e = omega (arith, eqb-false c 0 q)
      alone true true true p q e = absurd (false≢true e)
      alone true false z p q e = absurd (false≢true e)

-- CODES THAT ARE LISTED

-- from one code to another of a kind all are listed
allows_between : (rs : List Codes) (k l h c : ℕ) → allows rs k l ≡ true → allows rs k h ≡ true → l ≤ c → c ≤ h → allows rs k c ≡ true
unfolding allows
allows_between [] k l h c p q e f = eq-eqb c 0 (omega (arith, eqb-true h 0 q))
allows_between (r ∷ rs) k l h c p q e f = go (eqb r.kind k) p q (λ p q. allows_between rs k l h c p q e f)
  where
    go : (t : Bool) → cond t (leb r.least l && leb l r.greatest) (allows rs k l) ≡ true → cond t (leb r.least h && leb h r.greatest) (allows rs k h) ≡ true
        → (allows rs k l ≡ true → allows rs k h ≡ true → allows rs k c ≡ true) → cond t (leb r.least c && leb c r.greatest) (allows rs k c) ≡ true
    go true p q g =
        let i = leb-true r.least l (both (leb r.least l) (leb l r.greatest) p).0 in
        let j = leb-true h r.greatest (both (leb r.least h) (leb h r.greatest) q).1 in
        rw (le-leb r.least c (omega arith), le-leb c r.greatest (omega arith))
    go false p q g = g p q

-- every code of the kind is listed
unfoldable pub valuable : ℕ → Bool
valuable k = listed k 1 && listed k (pairs (values_of k))

pub coded_listed : (k c : ℕ) → valuable k ≡ true → Coded k c → listed k c ≡ true
unfolding valuable listed
coded_listed k c e h =
    let v = both (listed k 1) (listed k (pairs (values_of k))) e in
    let l = both (leb VERSION k && leb k VIA) (allows kind_codes k 1) v.0 in
    let u = both (leb VERSION k && leb k VIA) (allows kind_codes k (pairs (values_of k))) v.1 in
    rw (l.0, allows_between kind_codes k 1 (pairs (values_of k)) c l.1 u.1 h.0 h.1)

-- no code of the table exceeds a byte
unfoldable small : List Codes → Bool
small [] = true
small (r ∷ rs) = leb r.greatest 255 && small rs

allows_small : (rs : List Codes) (k c : ℕ) → small rs ≡ true → allows rs k c ≡ true → c < 256
unfolding small allows
allows_small [] k c s e = omega (arith, eqb-true c 0 e)
allows_small (r ∷ rs) k c s e = let h = both (leb r.greatest 255) (small rs) s in
    go (eqb r.kind k) (leb-true r.greatest 255 h.0) e (allows_small rs k c h.1)
  where
    go : (t : Bool) → r.greatest ≤ 255 → cond t (leb r.least c && leb c r.greatest) (allows rs k c) ≡ true → (allows rs k c ≡ true → c < 256) → c < 256
    go true g e f = omega (arith, leb-true c r.greatest (both (leb r.least c) (leb c r.greatest) e).1)
    go false g e f = f e

-- a kind and a code that are listed are bytes
pub listed_fits : (k c : ℕ) → listed k c ≡ true → (1 ≤ k) × (k < 256) × (c < 256)
unfolding listed small kind_codes kind_values
listed_fits k c e =
    let h = both (leb VERSION k && leb k VIA) (allows kind_codes k c) e in
    let b = both (leb VERSION k) (leb k VIA) h.0 in
    let l = leb-true k VIA b.1 in
    (leb-true VERSION k b.0, omega arith, allows_small kind_codes k c refl h.1)
