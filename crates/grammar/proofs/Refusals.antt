-- The number, the place and the line of every refusal of a reading: the screen's are 1 and 2, and the others have the mark of a token
-- of the text, of its end or of its bad byte, which the lexer's theorems place and count.
use Prim.Native.Nat.{ℕ, suc, ◌≤◌}
use mathlib.Core.Path.{◌≡◌, refl, sym}
use mathlib.Core.Bool.{Bool, true, false, cond, false≢true}
use mathlib.Core.Logic.{◌⊎◌, inl, inr, ⊎_elim}
use mathlib.Core.List.{List, [], ◌∷◌, map, Memᴰ}
use native.Mathlib.Omega.{arith}
use borrow.Author.Tests.{leb-true, eqb-true}
use lib.Dec.{leb, eqb, ltb}
use lib.ListN.{length}
use Rattle.refusal.specs.declared.Refusal.{Refusal}
use Rattle.refusal.specs.Table.{refused, too_long, not_ascii}
use Rattle.lexer.specs.declared.Lexed.{Lexed}
use Rattle.lexer.specs.declared.Lexed.TheVariants.{Found, End, Bad}
use Rattle.std.specs.Prelude.{Result, Ok, Err, ⊤}
use Rattle.lexer.specs.Kinds.{number_of}
use Rattle.lexer.specs.Lex.{from}
use Rattle.lexer.specs.Screen.{limit, first_high, screened}
use Rattle.lexer.proofs.Whole.{unrolls, each}
use Rattle.lexer.proofs.Lines.{line_all}
use Rattle.lexer.proofs.Stops.{line_stop}
use Rattle.lexer.proofs.Kinded.{Kinded, kinded}
use Rattle.lexer.proofs.Cleared.{clear_short}
use Rattle.word.proofs.Words.{both}
use Rattle.grammar.specs.Tokens.{Tok, Ahead, bad}
use Rattle.grammar.specs.Engine.{Rec}
use Rattle.grammar.specs.Turns.{Outcome, read, stopped}
use Rattle.grammar.specs.Reading.{Mark, tok, ahead, start, read_ahead, Reading, records, refusal_of, told, reading}
use Rattle.grammar.specs.Standing.{Every}
use Rattle.grammar.specs.Refusals.{line_at, Placed}
use Rattle.grammar.proofs.Answers.{complains}
use Rattle.grammar.proofs.Falls.{read_on, refusal_number as stopped_number}
use Rattle.grammar.proofs.Marks.{Coming, turns_stop}

-- what is to be shown of refusal n with the mark m, in a text s
abbrev Right : List ℕ → ℕ → Mark → Type 0
Right s n m = Placed s n m.place × (m.line ≡ line_at s m.place)

-- OF EACH TOKEN

complaint : (n : ℕ) → complains n ≡ true → 4 ≤ n
complaint n c = leb-true 4 n (both (leb 4 n) (leb n 10) c).0

module _ (s : List ℕ) (l : length s ≤ limit) where
  coming : (r : Lexed) → Memᴰ r (from s 0 1) → Kinded r → Coming (Right s) (tok s r)
  coming (Found t) m k = (
    λ e. absurd (omega (arith, eqb-true (number_of t.kind) bad e)),
    λ e n c. (record { three = λ q. absurd (omega (arith, complaint n c)); others = λ g. inl (t, m, refl) }, line_stop s 0 1 t m (omega arith)),
  )
  coming (End i) m k = (
    λ e. absurd (false≢true e),
    λ e n c. (record { three = λ q. absurd (omega (arith, complaint n c)); others = λ g. inr refl }, line_all s 0 1 (End i) m (omega arith)),
  )
  coming (Bad p i) m k = (
    λ e. (record { three = λ q. (i, m); others = λ g. absurd (let z : ⊥ = omega arith in z) }, line_all s 0 1 (Bad p i) m (omega arith)),
    λ e. absurd (false≢true (sym e)),
  )

kinded_all : (s : List ℕ) (r : Lexed) → Memᴰ r (from s 0 1) → Kinded r
kinded_all s = each s (λ i n r. Kinded r) (kinded s) (λ i n t e r m q. q) 0 1

every_map : (s : List ℕ) (P : Tok ℕ Mark → Type 0) (rs : List Lexed) → ((r : Lexed) → Memᴰ r rs → P (tok s r)) → Every P (map (tok s) rs)
every_map s P [] f = tt
every_map s P (r ∷ rs) f = (f r (Memᴰ.head refl), every_map s P rs (λ q m. f q (Memᴰ.tail m)))

-- OF THE READING AHEAD

-- the outcome is no refusal, or one of 3 to 10 of which R holds
abbrev Stopped : (ℕ → Mark → Type 0) → Outcome Mark (Rec ℕ) → Type 0
Stopped R (read rs) = Unit {0}
Stopped R (stopped n m) = (3 ≤ n) × (n ≤ 10) × R n m

module _ (R : ℕ → Mark → Type 0) (a : Ahead ℕ Mark) (h : Coming R a.held) (e : Every (Coming R) a.rest) where
  ahead_stopped : Stopped R (read_ahead a)
  unfolding read_ahead
  ahead_stopped = go (eqb a.held.kind bad) h.0 h.1
    where
      on : (o : Outcome Mark (Rec ℕ)) → read_on start a ≡ o → ((n : ℕ) (m : Mark) → o ≡ stopped n m → 3 ≤ n → R n m) → Stopped R o
      on (read rs) q f = tt
      on (stopped n m) q f = let b = stopped_number start a n m q in (b.0, b.1, f n m refl b.0)

      go : (c : Bool) → (c ≡ true → R 3 a.held.mark) → (c ≡ false → (n : ℕ) → complains n ≡ true → R n a.held.mark)
          → Stopped R (cond c (stopped 3 a.held.mark) (read_on start a))
      go true p q = (omega arith, omega arith, p refl)
      go false p q = on (read_on start a) refl (λ n m z. rw z at (turns_stop R (suc (length a.rest)) start a (q refl, e)))

clear_stopped : (s : List ℕ) → length s ≤ limit → (rs : List Lexed) → from s 0 1 ≡ rs → Stopped (Right s) (read_ahead (ahead s rs))
clear_stopped s l [] q = absurd (let z : ◌≡◌ {A = ℕ} 0 1 = cc (unrolls s 0 1) in omega arith)
clear_stopped s l (r ∷ rs) q = ahead_stopped (Right s) (ahead s (r ∷ rs)) (f r (Memᴰ.head refl)) (every_map s (Coming (Right s)) rs (λ a m. f a (Memᴰ.tail m)))
  where
    f : (a : Lexed) → Memᴰ a (r ∷ rs) → Coming (Right s) (tok s a)
    f a m = let g = rw (← q) at m in coming s l a g (kinded_all s a g)

-- OF THE READING

-- a refusal is the screen's, or one of 3 to 10 with its place and line
abbrev Told : List ℕ → Reading → Type 0
Told s (records rs) = Unit {0}
Told s (refusal_of r) = (screened s ≡ Err r) ⊎ ((3 ≤ r.number) × (r.number ≤ 10) × Placed s r.number r.place × (r.line ≡ line_at s r.place))

told_right : (s : List ℕ) (o : Outcome Mark (Rec ℕ)) → Stopped (Right s) o → Told s (told o)
told_right s (read rs) h = tt
told_right s (stopped n m) h = inr (h.0, h.1, h.2.0, h.2.1)

reading_told : (s : List ℕ) → Told s (reading s)
unfolding reading
reading_told s = go (screened s) refl
  where
    go : (c : Result ⊤ Refusal) → screened s ≡ c → Told s (elim c as (λ d. Reading) [
      | Err r ↦ refusal_of r
      | Ok clear ↦ told (read_ahead (ahead s (from s 0 1)))
    ])
    go (Err r) e = inl e
    go (Ok clear) e = told_right s (read_ahead (ahead s (from s 0 1))) (clear_stopped s (clear_short s e) (from s 0 1) refl)

screen_says : (s : List ℕ) (r : Refusal) → screened s ≡ Err r → (1 ≤ r.number) × (r.number ≤ 2) × (r.line ≡ 0)
unfolding screened
screen_says s r = go (ltb limit (length s)) (ltb (first_high s) (length s))
  where
    go : (b c : Bool) → ◌≡◌ {A = Result ⊤ Refusal} (cond b (Err (refused too_long 0 0)) (cond c (Err (refused not_ascii (first_high s) 0)) (Ok tt))) (Err r)
        → (1 ≤ r.number) × (r.number ≤ 2) × (r.line ≡ 0)
    go true c e = let z : r ≡ refused too_long 0 0 = cc in rw z (omega arith, omega arith, refl)
    go false true e = let z : r ≡ refused not_ascii (first_high s) 0 = cc in rw z (omega arith, omega arith, refl)
    go false false e = absurd (let z : ◌≡◌ {A = ℕ} 0 1 = cc in omega arith)

-- EVERY REFUSAL OF A READING, for every text
module _ (s : List ℕ) (n p l : ℕ) (e : reading s ≡ refusal_of (refused n p l)) where
  said : (screened s ≡ Err (refused n p l)) ⊎ ((3 ≤ n) × (n ≤ 10) × Placed s n p × (l ≡ line_at s p))
  said = rw e at (reading_told s)

  -- its number is one of 1 to 10
  pub refusal_number : (1 ≤ n) × (n ≤ 10)
  refusal_number = ⊎_elim (λ c. let h = screen_says s (refused n p l) c in (h.0, omega (arith, h.1))) (λ h. (omega (arith, h.0), h.1)) said

  -- 1 and 2 are the screen's, on line 0
  pub refusal_screen : n ≤ 2 → (screened s ≡ Err (refused n p l)) × (l ≡ 0)
  refusal_screen g = ⊎_elim (λ c. (c, (screen_says s (refused n p l) c).2)) (λ h. absurd (omega (arith, h.0))) said

  -- 3 stands at a byte that starts no token, 4 to 10 at the end of a token or of the text
  pub refusal_place : 3 ≤ n → Placed s n p
  refusal_place g = ⊎_elim (λ c. absurd (omega (arith, (screen_says s (refused n p l) c).1))) (λ h. h.2) said

  -- and their line is 1 plus the newlines outside quotes up to there
  pub refusal_line : 3 ≤ n → l ≡ line_at s p
  refusal_line g = ⊎_elim (λ c. absurd (omega (arith, (screen_says s (refused n p l) c).1))) (λ h. h.3) said
