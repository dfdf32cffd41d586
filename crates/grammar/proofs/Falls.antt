-- The reading never stops short: every turn that goes on has taken a token, so as many turns as there are tokens suffice.
use Prim.Native.Nat.{ℕ, zero, suc, ◌≤◌, ◌<◌}
use mathlib.Core.Path.{◌≡◌, refl, ap, subst, ◌∙◌}
use mathlib.Core.Bool.{true}
use mathlib.Core.List.{List, [], ◌∷◌}
use native.Mathlib.Omega.{arith}
use borrow.Author.Tests.{leb-true}
use lib.Dec.{leb}
use lib.ListN.{length}
use Rattle.word.proofs.Words.{both}
use Rattle.grammar.specs.Tokens.{Ahead}
use Rattle.grammar.specs.Table.{body}
use Rattle.grammar.specs.Engine.{Rec, Frame}
use Rattle.grammar.specs.Turns.{State, Turn, emit, moved, done, halted, Outcome, read, stopped, more, turn, turns}
use Rattle.grammar.proofs.Answers.{ranged}
use Rattle.grammar.proofs.Kept.{Suf, here, there}
use Rattle.grammar.proofs.Turned.{Whole, turn_whole}

-- A TURN

-- a turn that goes on with fewer than n tokens, is done, or halts with one of the numbers
abbrev pub Less : {A M R : Type 0} → ℕ → Turn A M R → Type 0
Less n (emit r s b) = length b.rest < n
Less n (moved s b) = length b.rest < n
Less n done = Unit {0}
Less n (halted k p) = ranged k ≡ true

suf_less : {B : Type 0} {b : B} {k l : List B} → Suf (b ∷ k) l → length k < length l
suf_less here = omega arith
suf_less (there s) = omega (arith, suf_less s)

pub turn_less : {A M : Type 0} (v : ℕ) (fs : List (Frame A)) (a : Ahead A M) → Less (length a.rest) (turn body v fs a)
turn_less {A} {M} v fs a = go (turn body v fs a) (turn_whole v fs a)
  where
    go : (t : Turn A M (Rec A)) → Whole (λ r. Unit {0}) fs a t → Less (length a.rest) t
    go (emit r s b) h = suf_less h.0.ahead
    go (moved s b) h = suf_less h.ahead
    go done h = tt
    go (halted n p) h = h

-- THE READING WITHOUT A COUNT OF TURNS

abbrev pub read_on : {A M : Type 0} → State A → Ahead A M → Outcome M (Rec A)
read_on s a = turns body (suc (length a.rest)) s a

-- a turn, and then k from where it leaves off
abbrev pub after : {A M : Type 0} → (State A → Ahead A M → Outcome M (Rec A)) → Turn A M (Rec A) → Outcome M (Rec A)
after k (emit r t b) = more r (k t b)
after k (moved t b) = k t b
after k done = read []
after k (halted n p) = stopped n p

-- the refusal of an outcome is one of 3 to 10
abbrev Ranged : {M R : Type 0} → Outcome M R → Type 0
Ranged (read rs) = Unit {0}
Ranged (stopped n p) = ranged n ≡ true

module _ {A M : Type 0} where
  abbrev one : State A → Ahead A M → Turn A M (Rec A)
  one s a = turn body s.version s.blocks a

  turns_after : (n : ℕ) (s : State A) (a : Ahead A M) → turns body (suc n) s a ≡ after (turns body n) (one s a)
  unfolding turns
  turns_after n s a = go (one s a) refl
    where
      go : (t : Turn A M (Rec A)) → one s a ≡ t → turns body (suc n) s a ≡ after (turns body n) t
      go (emit r t b) e = rw (e, turns)
      go (moved t b) e = rw (e, turns)
      go done e = rw (e, turns)
      go (halted k p) e = rw (e, turns)

  after_alike : (n : ℕ) (t : Turn A M (Rec A)) → Less n t → (k l : State A → Ahead A M → Outcome M (Rec A))
      → ((s : State A) (b : Ahead A M) → length b.rest < n → k s b ≡ l s b) → after k t ≡ after l t
  after_alike n (emit r s b) h k l e = ap (more r) (e s b h)
  after_alike n (moved s b) h k l e = e s b h
  after_alike n done h k l e = refl
  after_alike n (halted j p) h k l e = refl

  -- any two counts of turns that exceed the tokens give the same
  alike : (n m : ℕ) (s : State A) (a : Ahead A M) → length a.rest < n → length a.rest < m → turns body n s a ≡ turns body m s a
  alike zero m s a h l = absurd (let z : ⊥ = omega arith in z)
  alike (suc n) zero s a h l = absurd (let z : ⊥ = omega arith in z)
  alike (suc n) (suc m) s a h l = rw (turns_after n s a, turns_after m s a)
      (after_alike (length a.rest) (one s a) (turn_less s.version s.blocks a) (turns body n) (turns body m) (λ t b g. alike n m t b (omega arith) (omega arith)))

  pub enough : (n : ℕ) (s : State A) (a : Ahead A M) → length a.rest < n → turns body n s a ≡ read_on s a
  enough n s a h = alike n (suc (length a.rest)) s a h (omega arith)

  -- a reading is its first turn, and then the reading from there
  pub unrolls : (s : State A) (a : Ahead A M) → read_on s a ≡ after read_on (turn body s.version s.blocks a)
  unrolls s a = turns_after (length a.rest) s a
      ∙ after_alike (length a.rest) (one s a) (turn_less s.version s.blocks a) (turns body (length a.rest)) read_on (enough (length a.rest))

  -- by what the turn is

  pub reads_emit : (s : State A) (a : Ahead A M) {r : Rec A} {t : State A} {b : Ahead A M} → turn body s.version s.blocks a ≡ emit r t b → read_on s a ≡ more r (read_on t b)
  reads_emit s a e = unrolls s a ∙ ap (after read_on) e

  pub reads_moved : (s : State A) (a : Ahead A M) {t : State A} {b : Ahead A M} → turn body s.version s.blocks a ≡ moved t b → read_on s a ≡ read_on t b
  reads_moved s a e = unrolls s a ∙ ap (after read_on) e

  pub reads_done : (s : State A) (a : Ahead A M) → turn body s.version s.blocks a ≡ done → read_on s a ≡ read []
  reads_done s a e = unrolls s a ∙ ap (after read_on) e

  pub reads_halted : (s : State A) (a : Ahead A M) {n : ℕ} {p : M} → turn body s.version s.blocks a ≡ halted n p → read_on s a ≡ stopped n p
  reads_halted s a e = unrolls s a ∙ ap (after read_on) e

  pub falls_emit : (s : State A) (a : Ahead A M) {r : Rec A} {t : State A} {b : Ahead A M} → turn body s.version s.blocks a ≡ emit r t b → length b.rest < length a.rest
  falls_emit s a e = subst (Less (length a.rest)) e (turn_less s.version s.blocks a)

  pub falls_moved : (s : State A) (a : Ahead A M) {t : State A} {b : Ahead A M} → turn body s.version s.blocks a ≡ moved t b → length b.rest < length a.rest
  falls_moved s a e = subst (Less (length a.rest)) e (turn_less s.version s.blocks a)

  -- THE NUMBERS OF REFUSALS

  after_ranged : (n : ℕ) (t : Turn A M (Rec A)) → Less n t → (k : State A → Ahead A M → Outcome M (Rec A))
      → ((s : State A) (b : Ahead A M) → length b.rest < n → Ranged (k s b)) → Ranged (after k t)
  after_ranged n (emit r s b) h k f = go (k s b) (f s b h)
    where
      go : (o : Outcome M (Rec A)) → Ranged o → Ranged (more r o)
      go (read rs) g = tt
      go (stopped j p) g = g
  after_ranged n (moved s b) h k f = f s b h
  after_ranged n done h k f = tt
  after_ranged n (halted j p) h k f = h

  turns_ranged : (n : ℕ) (s : State A) (a : Ahead A M) → length a.rest < n → Ranged (turns body n s a)
  turns_ranged zero s a h = absurd (let z : ⊥ = omega arith in z)
  turns_ranged (suc n) s a h = rw turns_after
      (after_ranged (length a.rest) (one s a) (turn_less s.version s.blocks a) (turns body n) (λ t b g. turns_ranged n t b (omega arith)))

  pub refusal_number : (s : State A) (a : Ahead A M) (n : ℕ) (m : M) → read_on s a ≡ stopped n m → (3 ≤ n) × (n ≤ 10)
  refusal_number s a n m e =
      let r : ranged n ≡ true = subst Ranged e (turns_ranged (suc (length a.rest)) s a (omega arith)) in
      let h = both (leb 3 n) (leb n 10) r in
      (leb-true 3 n h.0, leb-true n 10 h.1)

  pub never_short : (s : State A) (a : Ahead A M) (m : M) → read_on s a ≡ stopped 0 m → ⊥
  never_short s a m e = omega (arith, refusal_number s a 0 m e)
