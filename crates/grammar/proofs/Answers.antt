-- What holds of an answer, by its two cases: it gives something, or it refuses with a number.
use Prim.Native.Nat.{ℕ}
use mathlib.Core.Path.{◌≡◌, refl}
use mathlib.Core.Bool.{Bool, true, false, cond, ◌&&◌}
use native.Mathlib.Omega.{arith}
use borrow.Author.Tests.{leb-true, le-leb}
use lib.Dec.{leb}
use Rattle.word.proofs.Words.{both}
use Rattle.grammar.specs.Tokens.{Ahead, Answer, ok, refused, then}

-- the numbers of the refusals that reading gives
abbrev pub ranged : ℕ → Bool
ranged n = leb 3 n && leb n 10

-- and those of complaints about the token held
abbrev pub complains : ℕ → Bool
complains n = leb 4 n && leb n 10

pub complains_ranged : (n : ℕ) → complains n ≡ true → ranged n ≡ true
complains_ranged n e = let h = both (leb 4 n) (leb n 10) e in rw (le-leb 3 n (omega (arith, leb-true 4 n h.0)), h.1)

-- an answer where Q holds of what it gives and what is then ahead, or that refuses with one of those numbers
abbrev pub Ok : {A M B : Type 0} → (B → Ahead A M → Type 0) → Answer A M B → Type 0
Ok Q (ok v b) = Q v b
Ok Q (refused n m) = ranged n ≡ true

pub ok_then : {A M B C : Type 0} (Q : B → Ahead A M → Type 0) (S : C → Ahead A M → Type 0) (t : Answer A M B) (k : B → Ahead A M → Answer A M C)
    → Ok Q t → ((v : B) (b : Ahead A M) → Q v b → Ok S (k v b)) → Ok S (then t k)
ok_then Q S (ok v b) k h f = f v b h
ok_then Q S (refused n m) k h f = h

pub ok_map : {A M B : Type 0} (Q S : B → Ahead A M → Type 0) (t : Answer A M B) → ((v : B) (b : Ahead A M) → Q v b → S v b) → Ok Q t → Ok S t
ok_map Q S (ok v b) f h = f v b h
ok_map Q S (refused n m) f h = h

pub ok_cond : {A M B : Type 0} (Q : B → Ahead A M → Type 0) (c : Bool) (t u : Answer A M B) → Ok Q t → Ok Q u → Ok Q (cond c t u)
ok_cond Q true t u h k = h
ok_cond Q false t u h k = k

pub ok_when : {A M B : Type 0} (Q : B → Ahead A M → Type 0) (c : Bool) (t u : Answer A M B) → (c ≡ true → Ok Q t) → Ok Q u → Ok Q (cond c t u)
ok_when Q true t u h k = h refl
ok_when Q false t u h k = k

-- an answer that, where it is no refusal, gives something of which P holds
abbrev pub Holds : {A M B : Type 0} → (B → Type 0) → Answer A M B → Type 0
Holds P (ok b a) = P b
Holds P (refused n m) = Unit {0}

module _ {A M B : Type 0} (P : B → Type 0) where
  pub holds_then : {C : Type 0} (Q : C → Type 0) (t : Answer A M C) (k : C → Ahead A M → Answer A M B) → Holds Q t → ((c : C) (a : Ahead A M) → Q c → Holds P (k c a)) → Holds P (then t k)
  holds_then Q (ok c a) k h f = f c a h
  holds_then Q (refused n m) k h f = tt

  pub holds_after : {C : Type 0} (t : Answer A M C) (k : C → Ahead A M → Answer A M B) → ((c : C) (a : Ahead A M) → Holds P (k c a)) → Holds P (then t k)
  holds_after (ok c a) k f = f c a
  holds_after (refused n m) k f = tt

  pub holds_cond : (c : Bool) (t u : Answer A M B) → (c ≡ true → Holds P t) → (c ≡ false → Holds P u) → Holds P (cond c t u)
  holds_cond true t u p q = p refl
  holds_cond false t u p q = q refl

  pub holds_all : ((b : B) → P b) → (t : Answer A M B) → Holds P t
  holds_all f (ok b a) = f b
  holds_all f (refused n m) = tt
