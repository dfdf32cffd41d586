-- The records of a reading, from the file's fields: a name's bytes are the text's where it lies, and no place is the library's number.
use Prim.Native.Nat.{ℕ, zero, suc, ◌+◌, ◌-◌, ◌<◌, ◌≤◌}
use mathlib.Core.Path.{◌≡◌, refl, ap}
use mathlib.Core.Bool.{Bool, true, false, cond}
use mathlib.Core.Logic.{⊎_elim, inl, inr}
use mathlib.Core.List.Memᴰ
use mathlib.Core.List.{List, [], ◌∷◌, map, Memᴰ}
use native.Mathlib.Nat.{add-zero}
use native.Mathlib.Omega.{arith}
use borrow.Author.Tests.{ne_eqb}
use lib.Dec.{eqb}
use lib.ListN.{length, take, drop}
use lib.Seq.{drop-drop, take-take}
use Rattle.record.specs.declared.Record.{Record}
use Rattle.record.specs.Made.{library}
use Rattle.lexer.specs.declared.Lexed.{Lexed}
use Rattle.lexer.specs.declared.Lexed.TheVariants.{Found, End, Bad}
use Rattle.std.specs.Prelude.{Result, Ok, Err, ⊤}
use Rattle.refusal.specs.declared.Refusal.{Refusal}
use Rattle.lexer.specs.Lex.{from}
use Rattle.lexer.specs.Screen.{screened}
use Rattle.lexer.proofs.Cleared.{clear_short}
use Rattle.grammar.specs.Tokens.{Tok, Ahead, bad}
use Rattle.grammar.specs.Table.{body}
use Rattle.grammar.specs.Engine.{Maybe, none, some, Name, Rec}
use Rattle.grammar.specs.Turns.{Outcome, read, stopped, turns, label_of}
use Rattle.grammar.specs.Reading.{Mark, tok, ahead, owner_at, name_at, name_length, filed, start, read_ahead, Reading, records, refusal_of, told, reading}
use Rattle.grammar.specs.Standing.{Every, places_of}
use Rattle.grammar.proofs.Kept.{all, From, Named}
use Rattle.grammar.proofs.Turned.{Reads}
use Rattle.grammar.proofs.Rises.{Owned, owned, AllNamed, all_named}
use Rattle.grammar.proofs.Places.{places_within}
use Rattle.render.specs.Plain.{owner_of, bare}
use Rattle.render.proofs.Every.{every_member}
use Rattle.render.proofs.Stands.{plain_rec}

-- A READING, AS WHAT THE TURNS READ

-- the text passes the screen, and the records are those that the turns read
abbrev pub FromTurns : List ℕ → List Record → Type 0
FromTurns s rs = (qs : List (Rec ℕ)) × (screened s ≡ Ok tt) × (read_ahead (ahead s (from s 0 1)) ≡ read qs) × (rs ≡ map filed qs)

pub from_turns : (s : List ℕ) (rs : List Record) → reading s ≡ records rs → FromTurns s rs
unfolding reading
from_turns s rs = go (screened s) refl
  where
    turned : screened s ≡ Ok tt → (o : Outcome Mark (Rec ℕ)) → read_ahead (ahead s (from s 0 1)) ≡ o → told o ≡ records rs → FromTurns s rs
    turned c (read qs) e f = (qs, c, e, cc)
    turned c (stopped n m) e f = absurd (let z : ◌≡◌ {A = ℕ} 0 1 = cc in omega arith)

    go : (c : Result ⊤ Refusal) → screened s ≡ c → elim c as (λ d. Reading) [
      | Err r ↦ refusal_of r
      | Ok clear ↦ told (read_ahead (ahead s (from s 0 1)))
    ] ≡ records rs → FromTurns s rs
    go (Err r) c f = absurd (let z : ◌≡◌ {A = ℕ} 0 1 = cc in omega arith)
    go (Ok clear) c f = turned c (read_ahead (ahead s (from s 0 1))) refl f

pub told_turns : (s : List ℕ) (qs : List (Rec ℕ)) → screened s ≡ Ok tt → read_ahead (ahead s (from s 0 1)) ≡ read qs → reading s ≡ records (map filed qs)
unfolding reading
told_turns s qs c e = rw (c, reading) (ap told e)

-- what holds of the records of all turns holds of those
module _ (P : List (Rec ℕ) → Type 0) (a : Ahead ℕ Mark) (h : (n : ℕ) → Reads P (turns body n start a)) where
  ahead_reads : Reads P (read_ahead a)
  unfolding read_ahead
  ahead_reads = go (eqb a.held.kind bad)
    where
      go : (c : Bool) → Reads P (cond c (stopped 3 a.held.mark) (turns body (suc (length a.rest)) start a))
      go true = tt
      go false = h (suc (length a.rest))

  of_turns : (qs : List (Rec ℕ)) → read_ahead a ≡ read qs → P qs
  of_turns qs e = rw e at ahead_reads

-- NAMES

-- a part that is asked to be no longer than it is
take_part : {A : Type 0} (n : ℕ) (l : List A) → take (length (take n l)) l ≡ take n l
take_part zero l = refl
take_part (suc n) [] = refl
take_part (suc n) (b ∷ l) = ap (λ k. b ∷ k) (take_part n l)

-- the bytes of a token are the text's where it starts
abbrev Lies : List ℕ → Tok ℕ Mark → Type 0
Lies s t = take (length t.bytes) (drop t.at s) ≡ t.bytes

tok_lies : (s : List ℕ) (r : Lexed) → Lies s (tok s r)
tok_lies s (Found t) = take_part (t.stop - t.start) (drop t.start s)
tok_lies s (End n) = refl
tok_lies s (Bad i n) = refl

each_lies : (s : List ℕ) (l : List Lexed) (t : Tok ℕ Mark) → Memᴰ t (map (tok s) l) → Lies s t
each_lies s [] t m = absurd (Memᴰ.not-nil m)
each_lies s (r ∷ l) t m = ⊎_elim (λ e. rw e (tok_lies s r)) (each_lies s l t) (Memᴰ.cases_cons m)

ahead_lies : (s : List ℕ) (l : List Lexed) (t : Tok ℕ Mark) → Memᴰ t (all (ahead s l)) → Lies s t
ahead_lies s [] = each_lies s (End 0 ∷ [])
ahead_lies s (r ∷ l) = each_lies s (r ∷ l)

-- and so are those between its quotes
inside_lies : (s w : List ℕ) (i n : ℕ) → take (length w) (drop i s) ≡ w → length w ≡ n + 2 → take n (drop 1 w) ≡ take n (drop (i + 1) s)
inside_lies s w i n e h =
    let k : length w ≡ suc (suc n) = omega arith in
    rw (← e, k, ← drop-drop 1 i s) (cut (drop i s))
  where
    cut : (l : List ℕ) → take n (drop 1 (take (suc (suc n)) l)) ≡ take n (drop 1 l)
    cut [] = refl
    cut (b ∷ l) = take-take n (suc n) l (omega arith)

name_lies : (s : List ℕ) (t : Tok ℕ Mark) (n : Name ℕ) → Lies s t → From t n → take (name_length (some n)) (drop (name_at (some n)) s) ≡ label_of (some n)
name_lies s t n h (inl e) = rw (e, add-zero) h
name_lies s t n h (inr (k, l, e)) =
    rw (e, inside_lies s t.bytes t.at k h l) (take_part k (drop (t.at + 1) s))

names_lie : (s : List ℕ) (ts : List (Tok ℕ Mark)) → ((t : Tok ℕ Mark) → Memᴰ t ts → Lies s t) → (m : Maybe (Name ℕ)) → Named ts m
    → take (name_length m) (drop (name_at m) s) ≡ label_of m
names_lie s ts h none g = refl
names_lie s ts h (some n) g = name_lies s g.0 n (h g.0 g.1) g.2

-- OWNERS

abbrev Kept : Maybe ℕ → Type 0
Kept o = owner_of (owner_at o) ≡ o

low_kept : (p : ℕ) → p < library → Kept (some p)
low_kept p h = rw (ne_eqb p library (λ e. omega arith))

-- RECORDS

module _ (s : List ℕ) (ts : List (Tok ℕ Mark)) (h : (t : Tok ℕ Mark) → Memᴰ t ts → Lies s t) (short : length s ≤ library) where
  all_bared : (known : List (Maybe ℕ)) (qs : List (Rec ℕ)) → Every Kept known → Every (λ p. p < length s) (places_of (map filed qs)) → Owned known qs → AllNamed ts qs
      → map (bare s) (map filed qs) ≡ map plain_rec qs
  all_bared known [] k w o n = refl
  all_bared known (q ∷ qs) k w o n =
      rw (every_member Kept o.0 k, names_lie s ts h q.name n.0)
      (ap (λ l. plain_rec q ∷ l) (all_bared (some q.at ∷ known) qs (low_kept q.at (omega (arith, w.0)), k) w.1 o.1 n.1))

-- THE RECORDS OF A READING ARE THOSE THAT THE TURNS READ, with their places
pub bared : (s : List ℕ) (qs : List (Rec ℕ)) → screened s ≡ Ok tt → read_ahead (ahead s (from s 0 1)) ≡ read qs
    → map (bare s) (map filed qs) ≡ map plain_rec qs
bared s qs c t =
    let a = ahead s (from s 0 1) in
    all_bared s (all a) (ahead_lies s (from s 0 1)) (omega (arith, clear_short s c)) (none ∷ []) qs (refl, tt)
    (places_within s (map filed qs) (told_turns s qs c t))
    (of_turns (Owned (none ∷ [])) a (λ n. owned (none ∷ []) n start a (Memᴰ.head refl, tt)) qs t)
    (of_turns (AllNamed (all a)) a (λ n. all_named n start a) qs t)
