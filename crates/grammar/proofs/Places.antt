-- Where the records of a text stand: its tokens start one after the other within it, and places, owners and names are theirs.
use Prim.Native.Nat.{ℕ, suc, ◌+◌, ◌≤◌, ◌<◌}
use mathlib.Core.Path.{◌≡◌, refl, ap}
use mathlib.Core.Bool.{Bool, true, false, cond}
use mathlib.Core.Logic.{⊎_elim, inl, inr}
use mathlib.Core.List.Memᴰ
use mathlib.Core.List.{List, [], ◌∷◌, map, Memᴰ}
use native.Mathlib.Omega.{arith}
use lib.Dec.{eqb}
use lib.ListN.{length, length-take, length-drop}
use Rattle.refusal.specs.declared.Refusal.{Refusal}
use Rattle.record.specs.declared.Record.{Record}
use Rattle.record.specs.Made.{library}
use Rattle.lexer.specs.declared.Lexed.{Lexed}
use Rattle.lexer.specs.declared.Lexed.TheVariants.{Found, End, Bad}
use Rattle.std.specs.Prelude.{Result, Ok, Err, ⊤}
use Rattle.lexer.specs.Lex.{from, rest, lex_from}
use Rattle.lexer.specs.Screen.{screened}
use Rattle.lexer.specs.Places.{Within}
use Rattle.lexer.proofs.First.{everywhere}
use Rattle.lexer.proofs.Laws.{none as nothing}
use Rattle.lexer.proofs.Whole.{unrolls, found_within}
use Rattle.lexer.proofs.Places.{within_all}
use Rattle.grammar.specs.Tokens.{Tok, Ahead, bad}
use Rattle.grammar.specs.Table.{body}
use Rattle.grammar.specs.Engine.{Maybe, none, some, Name, Rec}
use Rattle.grammar.specs.Turns.{Outcome, read, stopped, turns}
use Rattle.grammar.specs.Reading.{Mark, tok, ahead, owner_at, name_at, name_length, filed, start, read_ahead, Reading, records, refusal_of, told, reading}
use Rattle.grammar.specs.Standing.{Every, Rising, places_of, OwnedFrom, NameWithin}
use Rattle.grammar.proofs.Kept.{all, From, Named}
use Rattle.grammar.proofs.Turned.{Reads}
use Rattle.grammar.proofs.Rises.{Sub, stop, skip, keep, starts, ats, in_order, Owned, owned, AllNamed, all_named}

-- FROM THE TURNS TO THE READING: what holds of the records that the turns read holds of those of the reading

abbrev Told : (List Record → Type 0) → Reading → Type 0
Told Q (records rs) = Q rs
Told Q (refusal_of r) = Unit {0}

module _ (P : List (Rec ℕ) → Type 0) (Q : List Record → Type 0) (f : (rs : List (Rec ℕ)) → P rs → Q (map filed rs)) where
  told_law : (o : Outcome Mark (Rec ℕ)) → Reads P o → Told Q (told o)
  told_law (read rs) h = f rs h
  told_law (stopped n p) h = tt

  ahead_law : (a : Ahead ℕ Mark) → ((n : ℕ) → Reads P (turns body n start a)) → Told Q (told (read_ahead a))
  unfolding read_ahead
  ahead_law a g = go (eqb a.held.kind bad)
    where
      go : (c : Bool) → Told Q (told (cond c (stopped 3 a.held.mark) (turns body (suc (length a.rest)) start a)))
      go true = tt
      go false = told_law (turns body (suc (length a.rest)) start a) (g (suc (length a.rest)))

  module _ (s : List ℕ) (h : (n : ℕ) → Reads P (turns body n start (ahead s (from s 0 1)))) where
    reading_law : Told Q (reading s)
    unfolding reading
    reading_law = go (screened s)
      where
        go : (c : Result ⊤ Refusal) → Told Q (elim c [
          | Err r ↦ refusal_of r
          | Ok clear ↦ told (read_ahead (ahead s (from s 0 1)))
        ])
        go (Err r) = tt
        go (Ok clear) = ahead_law (ahead s (from s 0 1)) h

    pub of_reading : (rs : List Record) → reading s ≡ records rs → Q rs
    of_reading rs e = rw e at reading_law

-- PLACES: the records of a text stand one after the other, and within it

-- each below the next, from i on and below n
abbrev Between : ℕ → ℕ → List ℕ → Type 0
Between i n [] = Unit {0}
Between i n (p ∷ l) = (i ≤ p) × (p < n) × Between (suc p) n l

sooner : (i j n : ℕ) (l : List ℕ) → i ≤ j → Between j n l → Between i n l
sooner i j n [] h b = tt
sooner i j n (p ∷ l) h b = (omega arith, b.1, b.2)

between_sub : (i n : ℕ) {k l : List ℕ} → Sub k l → Between i n l → Between i n k
between_sub i n stop b = tt
between_sub i n (skip {p} {k} {l} s) b = between_sub i n s (sooner i (suc p) n l (omega arith) b.2)
between_sub i n (keep {p} {k} {l} s) b = (b.0, b.1, between_sub (suc p) n s b.2)

rising : (i n : ℕ) (l : List ℕ) → Between i n l → Rising l
rising i n [] b = tt
rising i n (p ∷ []) b = tt
rising i n (p ∷ q ∷ l) b = (b.2.0, rising (suc p) n (q ∷ l) b.2)

below : (i n : ℕ) (l : List ℕ) → Between i n l → Every (λ p. p < n) l
below i n [] b = tt
below i n (p ∷ l) b = (b.1, below (suc p) n l b.2)

-- the tokens of a text
between_more : {M : Type 0} (i n : ℕ) (t : Tok ℕ M) (l : List (Tok ℕ M)) → i ≤ t.at → t.at < n → Between (suc t.at) n (starts l) → Between i n (starts (t ∷ l))
between_more i n t [] h g b = tt
between_more i n t (u ∷ l) h g b = (h, g, b)

module _ (s : List ℕ) where
  abbrev InText : ℕ → ℕ → Type 0
  InText i n = Between i (length s) (starts (map (tok s) (from s i n)))

  first_between : (i n : ℕ) → ((j m : ℕ) → i < j → InText j m) → (r : Lexed) → lex_from s i n ≡ r
      → Between i (length s) (starts (map (tok s) (r ∷ rest s r)))
  first_between i n h (Found t) e =
      let w = found_within s i n t e in
      between_more i (length s) (tok s (Found t)) (map (tok s) (from s t.stop t.line)) w.after (omega arith)
      (sooner (suc t.start) t.stop (length s) (starts (map (tok s) (from s t.stop t.line))) w.some (h t.stop t.line (omega arith)))
  first_between i n h (End m) e = tt
  first_between i n h (Bad j m) e = tt

  in_text : (i n : ℕ) → InText i n
  in_text = everywhere s InText
      (λ i n h. rw (nothing s i n h) tt)
      (λ i n h f. rw (unrolls s i n) (first_between i n f (lex_from s i n) refl))

  ahead_between : (l : List Lexed) → Between 0 (length s) (starts (map (tok s) l)) → Between 0 (length s) (starts (all (ahead s l)))
  ahead_between [] h = tt
  ahead_between (r ∷ rs) h = h

places_filed : (rs : List (Rec ℕ)) → places_of (map filed rs) ≡ ats rs
places_filed [] = refl
places_filed (r ∷ rs) = ap (λ l. r.at ∷ l) (places_filed rs)

places_between : (s : List ℕ) (rs : List Record) → reading s ≡ records rs → Between 0 (length s) (places_of rs)
places_between s rs e = of_reading (λ qs. Sub (ats qs) (starts (all (ahead s (from s 0 1))))) (λ rs. Between 0 (length s) (places_of rs))
    (λ qs h. rw (places_filed qs) (between_sub 0 (length s) h (ahead_between s (from s 0 1) (in_text s 0 1))))
    s (λ n. in_order n start (ahead s (from s 0 1))) rs e

pub places_rise : (s : List ℕ) (rs : List Record) → reading s ≡ records rs → Rising (places_of rs)
places_rise s rs e = rising 0 (length s) (places_of rs) (places_between s rs e)

pub places_within : (s : List ℕ) (rs : List Record) → reading s ≡ records rs → Every (λ p. p < length s) (places_of rs)
places_within s rs e = below 0 (length s) (places_of rs) (places_between s rs e)

-- OWNERS: each is known, as the library or as the place of an earlier record

member_filed : (o : Maybe ℕ) (known : List (Maybe ℕ)) → Memᴰ o known → Memᴰ (owner_at o) (map owner_at known)
member_filed o [] h = absurd (Memᴰ.not-nil h)
member_filed o (p ∷ known) h = ⊎_elim (λ e. Memᴰ.head (ap owner_at e)) (λ g. Memᴰ.tail (member_filed o known g)) (Memᴰ.cases_cons h)

owned_filed : (known : List (Maybe ℕ)) (rs : List (Rec ℕ)) → Owned known rs → OwnedFrom (map owner_at known) (map filed rs)
owned_filed known [] h = tt
owned_filed known (r ∷ rs) h = (member_filed r.owner known h.0, owned_filed (some r.at ∷ known) rs h.1)

pub owners_known : (s : List ℕ) (rs : List Record) → reading s ≡ records rs → OwnedFrom (library ∷ []) rs
owners_known s = of_reading (Owned (none ∷ [])) (OwnedFrom (library ∷ [])) (owned_filed (none ∷ [])) s
    (λ n. owned (none ∷ []) n start (ahead s (from s 0 1)) (Memᴰ.head refl, tt))

-- NAMES lie within the text: each is a token, the inside of one, or absent

-- a token ends within the text
abbrev Ends : {M : Type 0} → List ℕ → Tok ℕ M → Type 0
Ends s t = t.at + length t.bytes ≤ length s

tok_ends : (s : List ℕ) (r : Lexed) → Within s 0 r → Ends s (tok s r)
tok_ends s (Found t) w = simp (length-take, length-drop) (omega arith)
tok_ends s (End n) w = omega arith
tok_ends s (Bad i n) w = omega arith

each_token : (s : List ℕ) (l : List Lexed) → ((r : Lexed) → Memᴰ r l → Within s 0 r) → (t : Tok ℕ Mark) → Memᴰ t (map (tok s) l) → Ends s t
each_token s [] h t m = absurd (Memᴰ.not-nil m)
each_token s (r ∷ l) h t m = ⊎_elim (λ e. rw e (tok_ends s r (h r (Memᴰ.head refl)))) (each_token s l (λ q g. h q (Memᴰ.tail g)) t) (Memᴰ.cases_cons m)

name_within : (s : List ℕ) (t : Tok ℕ Mark) (n : Name ℕ) → Ends s t → From t n → name_at (some n) + name_length (some n) ≤ length s
name_within s t n h (inl e) = rw e (omega arith)
name_within s t n h (inr p) = rw p.2 (simp (length-take, length-drop) (omega arith))

names_filed : (s : List ℕ) (ts : List (Tok ℕ Mark)) → ((t : Tok ℕ Mark) → Memᴰ t ts → Ends s t) → (rs : List (Rec ℕ)) → AllNamed ts rs → Every (NameWithin s) (map filed rs)
names_filed s ts h [] n = tt
names_filed s ts h (r ∷ rs) n = (go r.name n.0, names_filed s ts h rs n.1)
  where
    go : (m : Maybe (Name ℕ)) → Named ts m → name_at m + name_length m ≤ length s
    go none g = omega arith
    go (some m) g = name_within s g.0 m (h g.0 g.1) g.2

ahead_ends : (s : List ℕ) (l : List Lexed) → ((r : Lexed) → Memᴰ r l → Within s 0 r) → (t : Tok ℕ Mark) → Memᴰ t (all (ahead s l)) → Ends s t
ahead_ends s [] h = each_token s (End 0 ∷ []) (λ r m. rw (Memᴰ.eq_of_singleton m) tt)
ahead_ends s (r ∷ rs) h = each_token s (r ∷ rs) h

pub names_within : (s : List ℕ) (rs : List Record) → reading s ≡ records rs → Every (NameWithin s) rs
names_within s = of_reading (AllNamed (all (ahead s (from s 0 1)))) (Every (NameWithin s))
    (names_filed s (all (ahead s (from s 0 1))) (ahead_ends s (from s 0 1) (within_all s 0 1)))
    s (λ n. all_named n start (ahead s (from s 0 1)))
