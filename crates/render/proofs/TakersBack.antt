-- What is written is taken: each taker looks at the token that stands first, and the one after it is no byte that starts none.
use Prim.Native.Nat.{ℕ, ◌-◌, ◌^◌}
use mathlib.Core.Path.{◌≡◌, refl, sym, ap, ◌∙◌}
use mathlib.Core.Bool.{Bool, true, false, cond, not, false≢true}
use mathlib.Core.List.{List, [], ◌∷◌, map, tail}
use native.Mathlib.Omega.{arith}
use borrow.Author.Tests.{eq-eqb, eqb-true, leb-true, ltb-false, not-true}
use lib.Dec.{leb, ltb, eqb}
use Rattle.lexer.specs.Kinds as Kind
use Rattle.std.specs.declared.option.Option.TheVariants.{Some}
use Rattle.numeral.specs.Numeral.{limit, scaled, numeral_of, Good}
use Rattle.numeral.specs.Stored.{stored_of, value_of}
use Rattle.numeral.proofs.Round.{read_again}
use Rattle.word.specs.Words.{same, word_of, is_key}
use Rattle.word.proofs.Words.{both, same_refl}
use Rattle.grammar.specs.Tokens.{Tok, Ahead, Answer, ok, refused, then, complain, next, next_token, expect, bad}
use Rattle.grammar.specs.Engine.{get_key, expect_key, expect_keyword, expect_ident, parse_number, parse_enum}
use Rattle.grammar.specs.Reading.{Mark}
use Rattle.render.specs.Pieces.{Said}
use Rattle.render.specs.Stripped.{stripped}
use Rattle.render.specs.Says.{numeral, is_stored, number}
use Rattle.render.proofs.Stands.{standing}

-- WHAT STANDS FIRST

-- something does, of a kind that p allows
abbrev pub headed : (ℕ → Bool) → List Said → Bool
headed p [] = false
headed p (t ∷ ts) = p t.kind

-- a token, or the end of the text
abbrev pub starts : List Said → Bool
starts = headed (λ k. not (eqb k bad))

kind_first : List Said → ℕ
kind_first [] = 0
kind_first (t ∷ ts) = t.kind

bytes_first : List Said → List ℕ
bytes_first [] = []
bytes_first (t ∷ ts) = t.bytes

module _ (a : Ahead ℕ Mark) (t : Said) (ts : List Said) (z : standing a ≡ t ∷ ts) where
  pub held_kind : a.held.kind ≡ t.kind
  unfolding kind_first
  held_kind = ap kind_first z

  pub held_bytes : a.held.bytes ≡ t.bytes
  unfolding bytes_first
  held_bytes = ap bytes_first z

-- AN ANSWER THAT IS NO REFUSAL

-- it gives something of which P holds, and ts stands ahead then
abbrev pub Back : {B : Type 0} → (B → Type 0) → List Said → Answer ℕ Mark B → Type 0
Back P ts (ok v b) = P v × (standing b ≡ ts)
Back P ts (refused n p) = ⊥

module _ {B C : Type 0} (P : B → Type 0) (Q : C → Type 0) (ts us : List Said) where
  pub back_then : (t : Answer ℕ Mark B) (k : B → Ahead ℕ Mark → Answer ℕ Mark C)
      → Back P ts t → ((v : B) (b : Ahead ℕ Mark) → P v → standing b ≡ ts → Back Q us (k v b)) → Back Q us (then t k)
  back_then (ok v b) k h f = f v b h.0 h.1
  back_then (refused n p) k h f = absurd h

module _ {B : Type 0} (P : B → Type 0) (us : List Said) where
  pub back_true : (c : Bool) (t u : Answer ℕ Mark B) → c ≡ true → Back P us t → Back P us (cond c t u)
  back_true true t u e h = h
  back_true false t u e h = absurd (false≢true e)

  pub back_false : (c : Bool) (t u : Answer ℕ Mark B) → c ≡ false → Back P us u → Back P us (cond c t u)
  back_false true t u e h = absurd (false≢true (sym e))
  back_false false t u e h = h

-- TAKERS

next_back : (t : Tok ℕ Mark) (l : List (Tok ℕ Mark)) (ts : List Said) → map stripped l ≡ ts → starts ts ≡ true → Back (λ u. u ≡ t) ts (next t l)
unfolding next
next_back t [] ts z s = absurd (false≢true (rw (← z) at s))
next_back t (n ∷ l) ts z s =
    back_false (λ u. u ≡ t) ts (eqb n.kind bad) (refused 3 n.mark) (ok t (record { held = n; rest = l })) (not-true _ (rw (← z) at s)) (refl, z)

module _ (a : Ahead ℕ Mark) (t : Said) (ts : List Said) (z : standing a ≡ t ∷ ts) (s : starts ts ≡ true) where
  pub take_back : Back (λ u. u ≡ a.held) ts (next_token a)
  take_back = next_back a.held a.rest ts (ap tail z) s

  pub expect_back : (k : ℕ) → t.kind ≡ k → Back (λ u. u.bytes ≡ t.bytes) ts (expect k a)
  unfolding expect
  expect_back k e =
      back_then (λ u. u ≡ a.held) (λ u. u.bytes ≡ t.bytes) ts ts (next_token a) _ take_back
      (λ u b q y. back_true (λ u. u.bytes ≡ t.bytes) ts (eqb u.kind k) (ok u b) (complain 4 b) (eq-eqb u.kind k (rw q (held_kind a t ts z ∙ e))) (rw q (held_bytes a t ts z), y))

  module _ (n : t.kind ≡ Kind.name) where
    pub get_key_back : is_key (word_of t.bytes) ≡ true → Back (λ w. w ≡ word_of t.bytes) ts (get_key a)
    unfolding get_key
    get_key_back k =
        back_then (λ u. u.bytes ≡ t.bytes) (λ w. w ≡ word_of t.bytes) ts ts (expect Kind.name a) _ (expect_back Kind.name n)
        (λ u b q y. back_true (λ w. w ≡ word_of t.bytes) ts (is_key (word_of u.bytes)) (ok (word_of u.bytes) b) (complain 5 b) (rw q k) (ap word_of q, y))

    pub expect_key_back : (w : ℕ) → word_of t.bytes ≡ w → is_key w ≡ true → Back (λ v. v ≡ w) ts (expect_key w a)
    unfolding expect_key
    expect_key_back w e k =
        back_then (λ v. v ≡ word_of t.bytes) (λ v. v ≡ w) ts ts (get_key a) _ (get_key_back (rw e k))
        (λ v b q y. back_true (λ v. v ≡ w) ts (eqb v w) (ok v b) (complain 7 b) (eq-eqb v w (q ∙ e)) (q ∙ e, y))

    pub expect_keyword_back : (w : ℕ) → word_of t.bytes ≡ w → Back (λ v. v ≡ w) ts (expect_keyword w a)
    unfolding expect_keyword
    expect_keyword_back w e =
        back_then (λ u. u.bytes ≡ t.bytes) (λ v. v ≡ w) ts ts (expect Kind.name a) _ (expect_back Kind.name n)
        (λ u b q y. back_true (λ v. v ≡ w) ts (eqb (word_of u.bytes) w) (ok w b) (complain 7 b) (eq-eqb _ w (ap word_of q ∙ e)) (refl, y))

    pub expect_ident_back : Back (λ u. u.bytes ≡ t.bytes) ts (expect_ident t.bytes a)
    unfolding expect_ident
    expect_ident_back =
        back_then (λ u. u.bytes ≡ t.bytes) (λ u. u.bytes ≡ t.bytes) ts ts (expect Kind.name a) _ (expect_back Kind.name n)
        (λ u b q y. back_true (λ u. u.bytes ≡ t.bytes) ts (same u.bytes t.bytes) (ok u b) (complain 7 b) (rw q (same_refl t.bytes)) (q, y))

    pub parse_enum_back : (code_for : ℕ → ℕ) (c : ℕ) → code_for (word_of t.bytes) ≡ c → eqb c 0 ≡ false → Back (λ v. v ≡ c) ts (parse_enum code_for a)
    unfolding parse_enum
    parse_enum_back code_for c e h =
        back_then (λ u. u.bytes ≡ t.bytes) (λ v. v ≡ c) ts ts (expect Kind.name a) _ (expect_back Kind.name n)
        (λ u b q y. let i : code_for (word_of u.bytes) ≡ c = ap (λ s. code_for (word_of s)) q ∙ e in
        back_false (λ v. v ≡ c) ts (eqb (code_for (word_of u.bytes)) 0) (complain 6 b) (ok (code_for (word_of u.bytes)) b) (rw i h) (i, y))

-- NUMBERS

-- a number that can be stored: its value, which a numeral says
record Says (v : ℕ) : Type 0 where
  negative : Bool
  magnitude : ℕ
  value : value_of v ≡ scaled negative magnitude
  good : Good (scaled negative magnitude)
  stored : stored_of negative magnitude ≡ v

stored_says : (v : ℕ) → is_stored v (value_of v) ≡ true → Says v
stored_says v = go (ltb v (2 ^ 63)) refl
  where
    go : (t : Bool) → ltb v (2 ^ 63) ≡ t → is_stored v (cond t (scaled false v) (scaled true (2 ^ 64 - v))) ≡ true → Says v
    go true q h =
        let (l, e) = both (leb v limit) (eqb v v) h in
        record { negative = false; magnitude = v; value = rw q; good = (leb-true v limit l, λ z. refl); stored = refl }
    go false q h =
        let m = 2 ^ 64 - v in
        let (l, e) = both (leb m limit) (eqb (stored_of true m) v) h in
        let s = eqb-true (stored_of true m) v e in
        let k = ltb-false v (2 ^ 63) q in
        record { negative = true; magnitude = m; value = rw q; good = (leb-true m limit l, λ z. absurd (omega arith)); stored = s }

pub parse_number_back : (a : Ahead ℕ Mark) (v : ℕ) (ts : List Said) → standing a ≡ number v ∷ ts → starts ts ≡ true → is_stored v (value_of v) ≡ true
    → Back (λ u. u ≡ v) ts (parse_number a)
unfolding parse_number
parse_number_back a v ts z s h =
    let n = stored_says v h in
    let e : numeral_of (numeral (value_of v)) ≡ Some (scaled n.negative n.magnitude) = rw n.value (read_again n.negative n.magnitude n.good) in
    back_then (λ u. u.bytes ≡ numeral (value_of v)) (λ u. u ≡ v) ts ts (expect Kind.number a) _ (expect_back a (number v) ts z s Kind.number refl)
    (λ u b q y. rw (q, e) (n.stored, y))
