-- Taking the token held: a refusal of it is the taker's, and no taker takes more than that token.
use Prim.Native.Nat.{ℕ, ◌+◌, ◌-◌, ◌≤◌}
use Prim.Native.String.{String}
use mathlib.Core.Path.{◌≡◌, refl, sym, ap, ◌∙◌}
use mathlib.Core.Bool.{Bool, true, false, cond}
use mathlib.Core.List.{List}
use native.Mathlib.Decide.{dec_lt}
use native.Mathlib.Omega.{arith}
use borrow.Author.Tests.{le-leb, lt-leb, eqb-true}
use Rattle.std.specs.Prelude.{Option, Some, None}
use lib.Dec.{eqb, leb}
use lib.ListN.{length}
use Rattle.lexer.specs.Kinds as Kind
use Rattle.numeral.specs.declared.Scaled.{Scaled}
use Rattle.numeral.specs.Numeral.{numeral_of}
use Rattle.word.specs.Words.{same, word_of, word, is_key}
use Rattle.word.specs.Codes.{code_of, values_of}
use Rattle.grammar.specs.Grammar.{Item, key, keyword, name, own, x, y, semi, value, first, first_key, second, string, code, if_more, no_name, among, whole}
use Rattle.grammar.specs.Tokens.{Tok, Ahead, Answer, ok, refused, then, complain, next_token, expect}
use Rattle.grammar.specs.Engine.{Frame, Draft, set_first, coded, get_name, get_key, expect_key, expect_keyword, expect_ident, valued, parse_number, parse_enum, begins, item, passed}
use Rattle.rows.specs.Packed.{key_at, item_at}
use Rattle.parser.specs.Code.{get_word}
use Rattle.parser.proofs.Listed.{then_then}

-- the items that take the token held
abbrev pub Takes : Item → Type 0
Takes (key w) = Unit {0}
Takes (keyword w) = Unit {0}
Takes name = Unit {0}
Takes own = Unit {0}
Takes x = Unit {0}
Takes y = Unit {0}
Takes semi = Unit {0}
Takes value = Unit {0}
Takes first = Unit {0}
Takes first_key = Unit {0}
Takes second = ⊥
Takes (string n) = Unit {0}
Takes (code c) = ⊥
Takes (if_more n) = ⊥
Takes no_name = ⊥
Takes (among vs) = ⊥
Takes (whole n) = ⊥

lows : (p q r s t u v : Bool) → Takes (cond p x (cond q y (cond r name (cond s own (cond t value (cond u first (cond v first_key semi)))))))
lows true q r s t u v = tt
lows false true r s t u v = tt
lows false false true s t u v = tt
lows false false false true t u v = tt
lows false false false false true u v = tt
lows false false false false false true v = tt
lows false false false false false false true = tt
lows false false false false false false false = tt

highs : (w : String) (n : ℕ) (p q r : Bool) → Takes (cond p (key w) (cond q (keyword "MICRONS") (cond r (keyword "UNITS") (string n))))
highs w n true q r = tt
highs w n false true r = tt
highs w n false false true = tt
highs w n false false false = tt

-- those of the bytes below 16 and from 96 on do
pub takes_at : (b : ℕ) → (16 ≤ b → 96 ≤ b) → Takes (item_at b)
unfolding item_at
takes_at b g = elim (dec_lt b 16) [
  | yes l ↦ rw (lt-leb 128 b (omega arith), lt-leb 96 b (omega arith), lt-leb 80 b (omega arith), lt-leb 64 b (omega arith), lt-leb 48 b (omega arith), lt-leb 32 b (omega arith), lt-leb 16 b l)
      (lows (eqb b 1) (eqb b 2) (eqb b 5) (eqb b 6) (eqb b 7) (eqb b 8) (eqb b 9))
  | no l ↦ rw (le-leb 96 b (g (omega arith))) (highs (key_at (b - 128)) (b - 96) (leb 128 b) (eqb b 112) (eqb b 113))
]

pub passes_none : {A M : Type 0} (i : Item) (a : Ahead A M) → Takes i → passed i a ≡ 0
passes_none (key w) a t = refl
passes_none (keyword w) a t = refl
passes_none name a t = refl
passes_none own a t = refl
passes_none x a t = refl
passes_none y a t = refl
passes_none semi a t = refl
passes_none value a t = refl
passes_none first a t = refl
passes_none first_key a t = refl
passes_none second a t = refl
passes_none (string n) a t = refl
passes_none (code c) a t = refl
passes_none (if_more n) a t = absurd t
passes_none no_name a t = refl
passes_none (among vs) a t = refl
passes_none (whole n) a t = refl

-- THE TOKEN CANNOT BE TAKEN

module _ {A M : Type 0} (a : Ahead A M) (n : ℕ) (m : M) (h : next_token a ≡ refused n m) where
  pub no_token : (k : ℕ) → expect k a ≡ refused n m
  unfolding expect
  no_token k = rw h

  no_key : get_key a ≡ refused n m
  unfolding get_key
  no_key = rw (no_token Kind.name)

  pub not_key : (k : ℕ) → expect_key k a ≡ refused n m
  unfolding expect_key
  not_key k = rw no_key

  not_keyword : (k : ℕ) → expect_keyword k a ≡ refused n m
  unfolding expect_keyword
  not_keyword k = rw (no_token Kind.name)

  not_ident : (l : List ℕ) → expect_ident l a ≡ refused n m
  unfolding expect_ident
  not_ident l = rw (no_token Kind.name)

  no_number : parse_number a ≡ refused n m
  unfolding parse_number
  no_number = rw (no_token Kind.number)

  no_value : (code_for : ℕ → ℕ) → parse_enum code_for a ≡ refused n m
  unfolding parse_enum
  no_value code_for = rw (no_token Kind.name)

  pub no_item : (f : Frame A) (i : Item) (d : Draft A) → Takes i → item f i d a ≡ refused n m
  unfolding item
  no_item f (key w) d t = rw (not_key (word w))
  no_item f (keyword w) d t = rw (not_keyword (word w))
  no_item f name d t = rw (no_token Kind.name)
  no_item f own d t = rw (not_ident f.label)
  no_item f x d t = rw no_number
  no_item f y d t = rw no_number
  no_item f semi d t = rw (no_token Kind.semicolon)
  no_item f value d t = rw (no_value (λ w. code_of d.rec.kind w 0))
  no_item f first d t = rw (no_token Kind.name)
  no_item f first_key d t = rw no_key
  no_item f second d t = absurd t
  no_item f (string l) d t = rw (no_token Kind.string_literal)
  no_item f (code c) d t = absurd t
  no_item f (if_more l) d t = absurd t
  no_item f no_name d t = absurd t
  no_item f (among vs) d t = absurd t
  no_item f (whole l) d t = absurd t

-- THE TOKEN IS TAKEN, AND c IS THEN AHEAD

-- what is ahead after an answer, and c after a refusal
abbrev pub afterwards : {A M B : Type 0} → Ahead A M → Answer A M B → Ahead A M
afterwards c (ok b a) = a
afterwards c (refused n m) = c

module _ {A M : Type 0} (a c : Ahead A M) where
  then_so : {B C : Type 0} (p : Answer A M B) (k : B → Ahead A M → Answer A M C) → afterwards c p ≡ c → ((b : B) → afterwards c (k b c) ≡ c) → afterwards c (then p k) ≡ c
  then_so (ok b e) k q g = ap (λ o. afterwards c (k b o)) q ∙ g b
  then_so (refused n m) k q g = refl

  either_so : {B : Type 0} (p : Bool) (t u : Answer A M B) → afterwards c t ≡ c → afterwards c u ≡ c → afterwards c (cond p t u) ≡ c
  either_so true t u q r = q
  either_so false t u q r = r

  valued_so : (v : Option Scaled) → afterwards c (valued v c) ≡ c
  valued_so (Some v) = refl
  valued_so None = refl

  module _ (t : Tok A M) (h : next_token a ≡ ok t c) where
    token_so : (k : ℕ) → afterwards c (expect k a) ≡ c
    unfolding expect
    token_so k = rw h (either_so (eqb t.kind k) (ok t c) _ refl refl)

    key_so : afterwards c (get_key a) ≡ c
    unfolding get_key
    key_so = then_so (get_name a) _ (token_so Kind.name) (λ u. either_so (is_key (word_of u.bytes)) _ _ refl refl)

    this_key_so : (k : ℕ) → afterwards c (expect_key k a) ≡ c
    unfolding expect_key
    this_key_so k = then_so (get_key a) _ key_so (λ w. either_so (eqb w k) _ _ refl refl)

    keyword_so : (k : ℕ) → afterwards c (expect_keyword k a) ≡ c
    unfolding expect_keyword
    keyword_so k = then_so (get_name a) _ (token_so Kind.name) (λ u. either_so (eqb (word_of u.bytes) k) _ _ refl refl)

    ident_so : (l : List ℕ) → afterwards c (expect_ident l a) ≡ c
    unfolding expect_ident
    ident_so l = then_so (get_name a) _ (token_so Kind.name) (λ u. either_so (same u.bytes l) _ _ refl refl)

    number_so : afterwards c (parse_number a) ≡ c
    unfolding parse_number
    number_so = then_so (expect Kind.number a) _ (token_so Kind.number) (λ u. valued_so (numeral_of u.bytes))

    value_so : (code_for : ℕ → ℕ) → afterwards c (parse_enum code_for a) ≡ c
    unfolding parse_enum
    value_so code_for = then_so (get_name a) _ (token_so Kind.name) (λ u. either_so (eqb (code_for (word_of u.bytes)) 0) _ _ refl refl)

    pub item_so : (f : Frame A) (i : Item) (d : Draft A) → Takes i → afterwards c (item f i d a) ≡ c
    unfolding item
    item_so f (key w) d l = then_so (expect_key (word w) a) _ (this_key_so (word w)) (λ k. refl)
    item_so f (keyword w) d l = then_so (expect_keyword (word w) a) _ (keyword_so (word w)) (λ k. refl)
    item_so f name d l = then_so (get_name a) _ (token_so Kind.name) (λ u. refl)
    item_so f own d l = then_so (expect_ident f.label a) _ (ident_so f.label) (λ u. refl)
    item_so f x d l = then_so (parse_number a) _ number_so (λ v. refl)
    item_so f y d l = then_so (parse_number a) _ number_so (λ v. refl)
    item_so f semi d l = then_so (expect Kind.semicolon a) _ (token_so Kind.semicolon) (λ u. refl)
    item_so f value d l = then_so (parse_enum (λ w. code_of d.rec.kind w 0) a) _ (value_so (λ w. code_of d.rec.kind w 0)) (λ v. refl)
    item_so f first d l = then_so (get_name a) _ (token_so Kind.name) (λ u. either_so (begins (values_of d.rec.kind) (word_of u.bytes)) _ _ refl refl)
    item_so f first_key d l = then_so (get_key a) _ key_so (λ w. either_so (begins (values_of d.rec.kind) w) _ _ refl refl)
    item_so f second d l = absurd l
    item_so f (string n) d l = then_so (expect Kind.string_literal a) _ (token_so Kind.string_literal) (λ u. either_so (eqb (length u.bytes) (n + 2)) _ _ refl refl)
    item_so f (code n) d l = absurd l
    item_so f (if_more n) d l = absurd l
    item_so f no_name d l = absurd l
    item_so f (among vs) d l = absurd l
    item_so f (whole n) d l = absurd l

-- THE TAKERS OF WORDS, BY THE NUMBER OF THE WORD

module _ {A M : Type 0} (a : Ahead A M) where
  pub key_of_word : get_key a ≡ then (get_word a) (λ w b. cond (is_key w) (ok w b) (complain 5 b))
  unfolding get_key
  key_of_word = sym (then_then (get_name a) (λ t b. ok (word_of t.bytes) b) (λ w b. cond (is_key w) (ok w b) (complain 5 b)))

  same_word : (k w : ℕ) (b : Ahead A M) → cond (eqb w k) (ok w b) (complain 7 b) ≡ cond (eqb w k) (ok k b) (complain 7 b)
  same_word k w b = go (eqb w k) refl
    where
      go : (c : Bool) → eqb w k ≡ c → cond c (ok w b) (complain 7 b) ≡ cond c (ok k b) (complain 7 b)
      go true e = ap (λ n. ok n b) (eqb-true w k e)
      go false e = refl

  keyword_answer : (k : ℕ) (p : Answer A M (Tok A M))
      → then p (λ t b. cond (eqb (word_of t.bytes) k) (ok k b) (complain 7 b)) ≡ then (then p (λ t b. ok (word_of t.bytes) b)) (λ w b. cond (eqb w k) (ok w b) (complain 7 b))
  keyword_answer k (ok t b) = sym (same_word k (word_of t.bytes) b)
  keyword_answer k (refused n m) = refl

  pub keyword_of_word : (k : ℕ) → expect_keyword k a ≡ then (get_word a) (λ w b. cond (eqb w k) (ok w b) (complain 7 b))
  unfolding expect_keyword
  keyword_of_word k = keyword_answer k (get_name a)

  pub enum_of_word : (code_for : ℕ → ℕ) → parse_enum code_for a ≡ then (get_word a) (λ w b. coded (code_for w) b)
  unfolding parse_enum
  enum_of_word code_for = sym (then_then (get_name a) (λ t b. ok (word_of t.bytes) b) (λ w b. coded (code_for w) b))

  pub first_of_word : (f : Frame A) (d : Draft A) → item f first d a ≡ then (get_word a) (λ w b. cond (begins (values_of d.rec.kind) w) (ok (set_first w d) b) (complain 6 b))
  unfolding item
  first_of_word f d = sym (then_then (get_name a) (λ t b. ok (word_of t.bytes) b) (λ w b. cond (begins (values_of d.rec.kind) w) (ok (set_first w d) b) (complain 6 b)))
