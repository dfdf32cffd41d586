-- What the items of a statement keep, by the cases of each taker: they set neither kind, place nor owner, they name by a token ahead,
-- what is ahead after them ends what was ahead before, and a refusal is one of 3 to 10.
use Prim.Native.Nat.{ℕ, zero, suc, ◌+◌}
use mathlib.Core.Path.{◌≡◌, refl, ◌∙◌}
use mathlib.Core.Bool.{Bool, true, false, cond, not, ◌&&◌, ◌||◌, false≢true}
use mathlib.Core.Logic.{◌⊎◌, inl, inr}
use mathlib.Core.List.{List, [], ◌∷◌, Memᴰ}
use borrow.Author.Tests.{eqb-true}
use lib.Dec.{eqb}
use lib.ListN.{length}
use Rattle.lexer.specs.Kinds as Kind
use Rattle.numeral.specs.declared.Scaled.{Scaled}
use Rattle.std.specs.declared.option.Option.{Option}
use Rattle.std.specs.declared.option.Option.TheVariants.{Some, None}
use Rattle.numeral.specs.Numeral.{numeral_of}
use Rattle.word.specs.Words.{same, word_of, word, is_key}
use Rattle.word.specs.Codes.{code_of, values_of}
use Rattle.word.proofs.Words.{both}
use Rattle.grammar.specs.Tokens.{Tok, Ahead, Answer, ok, then, complain, next, next_token, matches, expect, bad}
use Rattle.grammar.specs.Grammar.{Item, key, keyword, name, own, x, y, semi, value, first, first_key, second, string, code, if_more, no_name, among, whole}
use Rattle.grammar.specs.Engine.{Maybe, none, some, Name, Draft, Frame, set_code, set_name, set_x, set_y, get_name, get_key, expect_key, expect_keyword, expect_ident, valued, parse_number, parse_enum, begins, parse_second, empty, member, name_of, inside_of, item, passed, items}
use Rattle.grammar.specs.Second.{goes_on, second_key}
use Rattle.grammar.proofs.Second.{second_is_listed}
use Rattle.grammar.proofs.Answers.{complains, complains_ranged, Ok, ok_then, ok_map, ok_cond, ok_when}
use Rattle.grammar.proofs.Takes.{takes, numbered, all_numbered, eager}

-- the first list ends the second
pub data Suf {B : Type 0} : List B → List B → Type 0 where
  here : {l : List B} → Suf l l
  there : {b : B} {k l : List B} → Suf k l → Suf k (b ∷ l)

pub suf_trans : {B : Type 0} {j k l : List B} → Suf j k → Suf k l → Suf j l
suf_trans p here = p
suf_trans p (there q) = there (suf_trans p q)

suf_member : {B : Type 0} {b : B} {k l : List B} → Suf (b ∷ k) l → Memᴰ b l
suf_member here = Memᴰ.head refl
suf_member (there p) = Memᴰ.tail (suf_member p)

-- the token held and those after it
abbrev pub all : {A M : Type 0} → Ahead A M → List (Tok A M)
all a = a.held ∷ a.rest

-- a name is a token's bytes, or what stands between the quotes of one
abbrev pub From : {A M : Type 0} → Tok A M → Name A → Type 0
From t n = (n ≡ name_of t) ⊎ ((k : ℕ) × (length t.bytes ≡ k + 2) × (n ≡ inside_of k t))

-- no name, or that of one of the tokens
abbrev pub Named : {A M : Type 0} → List (Tok A M) → Maybe (Name A) → Type 0
Named l none = Unit {0}
Named {A = A} {M = M} l (some n) = (t : Tok A M) × Memᴰ t l × From t n

-- TAKERS: what is ahead after them ends what was ahead after the token held

module _ {A M : Type 0} where
  abbrev Past : {B : Type 0} → Ahead A M → B → Ahead A M → Type 0
  Past a v b = Suf (all b) a.rest

  -- where no token need be taken
  abbrev Ends : {B : Type 0} → Ahead A M → B → Ahead A M → Type 0
  Ends a v b = Suf (all b) (all a)

  -- and the token held is what is taken
  abbrev pub Taken : Ahead A M → Tok A M → Ahead A M → Type 0
  Taken a t b = (t ≡ a.held) × Suf (all b) a.rest

  next_taken : (t : Tok A M) (l : List (Tok A M)) → Ok (λ v b. (v ≡ t) × Suf (all b) l) (next t l)
  unfolding next
  next_taken t [] = refl
  next_taken t (n ∷ r) = ok_cond _ (eqb n.kind bad) _ _ refl (refl, here)

  pub take_taken : (a : Ahead A M) → Ok (Taken a) (next_token a)
  take_taken a = next_taken a.held a.rest

  pub expect_taken : (k : ℕ) (a : Ahead A M) → Ok (Taken a) (expect k a)
  unfolding expect
  expect_taken k a = ok_then (Taken a) (Taken a) (next_token a) _ (take_taken a) (λ t b h. ok_cond (Taken a) (eqb t.kind k) _ _ h refl)

  -- a taker that looks at the token it takes
  looks : {B : Type 0} (k : ℕ) (a : Ahead A M) (f : Tok A M → Ahead A M → Answer A M B)
      → ((t : Tok A M) (b : Ahead A M) → Suf (all b) a.rest → Ok (Past a) (f t b)) → Ok (Past a) (then (expect k a) f)
  looks k a f h = ok_then (Taken a) (Past a) (expect k a) _ (expect_taken k a) (λ t b g. h t b g.1)

  key_past : (a : Ahead A M) → Ok (Past a) (get_key a)
  unfolding get_key
  key_past a = looks Kind.name a _ (λ t b h. ok_cond (Past a) (is_key (word_of t.bytes)) _ _ h refl)

  this_key_past : (k : ℕ) (a : Ahead A M) → Ok (Past a) (expect_key k a)
  unfolding expect_key
  this_key_past k a = ok_then (Past a) (Past a) (get_key a) _ (key_past a) (λ w b h. ok_cond (Past a) (eqb w k) _ _ h refl)

  keyword_past : (k : ℕ) (a : Ahead A M) → Ok (Past a) (expect_keyword k a)
  unfolding expect_keyword
  keyword_past k a = looks Kind.name a _ (λ t b h. ok_cond (Past a) (eqb (word_of t.bytes) k) _ _ h refl)

  ident_past : (l : List ℕ) (a : Ahead A M) → Ok (Past a) (expect_ident l a)
  unfolding expect_ident
  ident_past l a = looks Kind.name a _ (λ t b h. ok_cond (Past a) (same t.bytes l) _ _ h refl)

  valued_past : (a b : Ahead A M) → Suf (all b) a.rest → (v : Option Scaled) → Ok (Past a) (valued v b)
  valued_past a b h (Some v) = h
  valued_past a b h None = refl

  number_past : (a : Ahead A M) → Ok (Past a) (parse_number a)
  unfolding parse_number
  number_past a = looks Kind.number a _ (λ t b h. valued_past a b h (numeral_of t.bytes))

  enum_past : (f : ℕ → ℕ) (a : Ahead A M) → Ok (Past a) (parse_enum f a)
  unfolding parse_enum
  enum_past f a = looks Kind.name a _ (λ t b h. ok_cond (Past a) (eqb (f (word_of t.bytes)) 0) _ _ refl h)

  -- the second word need not be there
  second_past : (k w : ℕ) (a : Ahead A M) → Ok (Ends a) (parse_second k w a)
  second_past k w a = rw (second_is_listed k w a)
      (ok_cond (Ends a) (not (goes_on (values_of k) w) || (matches Kind.semicolon a && not (eqb (code_of k w 0) 0))) _ _ here
      (ok_cond (Ends a) (eqb (second_key w) 0) _ _
      (ok_map (Past a) (Ends a) (parse_enum _ a) (λ v b h. there h) (enum_past _ a))
      (ok_then (Past a) (Ends a) (expect_key (second_key w) a) _ (this_key_past (second_key w) a) (λ v b h. there h))))

-- ITEMS

module _ {A M : Type 0} where
  -- The draft e, with b ahead, comes of d, with a ahead: kind, place and owner are kept, the name is that of d or of a token ahead,
  -- and what is then ahead ends l.
  pub record Kept (d : Draft A) (a : Ahead A M) (l : List (Tok A M)) (e : Draft A) (b : Ahead A M) : Type 0 where
    pub kind : e.rec.kind ≡ d.rec.kind
    pub at : e.rec.at ≡ d.rec.at
    pub owner : e.rec.owner ≡ d.rec.owner
    pub name : (ts : List (Tok A M)) → Suf (all a) ts → Named ts d.rec.name → Named ts e.rec.name
    pub ahead : Suf (all b) l

  -- what is ahead of one that takes a token, and of one that does not
  abbrev to : Bool → Ahead A M → List (Tok A M)
  to true a = a.rest
  to false a = all a

  same_name : {d e : Draft A} {a b : Ahead A M} {l : List (Tok A M)}
      → e.rec.kind ≡ d.rec.kind → e.rec.at ≡ d.rec.at → e.rec.owner ≡ d.rec.owner → e.rec.name ≡ d.rec.name → Suf (all b) l → Kept d a l e b
  same_name k p q n h = record { kind = k; at = p; owner = q; name = λ ts s g. rw n g; ahead = h }

  unchanged : (d : Draft A) {a b : Ahead A M} {l : List (Tok A M)} → Suf (all b) l → Kept d a l d b
  unchanged d h = same_name refl refl refl refl h

  -- a token taken gives the name
  new_name : (d : Draft A) (n : Name A) {a b : Ahead A M} {t : Tok A M} → From t n → Taken a t b → Kept d a a.rest (set_name n d) b
  new_name d n {t = t} f h = record { kind = refl; at = refl; owner = refl; name = λ ts s g. (t, rw h.0 (suf_member s), f); ahead = h.1 }

  module _ (f : Frame A) (d : Draft A) (a : Ahead A M) where
    from_taker : {B : Type 0} (t : Answer A M B) (g : B → Draft A) → Ok (Past a) t
        → ((v : B) (b : Ahead A M) → Suf (all b) a.rest → Kept d a a.rest (g v) b) → Ok (Kept d a a.rest) (then t (λ v b. ok (g v) b))
    from_taker t g h k = ok_then (Past a) (Kept d a a.rest) t _ h k

    item_kept : (i : Item) → numbered i ≡ true → Ok (Kept d a (to (takes i) a)) (item f i d a)
    unfolding item takes numbered
    item_kept (key w) e = from_taker (expect_key (word w) a) (λ v. d) (this_key_past (word w) a) (λ v b h. unchanged d h)
    item_kept (keyword w) e = from_taker (expect_keyword (word w) a) (λ v. d) (keyword_past (word w) a) (λ v b h. unchanged d h)
    item_kept name e = ok_then (Taken a) (Kept d a a.rest) (get_name a) _ (expect_taken Kind.name a) (λ t b h. new_name d (name_of t) (inl refl) h)
    item_kept own e = from_taker (expect_ident f.label a) (λ v. d) (ident_past f.label a) (λ v b h. unchanged d h)
    item_kept x e = from_taker (parse_number a) (λ v. set_x v d) (number_past a) (λ v b h. same_name refl refl refl refl h)
    item_kept y e = from_taker (parse_number a) (λ v. set_y v d) (number_past a) (λ v b h. same_name refl refl refl refl h)
    item_kept semi e = ok_then (Taken a) (Kept d a a.rest) (expect Kind.semicolon a) _ (expect_taken Kind.semicolon a) (λ t b h. unchanged d h.1)
    item_kept value e =
        from_taker (parse_enum (λ w. code_of d.rec.kind w 0) a) (λ v. set_code v d) (enum_past (λ w. code_of d.rec.kind w 0) a) (λ v b h. same_name refl refl refl refl h)
    item_kept first e = ok_then (Taken a) (Kept d a a.rest) (get_name a) _ (expect_taken Kind.name a)
        (λ t b h. ok_cond (Kept d a a.rest) (begins (values_of d.rec.kind) (word_of t.bytes)) _ _ (same_name refl refl refl refl h.1) refl)
    item_kept first_key e = ok_then (Past a) (Kept d a a.rest) (get_key a) _ (key_past a)
        (λ w b h. ok_cond (Kept d a a.rest) (begins (values_of d.rec.kind) w) _ _ (same_name refl refl refl refl h) refl)
    item_kept second e =
        ok_then (Ends a) (Kept d a (all a)) (parse_second d.rec.kind d.first a) _ (second_past d.rec.kind d.first a) (λ c b h. same_name refl refl refl refl h)
    item_kept (string n) e = ok_then (Taken a) (Kept d a a.rest) (expect Kind.string_literal a) _ (expect_taken Kind.string_literal a)
        (λ t b h. ok_when (Kept d a a.rest) (eqb (length t.bytes) (n + 2)) _ _
        (λ q. new_name d (inside_of n t) (inr (n, eqb-true (length t.bytes) (n + 2) q, refl)) h) refl)
    item_kept (code c) e = same_name refl refl refl refl here
    item_kept (if_more n) e = unchanged d here
    item_kept no_name e = ok_cond (Kept d a (all a)) (matches Kind.name a) _ _ refl (unchanged d here)
    item_kept (among vs) e = ok_cond (Kept d a (all a)) (member vs d.rec.x) _ _ (unchanged d here) refl
    item_kept (whole n) e = ok_cond (Kept d a (all a)) (empty f.lacks) _ _ (unchanged d here) (complains_ranged n e)

  -- one after the other
  further : {d e g : Draft A} {a b c : Ahead A M} {l : List (Tok A M)} → Suf l (all a) → Kept d a l e b → Kept e b (all b) g c → Kept d a l g c
  further h p q = record {
    kind = q.kind ∙ p.kind;
    at = q.at ∙ p.at;
    owner = q.owner ∙ p.owner;
    name = λ ts s n. q.name ts (suf_trans p.ahead (suf_trans h s)) (p.name ts s n);
    ahead = suf_trans q.ahead p.ahead;
  }

  to_ends : (c : Bool) (a : Ahead A M) → Suf (to c a) (all a)
  to_ends true a = there here
  to_ends false a = here

  wider : {d e : Draft A} {a b : Ahead A M} {k l : List (Tok A M)} → Suf k l → Kept d a k e b → Kept d a l e b
  wider h p = record { kind = p.kind; at = p.at; owner = p.owner; name = p.name; ahead = suf_trans p.ahead h }

  pub items_kept : (m : ℕ) (f : Frame A) (is : List Item) → all_numbered is ≡ true → (d : Draft A) (a : Ahead A M) → Ok (Kept d a (all a)) (items m f is d a)
  unfolding items all_numbered
  items_kept m f [] n d a = unchanged d here
  items_kept (suc m) f (i ∷ is) n d a = items_kept m f is (both (numbered i) (all_numbered is) n).1 d a
  items_kept zero f (i ∷ is) n d a = let s = both (numbered i) (all_numbered is) n in
      ok_then (Kept d a (to (takes i) a)) (Kept d a (all a)) (item f i d a) (λ e b. items (passed i b) f is e b) (item_kept f d a i s.0)
      (λ e b h. ok_map (Kept e b (all b)) (Kept d a (all a)) (items (passed i b) f is e b)
      (λ g c k. further here (wider (to_ends (takes i) a) h) k) (items_kept (passed i b) f is s.1 e b))

  -- what takes a token, and then items
  begun_kept : {B : Type 0} (Q : B → Ahead A M → Type 0) (f : Frame A) (is : List Item) → all_numbered is ≡ true → (d : Draft A) (a : Ahead A M) (m : Ahead A M → ℕ) (g : B → Draft A) (t : Answer A M B)
      → Ok Q t → ((v : B) (b : Ahead A M) → Q v b → Kept d a a.rest (g v) b) → Ok (Kept d a a.rest) (then t (λ v b. items (m b) f is (g v) b))
  begun_kept Q f is n d a m g t h k = ok_then Q (Kept d a a.rest) t (λ v b. items (m b) f is (g v) b) h
      (λ v b q. ok_map (Kept (g v) b (all b)) (Kept d a a.rest) (items (m b) f is (g v) b) (λ e c r. further (there here) (k v b q) r) (items_kept (m b) f is n (g v) b))

  -- items after a word that was taken
  pub worded_kept : (f : Frame A) (is : List Item) → all_numbered is ≡ true → (d : Draft A) (a : Ahead A M) (t : Answer A M (Tok A M))
      → Ok (Taken a) t → Ok (Kept d a a.rest) (then t (λ v b. items 0 f is d b))
  worded_kept f is n d a t h = begun_kept (Taken a) f is n d a (λ b. 0) (λ v. d) t h (λ v b q. unchanged d q.1)

  -- items of which the first takes a token
  pub eager_kept : (f : Frame A) (is : List Item) → eager is ≡ true → all_numbered is ≡ true → (d : Draft A) (a : Ahead A M) → Ok (Kept d a a.rest) (items 0 f is d a)
  unfolding items eager all_numbered
  eager_kept f [] e n d a = absurd (false≢true e)
  eager_kept f (i ∷ is) e n d a = let s = both (numbered i) (all_numbered is) n in
      begun_kept (Kept d a a.rest) f is s.1 d a (passed i) (λ q. q) (item f i d a) (rw e at (item_kept f d a i s.0)) (λ q b h. h)

  -- what ends a list of parts
  pub semi_kept : (f : Frame A) (d : Draft A) (a : Ahead A M) → Ok (Kept d a a.rest) (items 0 f (semi ∷ []) d a)
  unfolding takes numbered eager all_numbered
  semi_kept f d a = eager_kept f (semi ∷ []) refl refl d a

  pub whole_kept : (n : ℕ) → complains n ≡ true → (f : Frame A) (d : Draft A) (a : Ahead A M) → Ok (Kept d a a.rest) (items 0 f (whole n ∷ semi ∷ []) d a)
  unfolding items item
  whole_kept n r f d a = go (empty f.lacks)
    where
      go : (c : Bool) → Ok (Kept d a a.rest) (then (cond c (ok d a) (complain n a)) (λ e b. items 0 f (semi ∷ []) e b))
      go true = semi_kept f d a
      go false = complains_ranged n r
