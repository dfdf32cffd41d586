-- How a grammar reads tokens: a turn takes a statement, or one of its parts, and gives at most one record.
use Rattle.std.specs.Prelude.{ℕ, zero, suc, ◌+◌, Bool, true, false, cond, ◌||◌, List, [], ◌∷◌, eqb, length, Option, Some, None, take as list_take, drop as list_drop}
use Rattle.lexer.specs.Kinds as Kind
use Rattle.numeral.specs.declared.Scaled.{Scaled}
use Rattle.numeral.specs.Numeral.{numeral_of}
use Rattle.numeral.specs.Numbers.{value_numbers}
use Rattle.numeral.specs.Stored.{stored_of}
use Rattle.word.specs.Words.{same, word_of, word, is_key}
use Rattle.word.specs.Codes.{code_of, values_of}
use Rattle.grammar.specs.Tokens.{Tok, Ahead, Answer, ok, then, complain, matches, expect}
use Rattle.grammar.specs.Grammar.{Block, Item, key, keyword, name, own, x, y, semi, value, first, first_key, second, string, code, if_more, no_name, among, whole}
use Rattle.grammar.specs.Follows.{Follow, nothing, optional, required, optional_key, firsts_of, follow_in}

pub data Maybe (A : Type 0) : Type 0 where
  none : Maybe A
  some : A → Maybe A

-- RECORDS

-- a name: its bytes, where they start, and how many bytes of the token there stand before them
pub record Name (A : Type 0) : Type 0 where
  pub bytes : List ℕ
  pub at : A
  pub skip : ℕ

-- a record: where its statement starts, its owner (none for the library), its name, its numbers as stored
pub record Rec (A : Type 0) : Type 0 where
  pub kind : ℕ
  pub code : ℕ
  pub at : A
  pub owner : Maybe A
  pub name : Maybe (Name A)
  pub x : ℕ
  pub y : ℕ

-- a record that is being read, with the first word of its value
pub record Draft (A : Type 0) : Type 0 where
  pub rec : Rec A
  pub first : ℕ

-- an open block: where it starts (none for the library), its name, the kinds of record that it lacks
pub record Frame (A : Type 0) : Type 0 where
  pub block : Block
  pub at : Maybe A
  pub label : List ℕ
  pub lacks : List ℕ

abbrev pub blank : {A M : Type 0} → ℕ → Frame A → Ahead A M → Draft A
blank k f a = record { rec = record { kind = k; code = 0; at = a.held.at; owner = f.at; name = none; x = 0; y = 0 }; first = 0 }

abbrev pub set_code : {A : Type 0} → ℕ → Draft A → Draft A
set_code c d = let r = d.rec in record { rec = record { kind = r.kind; code = c; at = r.at; owner = r.owner; name = r.name; x = r.x; y = r.y }; first = d.first }

abbrev pub set_name : {A : Type 0} → Name A → Draft A → Draft A
set_name n d = let r = d.rec in record { rec = record { kind = r.kind; code = r.code; at = r.at; owner = r.owner; name = some n; x = r.x; y = r.y }; first = d.first }

abbrev pub set_x : {A : Type 0} → ℕ → Draft A → Draft A
set_x v d = let r = d.rec in record { rec = record { kind = r.kind; code = r.code; at = r.at; owner = r.owner; name = r.name; x = v; y = r.y }; first = d.first }

abbrev pub set_y : {A : Type 0} → ℕ → Draft A → Draft A
set_y v d = let r = d.rec in record { rec = record { kind = r.kind; code = r.code; at = r.at; owner = r.owner; name = r.name; x = r.x; y = v }; first = d.first }

abbrev pub set_first : {A : Type 0} → ℕ → Draft A → Draft A
set_first w d = record { rec = d.rec; first = w }

-- TAKERS, by the original's names

abbrev pub get_name : {A M : Type 0} → Ahead A M → Answer A M (Tok A M)
get_name a = expect Kind.name a

-- the number of a key word: no name 4, no key word 5
unfoldable pub get_key : {A M : Type 0} → Ahead A M → Answer A M ℕ
get_key a = then (get_name a) (λ t b. cond (is_key (word_of t.bytes)) (ok (word_of t.bytes) b) (complain 5 b))

-- this key word: another is 7
unfoldable pub expect_key : {A M : Type 0} → ℕ → Ahead A M → Answer A M ℕ
expect_key k a = then (get_key a) (λ w b. cond (eqb w k) (ok w b) (complain 7 b))

-- this word, be it a key word or not: another is 7
unfoldable pub expect_keyword : {A M : Type 0} → ℕ → Ahead A M → Answer A M ℕ
expect_keyword k a = then (get_name a) (λ t b. cond (eqb (word_of t.bytes) k) (ok k b) (complain 7 b))

-- these bytes: others are 7
unfoldable pub expect_ident : {A M : Type 0} → List ℕ → Ahead A M → Answer A M (Tok A M)
expect_ident l a = then (get_name a) (λ t b. cond (same t.bytes l) (ok t b) (complain 7 b))

-- a number as stored: no number 4, no numeral 9
abbrev pub valued : {A M : Type 0} → Option Scaled → Ahead A M → Answer A M ℕ
valued (Some v) a = ok (stored_of v.negative v.millionths) a
valued None a = complain (value_numbers None).refusal a

unfoldable pub parse_number : {A M : Type 0} → Ahead A M → Answer A M ℕ
parse_number a = then (expect Kind.number a) (λ t b. valued (numeral_of t.bytes) b)

-- a code: 0 is 6
abbrev pub coded : {A M : Type 0} → ℕ → Ahead A M → Answer A M ℕ
coded c a = cond (eqb c 0) (complain 6 a) (ok c a)

-- the word of a value, by its code: no name 4, no value 6
unfoldable pub parse_enum : {A M : Type 0} → (ℕ → ℕ) → Ahead A M → Answer A M ℕ
parse_enum code_for a = then (get_name a) (λ t b. coded (code_for (word_of t.bytes)) b)

-- VALUES OF TWO WORDS

-- some value begins with the word w
unfoldable pub begins : List ℕ → ℕ → Bool
begins [] w = false
begins (v ∷ []) w = false
begins (v ∷ u ∷ l) w = eqb v w || begins l w

-- the first word w by itself
abbrev pub alone : {A M : Type 0} → ℕ → ℕ → Ahead A M → Answer A M ℕ
alone k w a = ok (code_of k w 0) a

-- a second word v: no name 4; 6 where w and v are no value, or v is no word at all, which has the number 0
abbrev pub second_word : {A M : Type 0} → ℕ → ℕ → Ahead A M → Answer A M ℕ
second_word k w a = parse_enum (λ v. cond (eqb v 0) 0 (code_of k w v)) a

-- the second word u, taken as a key word: no name 4, no key word 5, another 7
abbrev pub second_key : {A M : Type 0} → ℕ → ℕ → ℕ → Ahead A M → Answer A M ℕ
second_key k w u a = then (expect_key u a) (λ v b. ok (code_of k w v) b)

-- what stands after the first word w of a value of the kind k, and so the code of the value
abbrev pub parse_follow : {A M : Type 0} → ℕ → ℕ → Follow → Ahead A M → Answer A M ℕ
parse_follow k w nothing a = alone k w a
parse_follow k w optional a = cond (matches Kind.semicolon a) (alone k w a) (second_word k w a)
parse_follow k w required a = second_word k w a
parse_follow k w (optional_key u) a = cond (matches Kind.semicolon a) (alone k w a) (second_key k w (word u) a)

unfoldable pub parse_second : {A M : Type 0} → ℕ → ℕ → Ahead A M → Answer A M ℕ
parse_second k w a = parse_follow k w (follow_in (firsts_of k) w) a

-- ITEMS

unfoldable pub empty : List ℕ → Bool
empty [] = true
empty (n ∷ ns) = false

unfoldable pub member : List ℕ → ℕ → Bool
member [] v = false
member (n ∷ ns) v = eqb n v || member ns v

-- a token as a name, and the bytes of a string literal of n bytes between its quotes
abbrev pub name_of : {A M : Type 0} → Tok A M → Name A
name_of t = record { bytes = t.bytes; at = t.at; skip = 0 }

abbrev pub inside_of : {A M : Type 0} → ℕ → Tok A M → Name A
inside_of n t = record { bytes = list_take n (list_drop 1 t.bytes); at = t.at; skip = 1 }

unfoldable pub item : {A M : Type 0} → Frame A → Item → Draft A → Ahead A M → Answer A M (Draft A)
item f (key w) d a = then (expect_key (word w) a) (λ k b. ok d b)
item f (keyword w) d a = then (expect_keyword (word w) a) (λ k b. ok d b)
item f name d a = then (get_name a) (λ t b. ok (set_name (name_of t) d) b)
item f own d a = then (expect_ident f.label a) (λ t b. ok d b)
item f x d a = then (parse_number a) (λ v b. ok (set_x v d) b)
item f y d a = then (parse_number a) (λ v b. ok (set_y v d) b)
item f semi d a = then (expect Kind.semicolon a) (λ t b. ok d b)
item f value d a = then (parse_enum (λ w. code_of d.rec.kind w 0) a) (λ c b. ok (set_code c d) b)
item f first d a = then (get_name a) (λ t b. cond (begins (values_of d.rec.kind) (word_of t.bytes)) (ok (set_first (word_of t.bytes) d) b) (complain 6 b))
item f first_key d a = then (get_key a) (λ w b. cond (begins (values_of d.rec.kind) w) (ok (set_first w d) b) (complain 6 b))
item f second d a = then (parse_second d.rec.kind d.first a) (λ c b. ok (set_code c d) b)
item f (string n) d a = then (expect Kind.string_literal a) (λ t b. cond (eqb (length t.bytes) (n + 2)) (ok (set_name (inside_of n t) d) b) (complain 6 b))
item f (code c) d a = ok (set_code c d) a
item f (if_more n) d a = ok d a
item f no_name d a = cond (matches Kind.name a) (complain 8 a) (ok d a)
item f (among vs) d a = cond (member vs d.rec.x) (ok d a) (complain 6 a)
item f (whole n) d a = cond (empty f.lacks) (ok d a) (complain n a)

-- how many of the items that follow are passed over
abbrev pub passed : {A M : Type 0} → Item → Ahead A M → ℕ
passed (key w) a = 0
passed (keyword w) a = 0
passed name a = 0
passed own a = 0
passed x a = 0
passed y a = 0
passed semi a = 0
passed value a = 0
passed first a = 0
passed first_key a = 0
passed second a = 0
passed (string n) a = 0
passed (code c) a = 0
passed (if_more n) a = cond (matches Kind.semicolon a) n 0
passed no_name a = 0
passed (among vs) a = 0
passed (whole n) a = 0

-- the items in turn, of which the first m are passed over
unfoldable pub items : {A M : Type 0} → ℕ → Frame A → List Item → Draft A → Ahead A M → Answer A M (Draft A)
items m f [] d a = ok d a
items (suc m) f (i ∷ is) d a = items m f is d a
items zero f (i ∷ is) d a = then (item f i d a) (λ e b. items (passed i b) f is e b)
