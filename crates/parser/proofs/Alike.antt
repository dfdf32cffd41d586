-- The items never look at a draft's name: drafts whose names are shown alike go on alike.
use Prim.Native.Nat.{ℕ, zero, suc, ◌+◌}
use mathlib.Core.Path.{◌≡◌, refl, sym, ap, ◌∙◌}
use mathlib.Core.Bool.{Bool, true, false, cond}
use mathlib.Core.List.{List, [], ◌∷◌}
use native.Mathlib.Nat.{add-zero}
use lib.Dec.{eqb}
use lib.ListN.{length}
use Rattle.word.specs.Words.{word_of, word}
use Rattle.word.specs.Codes.{code_of, values_of}
use Rattle.lexer.specs.Kinds as Kind
use Rattle.grammar.specs.Grammar.{Item, key, keyword, name, own, x, y, semi, value, first, first_key, second, string, code, if_more, no_name, among, whole}
use Rattle.grammar.specs.Tokens.{Ahead, Answer, ok, refused, then, matches, expect}
use Rattle.grammar.specs.Engine.{Maybe, none, some, Name, Frame, Draft, set_code, set_x, set_y, set_first, get_name, get_key, expect_key, expect_keyword, expect_ident, parse_number, parse_enum, parse_second, begins, empty, member, item, items, passed}
use Rattle.grammar.specs.Turns.{label_of}
use Rattle.grammar.specs.Reading.{Mark, name_at, name_length}
use Rattle.parser.specs.declared.draft.Sketch.{Sketch}
use Rattle.parser.specs.Drafts.{renamed, draft_of, emptied, flat, flatly, shown}

-- names that a record file and a block show alike
pub record Alike (n m : Maybe (Name ℕ)) : Type 0 where
  pub start : name_at n ≡ name_at m
  pub label : label_of n ≡ label_of m

long : (n : Maybe (Name ℕ)) → name_length n ≡ length (label_of n)
long none = refl
long (some n) = refl

module _ (n m : Maybe (Name ℕ)) (h : Alike n m) where
  so_long : name_length n ≡ name_length m
  so_long = long n ∙ ap length h.label ∙ sym (long m)

  done : (d : Draft ℕ) (a : Ahead ℕ Mark) → shown (ok (renamed n d) a) ≡ shown (ok (renamed m d) a)
  done d a = rw (h.start, h.label, so_long)

-- the same is taken, or the same complaint made, and then both go on
module _ (k : Draft ℕ → Ahead ℕ Mark → Answer ℕ Mark (Draft ℕ)) where
  taking : {B : Type 0} (t : Answer ℕ Mark B) (g g' : B → Ahead ℕ Mark → Answer ℕ Mark (Draft ℕ))
      → ((b : B) (a : Ahead ℕ Mark) → shown (then (g b a) k) ≡ shown (then (g' b a) k)) → shown (then (then t g) k) ≡ shown (then (then t g') k)
  taking (ok b a) g g' h = h b a
  taking (refused n p) g g' h = refl

  asking : (p : Bool) (t t' u u' : Answer ℕ Mark (Draft ℕ)) → shown (then t k) ≡ shown (then t' k) → shown (then u k) ≡ shown (then u' k)
      → shown (then (cond p t u) k) ≡ shown (then (cond p t' u') k)
  asking true t t' u u' h l = h
  asking false t t' u u' h l = l

module _ (n m : Maybe (Name ℕ)) (h : Alike n m) (f : Frame ℕ) where
  -- one item, and then the others
  module _ (is : List Item) (go : (j : ℕ) (d : Draft ℕ) (a : Ahead ℕ Mark) → shown (items j f is (renamed n d) a) ≡ shown (items j f is (renamed m d) a)) where
    turn : (i : Item) (d : Draft ℕ) (a : Ahead ℕ Mark)
        → shown (then (item f i (renamed n d) a) (λ e b. items (passed i b) f is e b)) ≡ shown (then (item f i (renamed m d) a) (λ e b. items (passed i b) f is e b))
    unfolding item
    turn (key w) d a = taking _ (expect_key (word w) a) _ _ (λ k b. go 0 d b)
    turn (keyword w) d a = taking _ (expect_keyword (word w) a) _ _ (λ k b. go 0 d b)
    turn name d a = refl
    turn own d a = taking _ (expect_ident f.label a) _ _ (λ t b. go 0 d b)
    turn x d a = taking _ (parse_number a) _ _ (λ v b. go 0 (set_x v d) b)
    turn y d a = taking _ (parse_number a) _ _ (λ v b. go 0 (set_y v d) b)
    turn semi d a = taking _ (expect Kind.semicolon a) _ _ (λ t b. go 0 d b)
    turn value d a = taking _ (parse_enum (λ w. code_of d.rec.kind w 0) a) _ _ (λ c b. go 0 (set_code c d) b)
    turn first d a = taking _ (get_name a) _ _ (λ t b. asking _ (begins (values_of d.rec.kind) (word_of t.bytes)) _ _ _ _ (go 0 (set_first (word_of t.bytes) d) b) refl)
    turn first_key d a = taking _ (get_key a) _ _ (λ w b. asking _ (begins (values_of d.rec.kind) w) _ _ _ _ (go 0 (set_first w d) b) refl)
    turn second d a = taking _ (parse_second d.rec.kind d.first a) _ _ (λ c b. go 0 (set_code c d) b)
    turn (string l) d a = refl
    turn (code c) d a = go 0 (set_code c d) a
    turn (if_more j) d a = go (cond (matches Kind.semicolon a) j 0) d a
    turn no_name d a = asking _ (matches Kind.name a) _ _ _ _ refl (go 0 d a)
    turn (among vs) d a = asking _ (member vs d.rec.x) _ _ _ _ (go 0 d a) refl
    turn (whole j) d a = asking _ (empty f.lacks) _ _ _ _ (go 0 d a) refl

  pub alike : (j : ℕ) (is : List Item) (d : Draft ℕ) (a : Ahead ℕ Mark) → shown (items j f is (renamed n d) a) ≡ shown (items j f is (renamed m d) a)
  unfolding items
  alike j [] d a = done n m h d a
  alike (suc j) (i ∷ is) d a = alike j is d a
  alike zero (i ∷ is) d a = turn is (λ j e b. alike j is e b) i d a

-- a name by the place of its first byte shows alike
flat_alike : (n : Maybe (Name ℕ)) → Alike n (flat n)
flat_alike none = record { start = refl; label = refl }
flat_alike (some n) = go (eqb n.skip 0)
  where
    go : (p : Bool) → Alike (some n) (some (cond p n (record { bytes = n.bytes; at = n.at + n.skip; skip = 0 })))
    go true = record { start = refl; label = refl }
    go false = record { start = sym (add-zero (n.at + n.skip)); label = refl }

pub flattened : (k : ℕ) (f : Frame ℕ) (is : List Item) (d : Draft ℕ) (a : Ahead ℕ Mark) → shown (items k f is d a) ≡ shown (items k f is (renamed (flat d.rec.name) d) a)
flattened k f is d a = alike d.rec.name (flat d.rec.name) (flat_alike d.rec.name) f k is d a

-- an answer whose draft is flattened goes on alike
pub flat_then : (i : Item) (f : Frame ℕ) (is : List Item) (t : Answer ℕ Mark (Draft ℕ))
    → shown (then t (λ e b. items (passed i b) f is e b)) ≡ shown (then (flatly t) (λ e b. items (passed i b) f is e b))
flat_then i f is (ok d a) = flattened (passed i a) f is d a
flat_then i f is (refused n p) = refl

-- a sketch of which nothing is set goes on like the empty draft: its empty name at 0 shows like none
abbrev unset : Sketch
unset = record { name = 0; len = 0; x = 0; y = 0; code = 0; first = 0 }

pub from_empty : (s : List ℕ) (k : ℕ) (f : Frame ℕ) (is : List Item) (b : Draft ℕ) (a : Ahead ℕ Mark) → shown (items k f is (draft_of s b unset) a) ≡ shown (items k f is (emptied b) a)
from_empty s k f is b a = alike (draft_of s b unset).rec.name none (record { start = refl; label = refl }) f k is (emptied b) a
