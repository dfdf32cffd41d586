-- The items of a statement give few bytes: a name is no longer than a text can be, a numeral has at most 22 bytes, and each word
-- of the table at most 64.
use Prim.Native.Nat.{ℕ, zero, suc, ◌+◌, ◌-◌, ◌*◌, ◌^◌, ◌≤◌}
use mathlib.Core.Path.{◌≡◌, refl, ap, ◌∙◌}
use mathlib.Core.Bool.{Bool, true, false, cond}
use mathlib.Core.List.{List, [], ◌∷◌, ◌++◌}
use native.Mathlib.Omega.{arith}
use borrow.Author.Tests.{leb-true, ltb-true, ltb-false}
use lib.Dec.{leb, eqb, ltb}
use lib.ListN.{length, get_or, length-append, length-replicate}
use Rattle.text.specs.Text.{bytes}
use Rattle.lexer.specs.Kinds as Kind
use Rattle.lexer.specs.Screen.{limit}
use Rattle.numeral.specs.Numeral.{scaled}
use Rattle.numeral.proofs.Short.{short_any}
use Rattle.word.specs.Words.{keys, values, words}
use Rattle.word.specs.Spelling.{spelling, first_of, second_of}
use Rattle.word.proofs.Words.{both}
use Rattle.grammar.specs.Grammar.{Item, key, keyword, name, own, x, y, semi, value, first, first_key, second, string, code, if_more, no_name, among, whole}
use Rattle.grammar.specs.Engine.{Frame}
use Rattle.render.specs.Pieces.{Said, said, Piece, newline, text}
use Rattle.render.specs.Spelt.{all}
use Rattle.render.specs.Plain.{Plain}
use Rattle.render.specs.Says.{numeral, word, number, semicolon, quoted, says, omitted, says_all}
use Rattle.render.specs.Lines.{spaced, indented, line, line_end}
use Rattle.render.proofs.Appended.{text_append}

-- HOW MANY BYTES PIECES HAVE

abbrev pub size : List Piece → ℕ
size ps = length (text ps)

pub size_append : (ps qs : List Piece) → size (ps ++ qs) ≡ size ps + size qs
size_append ps qs = ap length (text_append ps qs) ∙ length-append (text ps) (text qs)

pub size_none : size [] ≡ 0
unfolding text
size_none = refl

pub size_break : size (newline ∷ []) ≡ 1
unfolding text
size_break = refl

-- tokens, with a space before each
abbrev pub width : List Said → ℕ
width ts = size (spaced ts)

pub width_none : width [] ≡ 0
unfolding text spaced
width_none = refl

pub width_more : (t : Said) (ts : List Said) → width (t ∷ ts) ≡ suc (length t.bytes + width ts)
unfolding text spaced
width_more t ts = ap suc (length-append t.bytes (text (spaced ts)))

pub width_append : (ts us : List Said) → width (ts ++ us) ≡ width ts + width us
width_append [] us = omega (arith, width_none)
width_append (t ∷ ts) us = omega (arith, width_more t (ts ++ us), width_more t ts, width_append ts us)

pub size_indented : (depth : ℕ) (ts : List Said) → size (indented depth ts) ≤ 2 * depth + width ts
unfolding text indented
size_indented depth [] = omega arith
size_indented depth (t ∷ ts) =
    rw (length-append, length-replicate, length-append) (omega (arith, width_more t ts))

pub size_line : (depth : ℕ) (ts : List Said) → size (line depth ts) ≤ suc (2 * depth + width ts)
unfolding line
size_line depth [] = omega (arith, size_none)
size_line depth (t ∷ ts) =
    omega (arith, size_append (indented depth (t ∷ ts)) (newline ∷ []), size_indented depth (t ∷ ts), size_break)

pub size_end : size line_end ≡ 3
unfolding text spaced
size_end = refl

-- TOKENS

number_short : (v : ℕ) → length (number v).bytes ≤ 22
number_short v = go (ltb v (2 ^ 63)) refl
  where
    go : (t : Bool) → ltb v (2 ^ 63) ≡ t → length (numeral (cond t (scaled false v) (scaled true (2 ^ 64 - v)))) ≤ 22
    go true e = let h = ltb-true v (2 ^ 63) e in short_any false v (omega arith)
    go false e = let h = ltb-false v (2 ^ 63) e in short_any true (2 ^ 64 - v) (omega arith)

abbrev brief : List ℕ → Bool
brief w = leb (length w) 64

each_brief : (ws : List (List ℕ)) → all brief ws ≡ true → (k : ℕ) → length (get_or ws k []) ≤ 64
unfolding all
each_brief [] e k = omega arith
each_brief (w ∷ ws) e zero = leb-true (length w) 64 (both (brief w) (all brief ws) e).0
each_brief (w ∷ ws) e (suc k) = each_brief ws (both (brief w) (all brief ws) e).1 k

words_brief : all brief words ≡ true
unfolding all keys values words
words_brief = refl

spelling_short : (k : ℕ) → length (spelling k) ≤ 64
unfolding spelling
spelling_short zero = omega arith
spelling_short (suc k) = each_brief words words_brief k

-- ITEMS

-- names of records and of blocks are no longer than a text can be
abbrev pub Named : Plain → Type 0
Named r = length r.name ≤ limit

abbrev pub Labelled : Frame ℕ → Type 0
Labelled f = length f.label ≤ limit

-- a name in quotes, a numeral or a word of a value has no more bytes, with a space before it
abbrev most : ℕ
most = limit + 65

-- the most bytes that an item gives, with a space before each token
unfoldable pub cost : Item → ℕ
cost (key w) = suc (length (bytes w))
cost (keyword w) = suc (length (bytes w))
cost name = most
cost own = most
cost x = most
cost y = most
cost semi = most
cost value = most
cost first = most
cost first_key = most
cost second = most
cost (string n) = most
cost (code c) = 0
cost (if_more n) = 0
cost no_name = 0
cost (among vs) = 0
cost (whole n) = 0

unfoldable pub costs : List Item → ℕ
costs [] = 0
costs (i ∷ is) = cost i + costs is

width_one : (t : Said) → width (t ∷ []) ≡ suc (length t.bytes)
width_one t = omega (arith, width_more t [], width_none)

word_short : (k : ℕ) → width (word k ∷ []) ≤ most
word_short k = omega (arith, width_one (word k), spelling_short k)

if_short : (t : Bool) (k : ℕ) → width (cond t [] (word k ∷ [])) ≤ most
if_short true k = omega (arith, width_none)
if_short false k = word_short k

-- WHAT ITEMS GIVE IS SHORT, where no name is long
module _ (label : List ℕ) (r : Plain) (l : length label ≤ limit) (n : Named r) where
  item_short : (i : Item) → width (says label r i) ≤ cost i
  unfolding says cost
  item_short (key w) = omega (arith, width_one (said Kind.name (bytes w)))
  item_short (keyword w) = omega (arith, width_one (said Kind.name (bytes w)))
  item_short name = omega (arith, width_one (said Kind.name r.name))
  item_short own = omega (arith, width_one (said Kind.name label))
  item_short x = omega (arith, width_one (number r.x), number_short r.x)
  item_short y = omega (arith, width_one (number r.y), number_short r.y)
  item_short semi = omega (arith, width_one semicolon)
  item_short value = word_short (first_of r.kind r.code)
  item_short first = word_short (first_of r.kind r.code)
  item_short first_key = word_short (first_of r.kind r.code)
  item_short second = if_short (eqb (second_of r.kind r.code) 0) (second_of r.kind r.code)
  item_short (string m) = omega (arith, width_one (quoted r.name), length-append r.name (34 ∷ []))
  item_short (code c) = omega (arith, width_none)
  item_short (if_more m) = omega (arith, width_none)
  item_short no_name = omega (arith, width_none)
  item_short (among vs) = omega (arith, width_none)
  item_short (whole m) = omega (arith, width_none)

  pub items_short : (m : ℕ) (is : List Item) → width (says_all m label is r) ≤ costs is
  unfolding says_all costs
  items_short m [] = omega (arith, width_none)
  items_short (suc m) (i ∷ is) = omega (arith, items_short m is)
  items_short zero (i ∷ is) =
      omega (arith, width_append (says label r i) (says_all (omitted r i is) label is r), item_short i, items_short (omitted r i is) is)
