-- What a record says, item by item of its statement, and what the items ask of it.
use Rattle.std.specs.Prelude.{ℕ, zero, suc, Bool, true, false, cond, not, ◌&&◌, ◌||◌, List, [], ◌∷◌, ◌++◌, leb, eqb, length, take}
use Rattle.text.specs.Text.{bytes}
use Rattle.lexer.specs.Kinds as Kind
use Rattle.numeral.specs.declared.Scaled.{Scaled}
use Rattle.numeral.specs.Numeral.{limit}
use Rattle.numeral.specs.Shortest.{shortest}
use Rattle.numeral.specs.Stored.{stored_of, value_of}
use Rattle.word.specs.Codes.{code_of}
use Rattle.word.specs.Spelling.{spelling, first_of, second_of}
use Rattle.grammar.specs.Grammar.{Item, key, keyword, name, own, x, y, semi, value, first, first_key, second, string, code, if_more, no_name, among, whole}
use Rattle.grammar.specs.Engine.{empty, member}
use Rattle.render.specs.Pieces.{Said, said}
use Rattle.render.specs.Spelt.{is_spelt}
use Rattle.render.specs.Plain.{Plain}

-- WORDS AND NUMBERS

-- a code that the kind has
unfoldable pub is_code : ℕ → ℕ → Bool
is_code k c = not (eqb c 0) && eqb (code_of k (first_of k c) (second_of k c)) c

-- the shortest numeral of a value, and whether a numeral can say it
abbrev pub numeral : Scaled → List ℕ
numeral v = shortest v.negative v.millionths

abbrev pub is_stored : ℕ → Scaled → Bool
is_stored v s = leb s.millionths limit && eqb (stored_of s.negative s.millionths) v

-- TOKENS

abbrev pub word : ℕ → Said
word k = said Kind.name (spelling k)

abbrev pub number : ℕ → Said
number v = said Kind.number (numeral (value_of v))

abbrev pub semicolon : Said
semicolon = said Kind.semicolon (59 ∷ [])

abbrev pub quoted : List ℕ → Said
quoted s = said Kind.string_literal (34 ∷ (s ++ (34 ∷ [])))

-- the tokens of an item, in a block with the name `label`
unfoldable pub says : List ℕ → Plain → Item → List Said
says label r (key w) = said Kind.name (bytes w) ∷ []
says label r (keyword w) = said Kind.name (bytes w) ∷ []
says label r name = said Kind.name r.name ∷ []
says label r own = said Kind.name label ∷ []
says label r x = number r.x ∷ []
says label r y = number r.y ∷ []
says label r semi = semicolon ∷ []
says label r value = word (first_of r.kind r.code) ∷ []
says label r first = word (first_of r.kind r.code) ∷ []
says label r first_key = word (first_of r.kind r.code) ∷ []
says label r second = cond (eqb (second_of r.kind r.code) 0) [] (word (second_of r.kind r.code) ∷ [])
says label r (string n) = quoted r.name ∷ []
says label r (code c) = []
says label r (if_more n) = []
says label r no_name = []
says label r (among vs) = []
says label r (whole n) = []

-- whether the record shows that an item was read
unfoldable pub shows : Plain → Item → Bool
shows r (key w) = false
shows r (keyword w) = false
shows r name = not (empty r.name)
shows r own = false
shows r x = not (eqb r.x 0)
shows r y = not (eqb r.y 0)
shows r semi = false
shows r value = false
shows r first = false
shows r first_key = false
shows r second = false
shows r (string n) = false
shows r (code c) = eqb r.code c
shows r (if_more n) = false
shows r no_name = false
shows r (among vs) = false
shows r (whole n) = false

unfoldable pub any : (Item → Bool) → List Item → Bool
any p [] = false
any p (i ∷ is) = p i || any p is

-- how many of the items that follow are left out: an optional part, where the record shows none of it
unfoldable pub omitted : Plain → Item → List Item → ℕ
omitted r (key w) is = 0
omitted r (keyword w) is = 0
omitted r name is = 0
omitted r own is = 0
omitted r x is = 0
omitted r y is = 0
omitted r semi is = 0
omitted r value is = 0
omitted r first is = 0
omitted r first_key is = 0
omitted r second is = 0
omitted r (string n) is = 0
omitted r (code c) is = 0
omitted r (if_more n) is = cond (any (shows r) (take n is)) 0 n
omitted r no_name is = 0
omitted r (among vs) is = 0
omitted r (whole n) is = 0

-- the tokens of the items, of which the first m are left out
unfoldable pub says_all : ℕ → List ℕ → List Item → Plain → List Said
says_all m label [] r = []
says_all (suc m) label (i ∷ is) r = says_all m label is r
says_all zero label (i ∷ is) r = says label r i ++ says_all (omitted r i is) label is r

-- WHAT IS ASKED

-- what an item asks of a record, in a block with the name `label` that lacks records of the kinds `lacks`
unfoldable pub holds : List ℕ → List ℕ → Plain → Item → Bool
holds label lacks r (key w) = true
holds label lacks r (keyword w) = true
holds label lacks r name = is_spelt (said Kind.name r.name)
holds label lacks r own = is_spelt (said Kind.name label)
holds label lacks r x = is_stored r.x (value_of r.x)
holds label lacks r y = is_stored r.y (value_of r.y)
holds label lacks r semi = true
holds label lacks r value = is_code r.kind r.code && eqb (second_of r.kind r.code) 0
holds label lacks r first = true
holds label lacks r first_key = true
holds label lacks r second = is_code r.kind r.code
holds label lacks r (string n) = eqb (length r.name) n && is_spelt (quoted r.name)
holds label lacks r (code c) = eqb r.code c
holds label lacks r (if_more n) = true
holds label lacks r no_name = true
holds label lacks r (among vs) = member vs r.x
holds label lacks r (whole n) = empty lacks

unfoldable pub holds_all : ℕ → List ℕ → List ℕ → List Item → Plain → Bool
holds_all m label lacks [] r = true
holds_all (suc m) label lacks (i ∷ is) r = holds_all m label lacks is r
holds_all zero label lacks (i ∷ is) r = holds label lacks r i && holds_all (omitted r i is) label lacks is r

-- the fields that the items give, copied from r to d
abbrev pub with_name : List ℕ → Plain → Plain
with_name s d = record { kind = d.kind; code = d.code; at = d.at; owner = d.owner; name = s; x = d.x; y = d.y }

abbrev pub with_code : ℕ → Plain → Plain
with_code c d = record { kind = d.kind; code = c; at = d.at; owner = d.owner; name = d.name; x = d.x; y = d.y }

abbrev pub with_x : ℕ → Plain → Plain
with_x v d = record { kind = d.kind; code = d.code; at = d.at; owner = d.owner; name = d.name; x = v; y = d.y }

abbrev pub with_y : ℕ → Plain → Plain
with_y v d = record { kind = d.kind; code = d.code; at = d.at; owner = d.owner; name = d.name; x = d.x; y = v }

unfoldable pub gives : Plain → Item → Plain → Plain
gives r (key w) d = d
gives r (keyword w) d = d
gives r name d = with_name r.name d
gives r own d = d
gives r x d = with_x r.x d
gives r y d = with_y r.y d
gives r semi d = d
gives r value d = with_code r.code d
gives r first d = d
gives r first_key d = d
gives r second d = with_code r.code d
gives r (string n) d = with_name r.name d
gives r (code c) d = with_code c d
gives r (if_more n) d = d
gives r no_name d = d
gives r (among vs) d = d
gives r (whole n) d = d

unfoldable pub gives_all : ℕ → List Item → Plain → Plain → Plain
gives_all m [] r d = d
gives_all (suc m) (i ∷ is) r d = gives_all m is r d
gives_all zero (i ∷ is) r d = gives_all (omitted r i is) is r (gives r i d)
