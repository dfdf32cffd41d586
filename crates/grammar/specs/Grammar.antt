-- What a grammar can say: the blocks, what a block is made of, and the items of a statement.
use Rattle.std.specs.Prelude.{ℕ, List, [], ◌∷◌}
use Prim.Native.String.{String}

pub data Block : Type 0 where
  Library Units Site Symmetry Macro Pin Port Obs Options Layer Rect Polygon Path : Block

abbrev pub blocks : List Block
blocks = Library ∷ Units ∷ Site ∷ Symmetry ∷ Macro ∷ Pin ∷ Port ∷ Obs ∷ Options ∷ Layer ∷ Rect ∷ Polygon ∷ Path ∷ []

-- one item of a statement, and the refusals that it can give
pub data Item : Type 0 where
  key : String → Item  -- this key word: no name 4, no key word 5, another 7
  keyword : String → Item  -- this word, be it a key word or not: no name 4, another 7
  name : Item  -- the record's name: no name 4
  own : Item  -- the block's name again, byte by byte: no name 4, another 7
  x : Item  -- a number: no number 4, no numeral 9
  y : Item
  semi : Item  -- `;`: else 4
  value : Item  -- a value word of the record's kind: no name 4, another 6
  first : Item  -- the first word of a value of one word or two: no name 4, another 6
  first_key : Item  -- the same, as a key word: no name 4, no key word 5, another 6
  second : Item  -- what stands after the first word, by the table of `Follows`
  string : ℕ → Item  -- the record's name, so many bytes in quotes: no string 4, more or fewer bytes 6
  code : ℕ → Item  -- nothing is taken; the record has this code
  if_more : ℕ → Item  -- nothing is taken; where `;` is held, so many of the items that follow are passed over
  no_name : Item  -- nothing is taken; a name held here is 8
  among : List ℕ → Item  -- nothing is taken; x must be one of these numbers, else 6
  whole : ℕ → Item  -- nothing is taken; the block must lack no record, else this number

-- what a statement does to the open blocks
pub data Move : Type 0 where
  stay : Move
  enter : Block → List ℕ → Move  -- opens a block, which lacks records of these kinds
  named : Block → List ℕ → Move  -- the same, and the block has the record's name
  version : Move  -- stays, and x is the version from now on

-- what a word begins
pub data Act : Type 0 where
  statement : ℕ → List Item → Move → Act  -- a record of this kind: the word is taken, then the items
  close : List Item → Act  -- the block ends: the word is taken, then the items
  refuse : ℕ → Act  -- this number
  back : Act  -- the block ends before the word, which the enclosing block reads
  up_to54 : Act → Act  -- only if the version is at most 5.4, else 5

pub record Row : Type 0 where
  pub begin : String
  pub act : Act

abbrev pub row : String → Act → Row
row w a = record { begin = w; act = a }

-- what a block is made of
pub data Body : Type 0 where
  keyed : ℕ → List Row → Body  -- statements; the word is looked at while it is held: no name 4, no key word 5, another key word this number
  worded : List Row → Body  -- statements; the word is taken before it is looked at: no name 4, another word 5
  options : List Row → Block → Body  -- the same, up to a `;`, after which the block is this one
  parts : ℕ → List Item → Body  -- records of this kind, up to a `;`
  counted : ℕ → List Item → Body  -- as many records of this kind as the block lacks, and a `;`
