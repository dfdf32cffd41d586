-- Inner machinery, which nobody has to believe: a row of the grammar as two numbers. Its items are a byte each, the first the lowest;
-- its head has what it does, and above that what a record does to the open blocks. `row_of` is proved to be the grammar's table.
use Rattle.std.specs.Prelude.{ℕ, zero, suc, ◌-◌, ◌/◌, ◌%◌, Bool, false, cond, ◌||◌, List, [], ◌∷◌, ◌++◌, eqb, leb, ltb}
use Prim.Native.String.{String}
use Rattle.record.specs.Kinds.{ANTENNA, LAYER_OPTION}
use Rattle.word.specs.Words.{keys, word}
use Rattle.grammar.specs.Grammar.{Block, Library, Units, Site, Symmetry, Macro, Pin, Port, Obs, Options, Layer, Rect, Polygon, Path, Item, key, keyword, name, own, x, y, semi, value, first, first_key, second, string, code, if_more, no_name, among, whole, Move, stay, enter, named, version, Act, statement, close, refuse, back, up_to54, Row, Body, keyed, worded, options, parts, counted}
use Rattle.grammar.specs.Table.{versions, microns, body}
use Rattle.grammar.specs.Turns.{act_for}

-- the word at a place of a list
unfoldable pub nth : ℕ → List String → String
nth n [] = ""
nth zero (w ∷ ws) = w
nth (suc n) (w ∷ ws) = nth n ws

-- the key word with a number, and none with 0
unfoldable pub key_at : ℕ → String
key_at n = nth n ("" ∷ keys)

-- the item that a byte stands for
unfoldable pub item_at : ℕ → Item
item_at b =
    cond (leb 128 b) (key (key_at (b - 128)))
    (cond (leb 96 b) (cond (eqb b 112) (keyword "MICRONS") (cond (eqb b 113) (keyword "UNITS") (string (b - 96))))
    (cond (leb 80 b) (cond (eqb b 80) (among versions) (among microns))
    (cond (leb 64 b) (whole (b - 64))
    (cond (leb 48 b) (if_more (b - 48))
    (cond (leb 32 b) (code (b - 32))
    (cond (leb 16 b) (cond (eqb b 16) no_name second)
    (cond (eqb b 1) x
    (cond (eqb b 2) y
    (cond (eqb b 5) name
    (cond (eqb b 6) own
    (cond (eqb b 7) value
    (cond (eqb b 8) first
    (cond (eqb b 9) first_key semi)))))))))))))

-- the items of a number, up to its last byte that is not 0
unfoldable pub items_in : ℕ → ℕ → List Item
items_in zero s = []
items_in (suc n) s = cond (eqb s 0) [] (item_at (s % 256) ∷ items_in n (s / 256))

unfoldable pub items_of : ℕ → List Item
items_of s = items_in 8 s

-- the blocks by their numbers
unfoldable pub block_of : ℕ → Block
block_of b =
    cond (eqb b 0) Library (cond (eqb b 1) Units (cond (eqb b 2) Site (cond (eqb b 3) Symmetry (cond (eqb b 4) Macro (cond (eqb b 5) Pin
    (cond (eqb b 6) Port (cond (eqb b 7) Obs (cond (eqb b 8) Options (cond (eqb b 9) Layer (cond (eqb b 10) Rect
    (cond (eqb b 11) Polygon Path)))))))))))

-- the kinds of a number, a byte each up to its last byte, which is a mark
unfoldable pub kinds_in : ℕ → ℕ → List ℕ
kinds_in zero n = []
kinds_in (suc m) n = cond (ltb n 256) [] (n % 256 ∷ kinds_in m (n / 256))

unfoldable pub kinds_of : ℕ → List ℕ
kinds_of n = kinds_in 8 n

-- how + 8 * block + 256 * the kinds that the block lacks
unfoldable pub move_of : ℕ → Move
move_of m =
    cond (eqb (m % 8) 1) (enter (block_of ((m / 8) % 32)) (kinds_of (m / 256)))
    (cond (eqb (m % 8) 3) (named (block_of ((m / 8) % 32)) (kinds_of (m / 256)))
    (cond (eqb (m % 8) 2) version stay))

unfoldable pub plain : ℕ → ℕ → ℕ → Act
plain act move items =
    cond (ltb act 64) (statement act (items_of items) (move_of move))
    (cond (eqb act 64) (close (items_of items))
    (cond (eqb act 66) back
    (refuse (act - 80))))

unfoldable pub act_of : ℕ → ℕ → Act
act_of head items = cond (leb 128 (head % 256)) (up_to54 (plain (head % 128) (head / 256) items)) (plain (head % 128) (head / 256) items)

-- what a word begins in a block, by the definition
unfoldable pub look_up : Body → ℕ → Act
look_up (keyed n rows) k = act_for n k rows
look_up (worded rows) k = act_for 5 k rows
look_up (options rows b) k = act_for 5 k rows
look_up (parts n is) k = refuse 0
look_up (counted n is) k = refuse 0

unfoldable pub act_in : ℕ → ℕ → Act
act_in b k = look_up (body (block_of b)) k

-- what a block is made of, by number; the act of each of its parts; the block after its options
unfoldable pub form_of : Body → ℕ
form_of (keyed n rows) = 0
form_of (worded rows) = 1
form_of (options rows b) = 2
form_of (parts k is) = 3
form_of (counted k is) = 4

unfoldable pub form_in : ℕ → ℕ
form_in b = form_of (body (block_of b))

unfoldable pub part_of : Body → Act
part_of (keyed n rows) = refuse 0
part_of (worded rows) = refuse 0
part_of (options rows b) = refuse 0
part_of (parts k is) = statement k is stay
part_of (counted k is) = statement k is stay

unfoldable pub part_in : ℕ → Act
part_in b = part_of (body (block_of b))

unfoldable pub next_of : Body → Block
next_of (keyed n rows) = Layer
next_of (worded rows) = Layer
next_of (options rows b) = b
next_of (parts k is) = Layer
next_of (counted k is) = Layer

unfoldable pub after_in : ℕ → Block
after_in b = next_of (body (block_of b))

-- how parts end, by that number
unfoldable pub end_in : ℕ → Act
end_in n = cond (eqb n 4) (close (semi ∷ [])) (close (whole 6 ∷ semi ∷ []))

-- THE WORD OF A KIND, for the writer

abbrev pub rows_of : Body → List Row
rows_of (keyed n rows) = rows
rows_of (worded rows) = rows
rows_of (options rows b) = rows
rows_of (parts k is) = []
rows_of (counted k is) = []

-- the kinds whose records begin with a word by their code
unfoldable pub coded : ℕ → Bool
coded k = eqb k ANTENNA || eqb k LAYER_OPTION

unfoldable pub gives : ℕ → Act → Bool
gives k (statement j is m) = eqb j k
gives k (close is) = false
gives k (refuse n) = false
gives k back = false
gives k (up_to54 a) = gives k a

-- the word of the first row that gives records of the kind, or 0
unfoldable pub begun_by : ℕ → List Row → ℕ
begun_by k [] = 0
begun_by k (r ∷ rs) = cond (gives k r.act) (word r.begin) (begun_by k rs)

abbrev pub outer_rows : List Row
outer_rows = rows_of (body Library) ++ rows_of (body Units) ++ rows_of (body Site) ++ rows_of (body Macro)

abbrev pub inner_rows : List Row
inner_rows = rows_of (body Pin) ++ rows_of (body Port) ++ rows_of (body Obs) ++ rows_of (body Options) ++ rows_of (body Layer)

unfoldable pub word_of_kind : ℕ → ℕ
word_of_kind k = begun_by k (outer_rows ++ inner_rows)
