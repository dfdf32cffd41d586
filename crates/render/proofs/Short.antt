-- A written text is far shorter than a 64-bit number can say: a line has few tokens, each of the bytes of a name or fewer, and each
-- record gives at most two lines, its own and the end of the block that it opens.
use Prim.Native.Nat.{ℕ, suc, ◌+◌, ◌-◌, ◌*◌, ◌^◌, ◌≤◌, ◌<◌}
use mathlib.Core.Path.{◌≡◌, refl}
use mathlib.Core.Bool.{Bool, true, false, cond, ◌&&◌}
use mathlib.Core.List.{List, [], ◌∷◌, ◌++◌, map}
use native.Mathlib.Omega.{arith}
use borrow.Author.Tests.{leb-true}
use lib.Dec.{leb}
use lib.ListN.{length, drop, length-take, length-drop, length-map}
use Rattle.text.specs.Text.{bytes}
use Rattle.record.specs.declared.Record.{Record}
use Rattle.lexer.specs.Kinds as Kind
use Rattle.lexer.specs.Screen.{limit}
use Rattle.lexer.proofs.Cleared.{clear_short}
use Rattle.word.proofs.Words.{both}
use Rattle.grammar.specs.Grammar.{Block, Move, stay, enter, named, version, Body, keyed, worded, options, parts, counted}
use Rattle.grammar.specs.Table.{body}
use Rattle.grammar.specs.Engine.{Maybe, none, some, Frame}
use Rattle.grammar.specs.Turns.{State, shift}
use Rattle.grammar.specs.Reading.{start, records, reading}
use Rattle.grammar.specs.Standing.{Every, Rising, places_of}
use Rattle.grammar.proofs.Blocks.{at_block}
use Rattle.grammar.proofs.Places.{places_rise, places_within}
use Rattle.render.specs.Pieces.{Said, said, Piece, newline, text}
use Rattle.render.specs.Spelt.{all}
use Rattle.render.specs.Plain.{Plain, bare}
use Rattle.render.specs.Says.{says_all}
use Rattle.render.specs.Forms.{Form, forms_of, row_forms, forms_in, begins, said_in, Close, close_of, nobody, last_words}
use Rattle.render.specs.Lines.{spaced, indented, on_line, owns, form_in, settled, settling, ending, closing, end_all, taken_by, taking, before, goes_on, statement, entered, pieces, after, lines}
use Rattle.render.proofs.Forms.{Found, form_found}
use Rattle.render.proofs.Settled.{by_settled, by_settling}
use Rattle.render.proofs.Bared.{from_turns}
use Rattle.render.proofs.Widths.{size, size_append, size_none, size_break, width, width_none, width_more, width_append, size_indented, size_line, size_end, cost, costs, Named, Labelled, items_short}

-- A TEST OF THE TABLE: no form and no end of a block is long

unfoldable form_cost : Form → ℕ
form_cost m = width (begins m.begin) + costs m.items

unfoldable close_cost : Maybe Close → ℕ
close_cost none = 0
close_cost (some c) = suc (length (bytes c.word)) + costs c.items

unfoldable end_cost : Body → ℕ
end_cost (keyed n rows) = close_cost (close_of rows)
end_cost (worded rows) = close_cost (close_of rows)
end_cost (options rows b) = 0
end_cost (parts k is) = 0
end_cost (counted k is) = 0

abbrev low_form : Form → Bool
low_form m = leb (form_cost m) (2 ^ 30)

abbrev low_body : Body → Bool
low_body b = all low_form (forms_in b) && leb (end_cost b) (2 ^ 30)

table : (b : Block) → low_body (body b) ≡ true
unfolding all forms_in row_forms forms_of begins close_of text spaced cost costs form_cost close_cost end_cost
table = at_block low_body refl

-- a form that is found is not long
found_low : (f : Frame ℕ) (r : Plain) → Found low_form r (form_in f r)
found_low f r = let b = body f.block in form_found low_form r (forms_in b) (both (all low_form (forms_in b)) (leb (end_cost b) (2 ^ 30)) (table f.block)).0

end_low : (f : Frame ℕ) → end_cost (body f.block) ≤ 2 ^ 30
end_low f = let b = body f.block in leb-true (end_cost b) (2 ^ 30) (both (all low_form (forms_in b)) (leb (end_cost b) (2 ^ 30)) (table f.block)).1

-- BLOCKS

settling_short : (b : Body) → size (settling b) ≤ 3
settling_short = by_settling (λ ps. size ps ≤ 3) (omega (arith, size_none)) (omega (arith, size_end))

last_short : (f : Frame ℕ) (c : Maybe Close) → Labelled f → width (last_words f.label c) ≤ close_cost c
unfolding last_words close_cost
last_short f none l = omega (arith, width_none)
last_short f (some c) l =
    omega (
      arith,
      width_more (said Kind.name (bytes c.word)) (says_all 0 f.label c.items nobody),
      items_short f.label nobody l (omega arith) 0 c.items,
    )

ending_short : (depth : ℕ) (f : Frame ℕ) (b : Body) → Labelled f → size (ending depth f b) ≤ end_cost b + 2 * depth + 3
unfolding end_cost
ending_short depth f (keyed n rows) l = omega (arith, size_line depth (last_words f.label (close_of rows)), last_short f (close_of rows) l)
ending_short depth f (worded rows) l = omega (arith, size_line depth (last_words f.label (close_of rows)), last_short f (close_of rows) l)
ending_short depth f (options rows b) l = omega (arith, size_none)
ending_short depth f (parts k is) l = omega (arith, size_end)
ending_short depth f (counted k is) l = omega (arith, size_end)

-- a statement or the end of a block has at most 2 ^ 31 bytes where at most 2 ^ 25 blocks are open
closing_short : (f : Frame ℕ) (fs : List (Frame ℕ)) → Labelled f → length fs ≤ 2 ^ 25 → size (closing f fs) ≤ 2 ^ 31
closing_short f fs l d =
    let b = body (settled f).block in
    let depth = length fs - 1 in
    omega (
      arith,
      size_append (settling (body f.block)) (ending depth f b),
      settling_short (body f.block),
      ending_short depth f b l,
      end_low (settled f),
    )

all_end_short : (fs : List (Frame ℕ)) → Every Labelled fs → length fs ≤ 2 ^ 25 → size (end_all fs) ≤ 2 ^ 31 * length fs
unfolding end_all
all_end_short [] ls d = omega (arith, size_none)
all_end_short (f ∷ fs) ls d =
    omega (
      arith,
      size_append (closing f fs) (end_all fs),
      closing_short f fs ls.0 (omega arith),
      all_end_short fs ls.1 (omega arith),
    )

-- RECORDS

form_short : (f : Frame ℕ) (r : Plain) (m : Form) → Labelled f → Named r → width (said_in f.label m r) ≤ form_cost m
unfolding said_in form_cost
form_short f r m l n = omega (arith, width_append (begins m.begin) (says_all 0 f.label m.items r), items_short f.label r l n 0 m.items)

statement_short : (depth : ℕ) (f : Frame ℕ) (r : Plain) (o : Maybe Form) → Labelled f → Named r → Found low_form r o → size (statement depth f r o) ≤ 2 ^ 30 + 2 * depth + 1
statement_short depth f r none l n h = omega (arith, size_none)
statement_short depth f r (some m) l n h =
    let begun = on_line (body f.block) in
    let goes = goes_on f m.move in
    omega (arith, size_append (cond begun (spaced ts) (indented depth ts)) (cond goes [] (newline ∷ [])), begin begun, form_short f r m l n, leb-true (form_cost m) (2 ^ 30) h.0, end goes)
  where
    ts : List Said
    ts = said_in f.label m r

    begin : (begun : Bool) → size (cond begun (spaced ts) (indented depth ts)) ≤ 2 * depth + width ts
    begin true = omega arith
    begin false = size_indented depth ts

    end : (goes : Bool) → size (cond goes [] (newline ∷ [])) ≤ 1
    end true = omega (arith, size_none)
    end false = omega (arith, size_break)

before_short : (f : Frame ℕ) (o : Maybe Form) → size (before f o) ≤ 3
before_short f none = settling_short (body f.block)
before_short f (some m) = omega (arith, size_none)

taken_label : (f : Frame ℕ) (o : Maybe Form) → Labelled f → Labelled (taken_by f o)
taken_label f none l = by_settled Labelled f l (λ c. l) (body f.block)
taken_label f (some m) l = l

-- at most one block more is open, and none has a long name
abbrev OneMore : List (Frame ℕ) → State ℕ → Type 0
OneMore fs s = (length s.blocks ≤ suc (length fs)) × Every Labelled s.blocks

entered_more : (v : ℕ) (f : Frame ℕ) (fs : List (Frame ℕ)) (r : Plain) (o : Maybe Form) → Labelled f → Every Labelled fs → Named r
    → OneMore (f ∷ fs) (entered v f fs r o)
entered_more v f fs r none l ls n = (omega arith, (l, ls))
entered_more v f fs r (some m) l ls n = go m.move
  where
    go : (mv : Move) → OneMore (f ∷ fs) (shift mv r.kind r.at r.name r.x v f fs)
    go stay = (omega arith, (l, ls))
    go (enter b ks) = (omega arith, (omega arith, (l, ls)))
    go (named b ks) = (omega arith, (n, (l, ls)))
    go version = (omega arith, (l, ls))

-- what a record gives pays for the blocks that it ends, and leaves what those still open cost
abbrev Paid : List (Frame ℕ) → List Piece → State ℕ → Type 0
Paid fs ps s = (size ps + 2 ^ 31 * length s.blocks ≤ 2 ^ 31 * (length fs + 2)) × OneMore fs s

pieces_paid : (v : ℕ) (fs : List (Frame ℕ)) (r : Plain) → Every Labelled fs → Named r → length fs ≤ 2 ^ 25 → Paid fs (pieces fs r) (after v fs r)
unfolding pieces after
pieces_paid v [] r ls n d = (omega (arith, size_none), (omega arith, tt))
pieces_paid v (f ∷ fs) r ls n d = go (owns f r) (pieces_paid v fs r ls.1 n (omega arith))
  where
    g : Frame ℕ
    g = taking f r

    go : (mine : Bool) → Paid fs (pieces fs r) (after v fs r)
        → Paid (f ∷ fs) (cond mine (before f (form_in f r) ++ statement (length fs) g r (form_in g r)) (closing f fs ++ pieces fs r))
        (cond mine (entered v g fs r (form_in g r)) (after v fs r))
    go true ih =
        let l = taken_label f (form_in f r) ls.0 in
        let (m, k) = entered_more v g fs r (form_in g r) l ls.1 n in
        let p = statement_short (length fs) g r (form_in g r) l n (found_low g r) in
        (omega (arith, size_append (before f (form_in f r)) (statement (length fs) g r (form_in g r)), before_short f (form_in f r), p, m), (m, k))
    go false (p, (m, k)) =
        (omega (arith, size_append (closing f fs) (pieces fs r), closing_short f fs ls.0 (omega arith)), (omega arith, k))

from_state : (s : State ℕ) (ps : List Plain) → Every Labelled s.blocks → Every Named ps → length s.blocks + length ps ≤ 2 ^ 25
    → size (lines s ps) ≤ 2 ^ 31 * (length s.blocks + 2 * length ps)
unfolding lines
from_state s [] ls ns d = omega (arith, all_end_short s.blocks ls (omega arith))
from_state s (r ∷ rs) ls ns d =
    let t = after s.version s.blocks r in
    let (p, (m, k)) = pieces_paid s.version s.blocks r ls ns.0 (omega arith) in
    omega (arith, size_append (pieces s.blocks r) (lines t rs), from_state t rs k ns.1 (omega arith))

-- A WRITTEN TEXT IS NO LONGER THAN 64 BITS SAY, where neither the names nor the list are longer than a text can be
pub lines_short : (s : State ℕ) (ps : List Plain) → Every Labelled s.blocks → Every Named ps → length s.blocks ≤ 1 → length ps ≤ limit
    → length (text (lines s ps)) ≤ 2 ^ 64 - 1
lines_short s ps ls ns b n = omega (arith, from_state s ps ls ns (omega arith))

-- OF A READING

bare_named : (s : List ℕ) (rs : List Record) → length s ≤ limit → Every Named (map (bare s) rs)
bare_named s [] h = tt
bare_named s (r ∷ rs) h = (omega (arith, length-take r.len (drop r.name s), length-drop r.name s), bare_named s rs h)

-- records that stand one after the other below n are no more than n
first_few : (n : ℕ) (r : Record) (rs : List Record) → Rising (places_of (r ∷ rs)) → Every (λ p. p < n) (places_of (r ∷ rs)) → r.at + suc (length rs) ≤ n
first_few n r [] h b = omega (arith, b.0)
first_few n r (q ∷ rs) h b = omega (arith, h.0, first_few n q rs h.1 b.1)

places_few : (n : ℕ) (rs : List Record) → Rising (places_of rs) → Every (λ p. p < n) (places_of rs) → length rs ≤ n
places_few n [] h b = omega arith
places_few n (r ∷ rs) h b = omega (arith, first_few n r rs h b)

-- THE TEXT THAT A READING IS WRITTEN AS IS NO LONGER THAN 64 BITS SAY
pub reading_short : (s : List ℕ) (rs : List Record) → reading s ≡ records rs → length (text (lines start (map (bare s) rs))) ≤ 2 ^ 64 - 1
reading_short s rs e =
    let (qs, c, t, f) = from_turns s rs e in
    let h = clear_short s c in
    lines_short start (map (bare s) rs) (omega arith, tt) (bare_named s rs h) (omega arith)
    (omega (arith, length-map rs (bare s), places_few (length s) rs (places_rise s rs e) (places_within s rs e)))
