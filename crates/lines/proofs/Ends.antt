-- How a block ends: END by its row of the table, or the `;` of its line.
use Prim.Native.Nat.{ℕ, ◌-◌, ◌*◌, ◌/◌, ◌%◌, ◌≤◌, ◌<◌}
use mathlib.Core.Path.{◌≡◌, refl, sym, ◌∙◌}
use mathlib.Core.Bool.{Bool, true, false, cond}
use mathlib.Core.List.{List, [], ◌∷◌, ◌++◌, append-nil}
use native.Mathlib.Omega.{arith}
use borrow.Author.Tests.{ne_eqb, le-leb, leb-false}
use lib.Dec.{eqb, leb, ltb}
use lib.ListN.{replicate}
use Rattle.word.specs.Words.{keys, values, words, raised, upper, same, first_where, word_of}
use Rattle.word.specs.Spelling.{spelling}
use Rattle.grammar.specs.Grammar.{Block, Act, statement, close, refuse, back, up_to54, Body, keyed, worded, options, parts, counted}
use Rattle.grammar.specs.Table.{body}
use Rattle.grammar.specs.Engine.{Maybe, none, some, Frame}
use Rattle.grammar.specs.Turns.{act_for}
use Rattle.grammar.proofs.Blocks.{alike}
use Rattle.rows.specs.Packed.{items_of, move_of, plain, act_of, look_up, form_of, next_of}
use Rattle.render.specs.Pieces.{Said, Piece, newline, text}
use Rattle.render.specs.Says.{word}
use Rattle.render.specs.Forms.{Close, close_of, last_words}
use Rattle.render.specs.Lines.{spaced, indented, line, line_end, settled_by, settling, ending}
use Rattle.lines.specs.declared.page.Page.{Page}
use Rattle.lines.specs.Put.{Puts}
use Rattle.lines.proofs.Laws.{puts_as, puts_then}
use Rattle.lines.proofs.Pieced.{pieces_then, line_ends}
use Rattle.lines.proofs.Stated.{word_first}

-- the end that the act of END is
unfoldable pub close_by : Act → Maybe Close
close_by (statement k is m) = none
close_by (close is) = some (record { word = "END"; items = is })
close_by (refuse n) = none
close_by back = none
close_by (up_to54 a) = none

-- the pieces, in a block that has rows
abbrev with_rows : Block → List Piece → List Piece
with_rows b ps = cond (leb (form_of (body b)) 2) ps []

-- each block ends so, by its row of END
module _ (d : ℕ) (f : Frame ℕ) where
  pub ends : (b : Block) → form_of (body b) ≤ 2 → ending d f (body b) ≡ line d (last_words f.label (close_by (look_up (body b) 9)))
  unfolding keys values words raised upper same first_where word_of form_of look_up act_for close_of close_by last_words line
  ends b h =
      let e : with_rows b (ending d f (body b)) ≡ with_rows b (line d (last_words f.label (close_by (look_up (body b) 9)))) =
      alike (λ b. with_rows b (ending d f (body b))) (λ b. with_rows b (line d (last_words f.label (close_by (look_up (body b) 9))))) refl b in
      rw (le-leb (form_of (body b)) 2 h) at e

  -- and the others with the `;` of their line
  pub ends_line : (b : Body) → 2 < form_of b → line_end ≡ ending d f b
  unfolding form_of
  ends_line (keyed n rows) h = absurd (omega arith)
  ends_line (worded rows) h = absurd (omega arith)
  ends_line (options rows b) h = absurd (omega arith)
  ends_line (parts k is) h = refl
  ends_line (counted k is) h = refl

  -- options end before their block does
  pub after_options : (b : Body) → form_of b ≡ 2 → line_end ++ ending d f (body (next_of b)) ≡ settling b ++ ending d f (body (settled_by f b).block)
  unfolding form_of next_of
  after_options (keyed n rows) h = absurd (omega arith)
  after_options (worded rows) h = absurd (omega arith)
  after_options (options rows b) h = refl
  after_options (parts k is) h = absurd (omega arith)
  after_options (counted k is) h = absurd (omega arith)

  pub no_options : (b : Body) → (form_of b ≡ 2 → ⊥) → ending d f (body f.block) ≡ settling b ++ ending d f (body (settled_by f b).block)
  unfolding form_of
  no_options (keyed n rows) h = refl
  no_options (worded rows) h = refl
  no_options (options rows b) h = absurd (h refl)
  no_options (parts k is) h = refl
  no_options (counted k is) h = refl

-- THE ROW'S NUMBERS

module _ (head items : ℕ) where
  pub closes : head % 256 ≡ 64 → close_by (act_of head items) ≡ some (record { word = "END"; items = items_of items })
  unfolding close_by act_of plain
  closes e = let q : head % 128 ≡ 64 = omega arith in rw (e, q)

  pub closes_not : (head % 256 ≡ 64 → ⊥) → close_by (act_of head items) ≡ none
  unfolding close_by act_of plain
  closes_not n = go (leb 128 (head % 256)) refl
    where
      others : (p q : Bool) → close_by (cond p (statement (head % 128) (items_of items) (move_of (head / 256))) (cond q back (refuse (head % 128 - 80)))) ≡ none
      others true q = refl
      others false true = refl
      others false false = refl

      go : (t : Bool) → leb 128 (head % 256) ≡ t → close_by (cond t (up_to54 (plain (head % 128) (head / 256) items)) (plain (head % 128) (head / 256) items)) ≡ none
      go true e = refl
      go false e =
          let h : head % 256 < 128 = leb-false 128 (head % 256) e in
          let q : head % 128 ≡ head % 256 = omega arith in
          rw (ne_eqb (head % 128) 64 (λ z. n (sym q ∙ z))) (others (ltb (head % 128) 64) (eqb (head % 128) 66))

-- IN A ROW

-- no end at all
pub no_end : (d : ℕ) (label : List ℕ) → [] ≡ text (line d (last_words label none))
unfolding text line last_words
no_end d label = refl

begun : (d : ℕ) → replicate (2 * d) 32 ++ spelling 9 ≡ text (indented d (word 9 ∷ []))
unfolding text indented spaced
begun d = rw append-nil

pub end_line : {p q r e : Page} {n : ℕ} (d : ℕ) (ts : List Said) → n ≡ 2 * d
    → Puts p q (replicate n 32 ++ spelling 9) → Puts q r (text (spaced ts)) → Puts r e (10 ∷ []) → Puts p e (text (line d (word 9 ∷ ts)))
unfolding line
end_line d ts z a b c =
    pieces_then (indented d (word 9 ∷ ts)) (newline ∷ []) (puts_as (word_first d (word 9) ts) (puts_then (puts_as (begun d) (rw z at a)) b)) (line_ends c)
