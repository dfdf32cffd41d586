-- A statement is what begins it, what its items say, and the end of its line.
use Prim.Native.Nat.{ℕ, ◌*◌, ◌/◌, ◌%◌}
use Prim.Native.String.{String}
use mathlib.Core.Path.{◌≡◌, refl, sym, ap, ◌∙◌}
use mathlib.Core.Bool.{Bool, true, false, cond, ◌||◌}
use mathlib.Core.List.{List, [], ◌∷◌, ◌++◌, append-nil}
use borrow.Author.Tests.{ne_eqb, eqb-true}
use lib.Dec.{eqb, leb}
use lib.ListN.{replicate}
use Rattle.word.specs.Spelling.{spelling}
use Rattle.word.proofs.Words.{clash}
use Rattle.grammar.specs.Grammar.{stay, enter, named, version, Act, statement, close, refuse, back, up_to54, Row, Body, keyed, worded, options, parts, counted}
use Rattle.grammar.specs.Table.{body}
use Rattle.grammar.specs.Engine.{some, Frame}
use Rattle.rows.specs.Packed.{block_of, kinds_of, move_of, form_of}
use Rattle.render.specs.Pieces.{Said, Piece, spaces, newline, token, text}
use Rattle.render.specs.Spelt.{all}
use Rattle.render.specs.Plain.{Plain}
use Rattle.render.specs.Says.{word}
use Rattle.render.specs.Forms.{Form, forms_of, row_forms, forms_in, form_for, begins}
use Rattle.render.specs.Lines.{spaced, indented, on_line, goes_on}
use Rattle.render.proofs.Appended.{text_append}
use Rattle.render.proofs.Forms.{form_passes}
use Rattle.lines.specs.declared.page.Page.{Page}
use Rattle.lines.specs.Put.{Puts}
use Rattle.lines.specs.Formed.{begin_of}
use Rattle.lines.specs.Stated.{started}
use Rattle.lines.proofs.Laws.{puts_none, puts_as, puts_then}
use Rattle.lines.proofs.Pieced.{pieces_then, line_ends}
use Rattle.lines.proofs.Spelt.{begins_word, begins_none}
use Rattle.lines.proofs.Items.{spaced_append}

-- ON THE LINE OR NOT

pub on_line_lem : (b : Body) → leb 2 (form_of b) ≡ on_line b
unfolding form_of on_line
on_line_lem (keyed n rows) = refl
on_line_lem (worded rows) = refl
on_line_lem (options rows b) = refl
on_line_lem (parts k is) = refl
on_line_lem (counted k is) = refl

module _ (f : Frame ℕ) (m : ℕ) where
  pub into_block : (eqb (m % 8) 1 || eqb (m % 8) 3) ≡ true → on_line (body (block_of ((m / 8) % 32))) ≡ goes_on f (move_of m)
  unfolding move_of
  into_block t = go (eqb (m % 8) 1) (eqb (m % 8) 3) t
    where
      go : (p q : Bool) → p || q ≡ true → on_line (body (block_of ((m / 8) % 32))) ≡ goes_on f (cond p (enter (block_of ((m / 8) % 32)) (kinds_of (m / 256))) (cond q (named (block_of ((m / 8) % 32)) (kinds_of (m / 256))) (cond (eqb (m % 8) 2) version stay)))
      go true q t = refl
      go false true t = refl
      go false false t = clash (sym t)

  pub in_block : (b : ℕ) → f.block ≡ block_of b → (eqb (m % 8) 1 || eqb (m % 8) 3) ≡ false → on_line (body (block_of b)) ≡ goes_on f (move_of m)
  unfolding move_of
  in_block b e t = go (eqb (m % 8) 1) (eqb (m % 8) 3) (eqb (m % 8) 2) t
    where
      go : (p q o : Bool) → p || q ≡ false → on_line (body (block_of b)) ≡ goes_on f (cond p (enter (block_of ((m / 8) % 32)) (kinds_of (m / 256))) (cond q (named (block_of ((m / 8) % 32)) (kinds_of (m / 256))) (cond o version stay)))
      go true q o t = clash t
      go false true o t = clash t
      go false false true t = rw e
      go false false false t = rw e

-- WHAT BEGINS IT

pub no_start : (p : Page) (goes : Bool) (depth : ℕ) {w : ℕ} → w ≡ 0 → Puts p p (started goes depth w)
unfolding started spaced indented text
no_start p true depth e = rw (e, begins_none) (puts_none p)
no_start p false depth e = rw (e, begins_none) (puts_none p)

pub on_start : {p q : Page} {n : ℕ} (goes : Bool) (depth w : ℕ) → (w ≡ 0 → ⊥) → goes ≡ true → n ≡ 1 → Puts p q (replicate n 32 ++ spelling w) → Puts p q (started goes depth w)
unfolding started spaced text
on_start goes depth w z g i p = rw (g, begins_word w (ne_eqb w 0 z), append-nil) (rw i at p)

pub off_start : {p q : Page} {n : ℕ} (goes : Bool) (depth w : ℕ) → (w ≡ 0 → ⊥) → goes ≡ false → n ≡ 2 * depth → Puts p q (replicate n 32 ++ spelling w) → Puts p q (started goes depth w)
unfolding started spaced indented text
off_start goes depth w z g i p = rw (g, begins_word w (ne_eqb w 0 z), append-nil) (rw i at p)

-- only a form of parts begins with no word
unfoldable starts : List String → Bool
starts [] = false
starts (w ∷ ws) = true

module _ (p : Plain) where
  act_starts : (s : String) (o : Bool) (a : Act) (ms : List Form) → all (λ m. starts m.begin) ms ≡ true → all (λ m. starts m.begin) (forms_of s o a ++ ms) ≡ true
  unfolding all starts forms_of
  act_starts s o (statement k is m) ms t = t
  act_starts s o (close is) ms t = t
  act_starts s o (refuse n) ms t = t
  act_starts s o back ms t = t
  act_starts s o (up_to54 a) ms t = act_starts s true a ms t

  rows_start : (rows : List Row) → all (λ m. starts m.begin) (row_forms rows) ≡ true
  unfolding all row_forms
  rows_start [] = refl
  rows_start (w ∷ ws) = act_starts w.begin false w.act (row_forms ws) (rows_start ws)

  pub form_starts : (b : Body) (m : Form) → form_for p (forms_in b) ≡ some m → m.begin ≡ [] → on_line b ≡ true
  unfolding forms_in on_line starts
  form_starts (keyed n rows) m e q = clash (sym (ap starts (sym q) ∙ form_passes (λ m. starts m.begin) p (row_forms rows) m (rows_start rows) e))
  form_starts (worded rows) m e q = clash (sym (ap starts (sym q) ∙ form_passes (λ m. starts m.begin) p (row_forms rows) m (rows_start rows) e))
  form_starts (options rows b) m e q = refl
  form_starts (parts k is) m e q = refl
  form_starts (counted k is) m e q = refl

-- IN A ROW

pub word_first : (depth : ℕ) (t : Said) (ts : List Said) → text (indented depth (t ∷ [])) ++ text (spaced ts) ≡ text (indented depth (t ∷ ts))
unfolding indented spaced
word_first depth t ts = sym (text_append (spaces (2 * depth) ∷ token t ∷ []) (spaced ts))

pub stated : (goes : Bool) (depth w : ℕ) (ts : List Said) → (w ≡ 0 → goes ≡ true)
    → started goes depth w ++ text (spaced ts) ≡ text (cond goes (spaced (begins (begin_of w) ++ ts)) (indented depth (begins (begin_of w) ++ ts)))
unfolding started
stated true depth w ts h = sym (ap text (spaced_append (begins (begin_of w)) ts) ∙ text_append (spaced (begins (begin_of w))) (spaced ts))
stated false depth w ts h = go (eqb w 0) refl
  where
    go : (t : Bool) → eqb w 0 ≡ t → text (indented depth (begins (begin_of w))) ++ text (spaced ts) ≡ text (indented depth (begins (begin_of w) ++ ts))
    go true e = clash (sym (h (eqb-true w 0 e)))
    go false e = rw (begins_word w e) (word_first depth (word w) ts)

module _ (goes : Bool) (depth w : ℕ) (ts : List Said) (h : w ≡ 0 → goes ≡ true) {p q r : Page}
    (v : Puts p q (started goes depth w)) (u : Puts q r (text (spaced ts))) where
  abbrev tokens_of : List Piece
  tokens_of = cond goes (spaced (begins (begin_of w) ++ ts)) (indented depth (begins (begin_of w) ++ ts))

  whole : Puts p r (text tokens_of)
  whole = puts_as (stated goes depth w ts h) (puts_then v u)

  pub line_goes_on : {t : Bool} → t ≡ true → Puts p r (text (tokens_of ++ cond t [] (newline ∷ [])))
  line_goes_on e = rw (e, append-nil) whole

  pub line_over : {t : Bool} → t ≡ false → {e : Page} → Puts r e (10 ∷ []) → Puts p e (text (tokens_of ++ cond t [] (newline ∷ [])))
  line_over f c = rw f (pieces_then tokens_of (newline ∷ []) whole (line_ends c))
