-- What the table says of the blocks that a statement opens and of a block after its options, by one computation over all blocks.
use Prim.Native.Nat.{ℕ}
use mathlib.Core.Path.{◌≡◌, refl, subst}
use mathlib.Core.Bool.{Bool, true, false, not, ◌&&◌, ◌||◌}
use mathlib.Core.List.{List}
use borrow.Author.Tests.{not-true}
use lib.Dec.{eqb}
use Rattle.word.proofs.Words.{both}
use Rattle.grammar.specs.Grammar.{Block, Move, stay, enter, named, version, Row, Body, keyed, worded, options, parts, counted}
use Rattle.grammar.specs.Table.{body}
use Rattle.grammar.specs.Engine.{none, some, Frame}
use Rattle.grammar.proofs.Blocks.{at_block}
use Rattle.render.specs.Spelt.{all}
use Rattle.render.specs.Plain.{Plain}
use Rattle.render.specs.Forms.{Form, forms_of, row_forms, forms_in, form_for, close_of}
use Rattle.render.specs.Lines.{form_in}
use Rattle.render.proofs.Forms.{form_passes, form_kind, no_form}
use Rattle.render.proofs.Stands.{is_some, has_last}

-- THE TABLE

-- a block that ends by words of its own or by a `;`, once its options are over
abbrev pub closed : Body → Bool
closed (keyed n rows) = has_last (keyed n rows)
closed (worded rows) = has_last (worded rows)
closed (options rows b) = has_last (body b)
closed (parts k is) = true
closed (counted k is) = true

-- a block of statements that are looked at while they are held, with last words
abbrev pub leads : Body → Bool
leads (keyed n rows) = is_some (close_of rows)
leads (worded rows) = false
leads (options rows b) = false
leads (parts k is) = false
leads (counted k is) = false

-- a block that does not end by itself is opened in one that does
abbrev pub opens : Body → Move → Bool
opens d stay = true
opens d (enter b ks) = closed (body b) || leads d
opens d (named b ks) = closed (body b) || leads d
opens d version = true

abbrev pub is_options : Body → Bool
is_options (keyed n rows) = false
is_options (worded rows) = false
is_options (options rows b) = true
is_options (parts k is) = false
is_options (counted k is) = false

-- after options come no options, and no record that could be one
abbrev settles : Body → Bool
settles (keyed n rows) = true
settles (worded rows) = true
settles (options rows b) = not (is_options (body b)) && all (λ n. all (λ m. not (eqb m.kind n.kind)) (forms_in (options rows b))) (forms_in (body b))
settles (parts k is) = true
settles (counted k is) = true

opens_everywhere : (b : Block) → all (λ m. opens (body b) m.move) (forms_in (body b)) ≡ true
unfolding all forms_in row_forms forms_of close_of
opens_everywhere = at_block (λ d. all (λ m. opens d m.move) (forms_in d)) refl

settles_everywhere : (b : Block) → settles (body b) ≡ true
unfolding all forms_in row_forms forms_of
settles_everywhere = at_block settles refl

-- what the statement of a record opens
pub well_opened : (f : Frame ℕ) (r : Plain) (m : Form) → form_in f r ≡ some m → opens (body f.block) m.move ≡ true
well_opened f r m e = form_passes (λ m. opens (body f.block) m.move) r (forms_in (body f.block)) m (opens_everywhere f.block) e

module _ (b c : Block) (rows : List Row) (e : body b ≡ options rows c) where
  over : (not (is_options (body c)) ≡ true) × (all (λ n. all (λ m. not (eqb m.kind n.kind)) (forms_in (options rows c))) (forms_in (body c)) ≡ true)
  over = both _ _ (subst (λ d. settles d ≡ true) e (settles_everywhere b))

  -- what comes after options is none
  pub options_over : is_options (body c) ≡ false
  options_over = not-true (is_options (body c)) over.0

  -- a record of the block after its options is none of them
  pub no_option : (r : Plain) (m : Form) → form_for r (forms_in (body c)) ≡ some m → form_for r (forms_in (body b)) ≡ none
  no_option r m h =
      let p = form_passes (λ n. all (λ m. not (eqb m.kind n.kind)) (forms_in (options rows c))) r (forms_in (body c)) m over.1 h in
      rw e (no_form r (forms_in (options rows c)) (rw (form_kind r (forms_in (body c)) m h) at p))
