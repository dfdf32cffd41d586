-- Where the table puts a record's words: the kinds that stand on their owner's line are those of the blocks that stand on a line, and the
-- kinds whose blocks close with END open a block with last words; by one computation over all blocks.
use Prim.Native.Nat.{ℕ}
use Prim.Native.String.{String}
use mathlib.Core.Path.{◌≡◌, refl, sym, ap, subst, ◌∙◌}
use mathlib.Core.Bool.{Bool, true, false, cond, not, ◌&&◌, ◌||◌, false≢true}
use mathlib.Core.List.{List, [], ◌∷◌}
use borrow.Author.Tests.{not-true}
use Rattle.text.specs.Text.{bytes}
use Rattle.word.specs.Words as Words
use Rattle.word.proofs.Words.{both, same_eq}
use Rattle.grammar.specs.Grammar.{Block, Move, stay, enter, named, version, Row, Body, keyed, worded, options, parts, counted}
use Rattle.grammar.specs.Table.{body}
use Rattle.grammar.specs.Engine.{Maybe, none, some, Frame, member}
use Rattle.grammar.proofs.Blocks.{at_block}
use Rattle.render.specs.Spelt.{all}
use Rattle.render.specs.Plain.{Plain}
use Rattle.render.specs.Forms.{Form, forms_of, row_forms, forms_in, Close, close_of}
use Rattle.render.specs.Lines.{on_line, form_in}
use Rattle.render.specs.Layout.{on_owners_line, closes_with_end}
use Rattle.render.proofs.Forms.{form_passes, form_kind}
use Rattle.render.proofs.OwnersOpen.{ends_by_words}

abbrev pub agree : Bool → Bool → Bool
agree a b = cond a b (not b)

agreed : (a b : Bool) → agree a b ≡ true → a ≡ b
agreed true b e = sym e
agreed false b e = sym (not-true b e)

-- FORMS

abbrev has_word : List String → Bool
has_word [] = false
has_word (w ∷ ws) = true

-- what a statement of the kind k opens in the block d
abbrev pub opens_for : Body → ℕ → Move → Bool
opens_for d k stay = not (closes_with_end k)
opens_for d k (enter b ks) = agree (closes_with_end k) (ends_by_words (body b)) && not (on_line d)
opens_for d k (named b ks) = agree (closes_with_end k) (ends_by_words (body b)) && not (on_line d)
opens_for d k version = not (closes_with_end k)

abbrev placed : Body → Form → Bool
placed d m = agree (on_owners_line m.kind) (on_line d) && ((on_line d || has_word m.begin) && opens_for d m.kind m.move)

placed_everywhere : (b : Block) → all (placed (body b)) (forms_in (body b)) ≡ true
unfolding all forms_in row_forms forms_of close_of on_line on_owners_line closes_with_end member
placed_everywhere = at_block (λ d. all (placed d) (forms_in d)) refl

module _ (f : Frame ℕ) (r : Plain) (m : Form) (e : form_in f r ≡ some m) where
  placed_here : placed (body f.block) m ≡ true
  placed_here = form_passes (placed (body f.block)) r (forms_in (body f.block)) m (placed_everywhere f.block) e

  kind_here : m.kind ≡ r.kind
  kind_here = form_kind r (forms_in (body f.block)) m e

  -- the record stands on its owner's line where the block stands on a line
  pub on_line_lem : on_owners_line r.kind ≡ on_line (body f.block)
  on_line_lem = ap on_owners_line (sym kind_here) ∙ agreed _ _ (both _ _ placed_here).0

  rest_here : ((on_line (body f.block) || has_word m.begin) ≡ true) × (opens_for (body f.block) m.kind m.move ≡ true)
  rest_here = both _ _ (both (agree (on_owners_line m.kind) (on_line (body f.block))) _ placed_here).1

  -- a word begins it, unless it goes on in a line
  pub first_word : on_line (body f.block) ≡ false → (w : String) × (ws : List String) × (m.begin ≡ w ∷ ws)
  first_word u = go m.begin refl (subst (λ c. (c || has_word m.begin) ≡ true) u rest_here.0)
    where
      go : (ws : List String) → m.begin ≡ ws → (false || has_word ws) ≡ true → (w : String) × (vs : List String) × (m.begin ≡ w ∷ vs)
      go [] z h = absurd (false≢true h)
      go (w ∷ ws) z h = (w, ws, z)

  pub opens_here : opens_for (body f.block) r.kind m.move ≡ true
  opens_here = subst (λ k. opens_for (body f.block) k m.move ≡ true) kind_here rest_here.1

-- the block that a statement opens, and the one that it stands in
pub opens_with : (d : Body) (k : ℕ) (b : Block) → (agree (closes_with_end k) (ends_by_words (body b)) && not (on_line d)) ≡ true
    → (closes_with_end k ≡ ends_by_words (body b)) × (on_line d ≡ false)
opens_with d k b h =
    let (p, q) = both (agree (closes_with_end k) (ends_by_words (body b))) (not (on_line d)) h in
    (agreed _ _ p, not-true (on_line d) q)

-- ENDS

abbrev pub is_end : Maybe Close → Bool
is_end none = true
is_end (some c) = Words.same (bytes c.word) (bytes "END")

abbrev ends_well : Body → Bool
ends_well (keyed n rows) = is_end (close_of rows)
ends_well (worded rows) = is_end (close_of rows)
ends_well (options rows b) = not (on_line (body b))
ends_well (parts k is) = true
ends_well (counted k is) = true

ends_everywhere : (b : Block) → ends_well (body b) ≡ true
unfolding close_of on_line Words.same
ends_everywhere = at_block ends_well refl

-- the last words of a block begin with END
pub end_word : (c : Maybe Close) → is_end c ≡ true → (d : Close) → c ≡ some d → bytes d.word ≡ bytes "END"
end_word c h d e = same_eq (bytes d.word) (bytes "END") (subst (λ o. is_end o ≡ true) e h)

pub keyed_end : (b : Block) (n : ℕ) (rows : List Row) → body b ≡ keyed n rows → is_end (close_of rows) ≡ true
keyed_end b n rows e = subst (λ d. ends_well d ≡ true) e (ends_everywhere b)

pub worded_end : (b : Block) (rows : List Row) → body b ≡ worded rows → is_end (close_of rows) ≡ true
worded_end b rows e = subst (λ d. ends_well d ≡ true) e (ends_everywhere b)

-- what comes after options stands on no line
pub after_options : (b : Block) (rows : List Row) (c : Block) → body b ≡ options rows c → on_line (body c) ≡ false
after_options b rows c e = not-true (on_line (body c)) (subst (λ d. ends_well d ≡ true) e (ends_everywhere b))
