-- What is written after a statement may follow it: where its items forbid a name, it opens a block that lacks points, and the first of
-- them begins with a number.
use Prim.Native.Nat.{ℕ}
use mathlib.Core.Path.{◌≡◌, refl}
use mathlib.Core.Bool.{Bool, true, false, cond, not, ◌&&◌, ◌||◌, false≢true}
use mathlib.Core.List.{List, [], ◌∷◌, ◌++◌}
use lib.ListN.{length}
use Rattle.record.specs.Kinds.{POINT}
use Rattle.lexer.specs.Kinds as Kind
use Rattle.word.proofs.Words.{both}
use Rattle.grammar.specs.Grammar.{Block, Rect, Item, x, y, Move, stay, enter, named, version, Body, keyed, worded, options, parts, counted}
use Rattle.grammar.specs.Table.{body}
use Rattle.grammar.specs.Engine.{Maybe, none, some, Frame, empty}
use Rattle.grammar.specs.Turns.{state, shift, counting, opened}
use Rattle.grammar.proofs.Blocks.{alike, at_block}
use Rattle.render.specs.Pieces.{Said, tokens}
use Rattle.render.specs.Spelt.{all}
use Rattle.render.specs.Stripped.{finish}
use Rattle.render.specs.Plain.{Plain}
use Rattle.render.specs.Says.{says, says_all}
use Rattle.render.specs.Forms.{Form, form, forms_of, row_forms, forms_in, begins, said_in}
use Rattle.render.specs.Lines.{owns, form_in, closing, taken_by, taking, before, statement, entered, pieces, after, lines}
use Rattle.render.specs.Fit.{takes, admits, all_end, fit_from}
use Rattle.render.proofs.Tested.{or_right}
use Rattle.render.proofs.Forms.{form_passes, form_only}
use Rattle.render.proofs.Stands.{ends_no_name, follows}
use Rattle.render.proofs.LineTokens.{tokens_then, tokens_statement, lines_lexable, follows_more}

-- a number comes first
abbrev Numbered : List Said → Type 0
Numbered [] = ⊥
Numbered (u ∷ us) = u.kind ≡ Kind.number

numbered_follows : (is : List Item) (us : List Said) → Numbered us → follows is us ≡ true
numbered_follows is [] h = absurd h
numbered_follows is (u ∷ us) h = rw h (or_right (not (ends_no_name is)) refl)

-- A RECT THAT LACKS POINTS

-- the form of its points
abbrev point : Form
point = form POINT [] (x ∷ y ∷ []) stay false

module _ (v p : ℕ) (l : List ℕ) (k : ℕ) (ks : List ℕ) (fs : List (Frame ℕ)) where
  abbrev rect : Frame ℕ
  rect = opened Rect p l (k ∷ ks)

  point_form : (r : Plain) (m : Form) → form_in rect r ≡ some m → m ≡ point
  unfolding forms_in
  point_form r m e = form_only r point m e

  numbered_point : (r : Plain) (us : List Said) → Numbered (said_in l point r ++ us)
  unfolding said_in begins says_all says
  numbered_point r us = refl

  numbered_pieces : (r : Plain) (us : List Said) → admits v (rect ∷ fs) r ≡ true → Numbered (tokens (pieces (rect ∷ fs) r) ++ us)
  unfolding admits pieces empty
  numbered_pieces r us t = go (owns rect r) t
    where
      owned : (o : Maybe Form) → form_in rect r ≡ o → takes v (taken_by rect o) r (form_in (taken_by rect o) r) ≡ true
          → Numbered (tokens (before rect o ++ statement (length fs) (taken_by rect o) r (form_in (taken_by rect o) r)) ++ us)
      owned none e t = absurd (false≢true (rw e at t))
      owned (some m) e t = rw (e, tokens_statement, point_form r m e) (numbered_point r us)

      go : (c : Bool) → cond c (takes v (taking rect r) r (form_in (taking rect r) r)) false ≡ true
          → Numbered (tokens (cond c (before rect (form_in rect r) ++ statement (length fs) (taking rect r) r (form_in (taking rect r) r)) (closing rect fs ++ pieces fs r)) ++ us)
      go true t = owned (form_in rect r) refl t
      go false t = absurd (false≢true t)

  numbered_rect : (rs : List Plain) (us : List Said) → fit_from (state v (rect ∷ fs)) rs ≡ true → Numbered (tokens (lines (state v (rect ∷ fs)) rs) ++ us)
  unfolding fit_from lines all_end empty
  numbered_rect [] us t = absurd (false≢true t)
  numbered_rect (r ∷ rs) us t = rw tokens_then
      (numbered_pieces r (tokens (lines (after v (rect ∷ fs) r) rs) ++ us) (both (admits v (rect ∷ fs) r) _ t).0)

-- THE TABLE

-- a rectangle alone has as many parts as it lacks
abbrev is_counted : Body → Bool
is_counted (keyed n rows) = false
is_counted (worded rows) = false
is_counted (options rows b) = false
is_counted (parts k is) = false
is_counted (counted k is) = true

abbrev is_rect : Block → Bool
is_rect b = is_counted (body b)

is_rect_lem : (b : Block) → is_rect b ≡ true → b ≡ Rect
is_rect_lem b h = let e : cond (is_rect b) b Rect ≡ Rect = alike (λ b. cond (is_rect b) b Rect) (λ b. Rect) refl b in rw h at e

-- a statement that forbids a name after it opens such a block
abbrev opens_rect : Move → Bool
opens_rect stay = false
opens_rect (enter b ks) = is_rect b && not (empty ks)
opens_rect (named b ks) = false
opens_rect version = false

abbrev bars_by_rect : Form → Bool
bars_by_rect m = not (ends_no_name m.items) || opens_rect m.move

all_bar : (b : Block) → all bars_by_rect (forms_in (body b)) ≡ true
unfolding all forms_in row_forms forms_of ends_no_name empty
all_bar = at_block (λ b. all bars_by_rect (forms_in b)) refl

numbered_opened : (b : Block) (ks : List ℕ) → (is_rect b && not (empty ks)) ≡ true → (v p : ℕ) (fs : List (Frame ℕ)) (rs : List Plain) (us : List Said)
    → fit_from (state v (opened b p [] ks ∷ fs)) rs ≡ true → Numbered (tokens (lines (state v (opened b p [] ks ∷ fs)) rs) ++ us)
unfolding empty
numbered_opened b [] h = absurd (false≢true (both (is_rect b) false h).1)
numbered_opened b (k ∷ ks) h = rw (is_rect_lem b (both (is_rect b) true h).0) (λ v p fs rs us t. numbered_rect v p [] k ks fs rs us t)

-- where the items forbid no name
unbarred : (is : List Item) (us : List Said) → ends_no_name is ≡ false → follows [] us ≡ true → follows is us ≡ true
unfolding ends_no_name
unbarred is [] e h = h
unbarred is (u ∷ us) e h = rw e h

module _ (v : ℕ) (f : Frame ℕ) (fs : List (Frame ℕ)) (r : Plain) (rs : List Plain) where
  barred : (mv : Move) → opens_rect mv ≡ true → (us : List Said) → fit_from (shift mv r.kind r.at r.name r.x v f fs) rs ≡ true
      → Numbered (tokens (lines (shift mv r.kind r.at r.name r.x v f fs) rs) ++ us)
  barred stay h us t = absurd (false≢true h)
  barred (enter b ks) h us t = numbered_opened b ks h v r.at (counting r.kind f ∷ fs) rs us t
  barred (named b ks) h us t = absurd (false≢true h)
  barred version h us t = absurd (false≢true h)

  -- WHAT IS WRITTEN AFTER A STATEMENT MAY FOLLOW IT
  pub items_follow : (m : Form) → form_in f r ≡ some m → fit_from (entered v f fs r (some m)) rs ≡ true
      → follows m.items (tokens (lines (entered v f fs r (some m)) rs) ++ (finish ∷ [])) ≡ true
  unfolding ends_no_name
  items_follow m e t =
      let ts = tokens (lines (entered v f fs r (some m)) rs) in
      by_end (ts ++ (finish ∷ [])) (ends_no_name m.items) refl (form_passes bars_by_rect r (forms_in (body f.block)) m (all_bar f.block) e)
      (follows_more ts (finish ∷ []) (lines_lexable (entered v f fs r (some m)) rs) refl)
      (λ h. barred m.move h (finish ∷ []) t)
    where
      by_end : (us : List Said) (c : Bool) → ends_no_name m.items ≡ c → (not c || opens_rect m.move) ≡ true
          → follows [] us ≡ true → (opens_rect m.move ≡ true → Numbered us) → follows m.items us ≡ true
      by_end us true e h k g = numbered_follows m.items us (g h)
      by_end us false e h k g = unbarred m.items us e k
