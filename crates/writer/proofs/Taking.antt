-- A block takes a record in the form that the table gives it there. What the record opens stands deeper, by one test of the forms of each block.
use Prim.Native.Nat.{ℕ, ◌≤◌, ◌<◌}
use native.Mathlib.Decide.{ℕ_discrete}
use native.Mathlib.Omega.{arith}
use mathlib.Core.Path.{◌≡◌, refl, sym, ap, ◌∙◌}
use mathlib.Core.Bool.{Bool, true, false, cond, ◌&&◌}
use mathlib.Core.List.{List, [], ◌∷◌, append-nil}
use lib.Dec.{eqb, ltb}
use lib.ListN.{length}
use borrow.Author.Tests.{eq-eqb, ltb-true}
use Rattle.std.specs.Prelude.{Option, Some, None}
use Rattle.word.proofs.Words.{both}
use Rattle.grammar.specs.Grammar.{Block, Library, Options, Layer, Move, stay, enter, named, version, Body, keyed, worded, options, parts, counted}
use Rattle.grammar.specs.Table.{body}
use Rattle.grammar.specs.Engine.{Maybe, none, some, Frame}
use Rattle.grammar.specs.Turns as T
use Rattle.grammar.proofs.Blocks.{alike, each_block}
use Rattle.rows.specs.Packed as P
use Rattle.rows.specs.Packed.{block_of, form_of, next_of, after_in}
use Rattle.parser.specs.declared.open.Frame.{Frame as Around}
use Rattle.parser.specs.Kept.{frame_of}
use Rattle.reader.specs.declared.open.Open.{Open}
use Rattle.reader.specs.Open.{frames_in, blocks_of, rank, Ranked}
use Rattle.reader.proofs.Ranks.{Deeper}
use Rattle.render.specs.Pieces.{text}
use Rattle.render.specs.Plain.{Plain}
use Rattle.render.specs.Forms.{Form, forms_of, row_forms, forms_in, is_of, form_for}
use Rattle.render.specs.Lines.{line_end, form_in, settled_by, settling, taken_by, taking, before}
use Rattle.lines.specs.declared.form.Form.{Form as Found}
use Rattle.lines.specs.declared.page.Page.{Page}
use Rattle.lines.specs.Put.{Puts}
use Rattle.lines.specs.Formed.{as_formed}
use Rattle.lines.proofs.Laws.{puts_as}
use Rattle.lines.proofs.Pieced.{pieces_then}
use Rattle.writer.specs.declared.pen.Taken.{Taken}
use Rattle.writer.specs.Penned.{Settled}
use Rattle.writer.proofs.Ending.{nothing_put}

-- THE FORM THAT IS FOUND

pub as_found : (b k c : ℕ) (x : Option Found) → ((f : Frame ℕ) (p : Plain) → f.block ≡ block_of b → p.kind ≡ k → p.code ≡ c → form_in f p ≡ as_formed k x)
    → (p : Plain) → k ≡ p.kind → c ≡ p.code → (f : Frame ℕ) → f.block ≡ block_of b → form_in f p ≡ as_formed p.kind x
as_found b k c x h p e d f q = h f p q (sym e) (sym d) ∙ ap (λ j. as_formed j x) e

-- THE BLOCK BEFORE THE RECORD

-- only a block of options is made of options
is_options : (b : Block) → form_of (body b) ≡ 2 → b ≡ Options
unfolding form_of
is_options b h =
    let e : cond (eqb (form_of (body b)) 2) b Options ≡ Options = alike (λ b. cond (eqb (form_of (body b)) 2) b Options) (λ b. Options) refl b in
    rw (eq-eqb (form_of (body b)) 2 h) at e

-- a block that is no options is as it was
steady : (f : Frame ℕ) → (form_of (body f.block) ≡ 2 → ⊥) → (taken_by f none ≡ f) × (before f none ≡ [])
unfolding form_of
steady f h = go (body f.block) h
  where
    go : (b : Body) → (form_of b ≡ 2 → ⊥) → (settled_by f b ≡ f) × (settling b ≡ [])
    go (keyed n rows) h = (refl, refl)
    go (worded rows) h = (refl, refl)
    go (options rows b) h = absurd (h refl)
    go (parts k is) h = (refl, refl)
    go (counted k is) h = (refl, refl)

-- a layer is as it was, whatever form the record has there
layer_steady : (f : Frame ℕ) → f.block ≡ Layer → (m : Maybe Form) → (taken_by f m ≡ f) × (before f m ≡ [])
unfolding form_of
layer_steady f e none = steady f (λ z. let y : form_of (body Layer) ≡ 2 = rw e at z in omega arith)
layer_steady f e (some m) = (refl, refl)

-- how often the block with that number can still turn into another
unfoldable pub turns : ℕ → ℕ
turns b = cond (eqb (P.form_in b) 2) 1 0

-- the block after them, by its number
module _ (b next : ℕ) (h : P.form_in b ≡ 2) (n : block_of next ≡ after_in b) where
  pub the_options : block_of b ≡ Options
  unfolding P.form_in
  the_options = is_options (block_of b) h

  the_layer : block_of next ≡ Layer
  unfolding after_in next_of
  the_layer = n ∙ rw the_options

  pub not_first : b ≡ 0 → ⊥
  unfolding block_of
  not_first e = let z : rank Library ≡ rank Options = ap rank (rw e at the_options) in omega arith

  pub not_first_then : next ≡ 0 → ⊥
  unfolding block_of
  not_first_then e = let z : rank Library ≡ rank Layer = ap rank (rw e at the_layer) in omega arith

-- the options of o have turned into the block `next`, in p
abbrev pub Turned : List ℕ → Open → ℕ → Open → Type 0
Turned s o next p =
    (outer : List Around) → (o.inner.block ≡ 0 → ⊥) → (next ≡ 0 → ⊥)
    → blocks_of s p outer ≡ T.state o.version (T.become (block_of next) (frame_of s o.inner) ∷ frames_in s o.depth outer)

module _ (s : List ℕ) (o : Open) (next : ℕ) (h : P.form_in o.inner.block ≡ 2) (n : block_of next ≡ after_in o.inner.block)
    (p : Open) (l : Turned s o next p) where
  turned_blocks : (outer : List Around) → blocks_of s p outer ≡ T.state o.version (T.become (block_of next) (frame_of s o.inner) ∷ frames_in s o.depth outer)
  turned_blocks outer = l outer (not_first o.inner.block next h n) (not_first_then o.inner.block next h n)

  turned_inner : frame_of s p.inner ≡ T.become (block_of next) (frame_of s o.inner)
  turned_inner = let z = ap (λ t. t.blocks) (turned_blocks []) in cc

  turned_layer : block_of p.inner.block ≡ Layer
  turned_layer = ap (λ f. f.block) turned_inner ∙ the_layer o.inner.block next h n

  pub fewer_turns : turns p.inner.block < turns o.inner.block
  unfolding turns P.form_in form_of
  fewer_turns = rw (turned_layer, eq-eqb _ _ h) (omega arith)

module _ (s : List ℕ) (o : Open) (r : Plain) (p : Page) (x : Option Found) where
  abbrev inner : Frame ℕ
  inner = frame_of s o.inner

  as_it_was : taken_by inner (form_in inner r) ≡ inner → before inner (form_in inner r) ≡ [] → form_in inner r ≡ as_formed r.kind x
      → Settled s o r p (record { «open» = o; form = x }) p
  as_it_was e d q = record {
    put = rw d (nothing_put p);
    blocks = λ outer. ap (λ f. T.state o.version (f ∷ frames_in s o.depth outer)) (sym e);
    formed = ap (λ f. form_in f r) e ∙ q;
  }

  pub settled_formed : (f : Found) → x ≡ Some f → form_in inner r ≡ as_formed r.kind x → Settled s o r p (record { «open» = o; form = x }) p
  settled_formed f e q = let z : form_in inner r ≡ as_formed r.kind (Some f) = rw e at q in as_it_was (rw z) (rw z) q

  pub settled_other : x ≡ None → (P.form_in o.inner.block ≡ 2 → ⊥) → form_in inner r ≡ as_formed r.kind x → Settled s o r p (record { «open» = o; form = x }) p
  unfolding P.form_in
  settled_other e b q =
      let z : form_in inner r ≡ none = rw e at q in
      let y = steady inner b in
      as_it_was (rw z y.0) (rw z y.1) q

  -- another record ends the line of the options
  module _ (none-there : x ≡ None) (q : form_in inner r ≡ as_formed r.kind x) (next : ℕ)
      (h : P.form_in o.inner.block ≡ 2) (n : block_of next ≡ after_in o.inner.block) where
    after_them : taking inner r ≡ T.become (block_of next) inner
    after_them =
        let z : form_in inner r ≡ none = rw none-there at q in
        rw (z, the_options o.inner.block next h n, the_layer o.inner.block next h n)

    pub settled_line : (mid : Page) → Puts p mid (text line_end) → (at : Open) → Turned s o next at
        → (t : Taken) (last : Page) → Settled s at r mid t last → Settled s o r p t last
    settled_line mid w at l t last k =
        let z : form_in inner r ≡ none = rw none-there at q in
        let g = layer_steady (frame_of s at.inner) (turned_layer s o next h n at l) (form_in (frame_of s at.inner) r) in
        let e : taking (frame_of s at.inner) r ≡ taking inner r = g.0 ∙ turned_inner s o next h n at l ∙ sym after_them in
        record {
          put = rw (z, the_options o.inner.block next h n) (puts_as (ap text (append-nil line_end)) (pieces_then line_end [] w (puts_as (ap text g.1) k.put)));
          blocks = λ outer. k.blocks outer ∙ ap (λ f. T.state at.version (f ∷ frames_in s at.depth outer)) g.0 ∙ turned_blocks s o next h n at l outer ∙ ap (λ f. T.state o.version (f ∷ frames_in s o.depth outer)) (sym after_them);
          formed = ap (λ f. form_in f r) (sym e) ∙ k.formed;
        }

-- the block as it takes the record stands no deeper than it can
pub taking_ranked : (f : Frame ℕ) (fs : List (Frame ℕ)) (r : Plain) → Ranked (f ∷ fs) → Ranked (taking f r ∷ fs)
taking_ranked f fs r h = go (form_in f r)
  where
    go : (m : Maybe Form) → Ranked (taken_by f m ∷ fs)
    go none = elim (ℕ_discrete (form_of (body f.block)) 2) [
      | yes e ↦ let b = is_options f.block e in let d : length fs ≤ rank Options = rw b at h.0 in rw b (d, h.1)
      | no e ↦ rw (steady f e).0 h
    ]
    go (some m) = h

-- THE FORMS OF THE TABLE

unfoldable deeper : ℕ → Move → Bool
deeper n stay = true
deeper n (enter b ks) = ltb n (rank b)
deeper n (named b ks) = ltb n (rank b)
deeper n version = true

unfoldable rising : ℕ → List Form → Bool
rising n [] = true
rising n (m ∷ ms) = deeper n m.move && rising n ms

passes : (b : Block) → rising (rank b) (forms_in (body b)) ≡ true
unfolding forms_in row_forms forms_of rising deeper
passes = each_block (λ b. rising (rank b) (forms_in (body b))) refl

deeper_is : (n : ℕ) (m : Move) → deeper n m ≡ true → Deeper n m
unfolding deeper
deeper_is n stay h = tt
deeper_is n (enter b ks) h = ltb-true n (rank b) h
deeper_is n (named b ks) h = ltb-true n (rank b) h
deeper_is n version h = tt

form_found : (n : ℕ) (r : Plain) (ms : List Form) → rising n ms ≡ true → (m : Form) → form_for r ms ≡ some m → deeper n m.move ≡ true
unfolding form_for rising
form_found n r [] g m e = absurd (let z : ◌≡◌ {A = ℕ} 0 1 = cc in let w : ⊥ = omega arith in w)
form_found n r (p ∷ ps) g m e =
    let h = both (deeper n p.move) (rising n ps) g in
    go (is_of r p) e h.0 (λ q. form_found n r ps h.1 m q)
  where
    go : (c : Bool) → cond c (some p) (form_for r ps) ≡ some m → deeper n p.move ≡ true → (form_for r ps ≡ some m → deeper n m.move ≡ true) → deeper n m.move ≡ true
    go true q t next = let z : p ≡ m = cc in rw z at t
    go false q t next = next q

-- what a record opens in its form
pub form_deeper : (f : Frame ℕ) (r : Plain) (m : Form) → form_in f r ≡ some m → Deeper (rank f.block) m.move
form_deeper f r m e = deeper_is (rank f.block) m.move (form_found (rank f.block) r (forms_in (body f.block)) (passes f.block) m e)
