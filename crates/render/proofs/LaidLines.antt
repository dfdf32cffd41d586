-- A line, and the end of a block: two spaces for each block that the line stands in, which are as many as its record has owners.
use Prim.Native.Nat.{ℕ, ◌-◌}
use mathlib.Core.Path.{◌≡◌, refl, sym, ap, ◌∙◌}
use mathlib.Core.Bool.{Bool, true, false, cond, false≢true}
use mathlib.Core.List.{List, [], ◌∷◌, ◌++◌, append_assoc}
use native.Mathlib.Omega.{arith}
use lib.ListN.{length}
use Rattle.lexer.specs.Kinds as Kind
use Rattle.grammar.specs.Grammar.{Block, Library, Body, keyed, worded, options, parts, counted}
use Rattle.grammar.specs.Table.{body}
use Rattle.grammar.specs.Engine.{Maybe, none, some, Frame}
use Rattle.render.specs.Pieces.{Said, said, Piece, newline}
use Rattle.render.specs.Plain.{Plain}
use Rattle.render.specs.Says.{semicolon, says, omitted, says_all}
use Rattle.render.specs.Forms.{Close, close_of, nobody, last_words}
use Rattle.render.specs.Lines.{spaced, indented, line, line_end, on_line, settled_by, settled, settling, ending, closing}
use Rattle.render.specs.Layout.{chain, Part, begins, goes, ends, last, end_of, EndWords, Begun, Laid}
use Rattle.render.proofs.Stands.{is_some}
use Rattle.render.proofs.Opened.{options_over}
use Rattle.render.proofs.OwnersOpen.{by_words, ends_by_words, no_options, Opener, Owned, depth_open}
use Rattle.render.proofs.LineKinds.{is_end, end_word, keyed_end, worded_end, after_options}

-- PIECES

-- what is laid out where no line is open ends one that is
pub ended : (semi : Bool) (es : List Part) (ps : List Piece) → Laid es false ps → Laid es true (cond semi (spaced (semicolon ∷ [])) [] ++ (newline ∷ ps))
ended semi [] ps h = (semi, ps, refl, h)
ended semi (begins d r ∷ es) ps h = (semi, ps, refl, h)
ended semi (goes r ∷ es) ps h = absurd h
ended semi (ends d q ∷ es) ps h = (semi, ps, refl, h)
ended semi (last ∷ es) ps h = (semi, ps, refl, h)

pub then_end : (es : List Part) (ps : List Piece) → Laid es false ps → Laid es true (line_end ++ ps)
then_end es ps h = rw append_assoc (ended true es ps h)

pub then_indented : (es : List Part) (ps : List Piece) (d : ℕ) (W : List Said → Type 0) (t : Said) (ts : List Said) → W (t ∷ ts) → Laid es true ps
    → Begun d W (λ qs. Laid es true qs) (indented d (t ∷ ts) ++ ps)
unfolding indented
then_indented es ps d W t ts w h = (t, ts, ps, refl, w, h)

then_line : (es : List Part) (ps : List Piece) (d : ℕ) (W : List Said → Type 0) (t : Said) (ts : List Said) → W (t ∷ ts) → Laid es false ps
    → Begun d W (λ qs. Laid es true qs) (line d (t ∷ ts) ++ ps)
unfolding line
then_line es ps d W t ts w h =
    rw (append_assoc (indented d (t ∷ ts)) (newline ∷ []) ps) (then_indented es (newline ∷ ps) d W t ts w (ended false es ps h))

-- ENDS

abbrev pub chain_length : List Plain → Maybe ℕ → ℕ
chain_length qs o = length (chain qs o)

module _ (es : List Part) (ps : List Piece) (h : Laid es false ps) where
  -- the last words of a block, or none
  then_last : (d : ℕ) (q : Plain) (label : List ℕ) (c : Maybe Close) → is_end c ≡ true
      → Laid (cond (is_some c) (ends d q ∷ []) [] ++ es) false (line d (last_words label c) ++ ps)
  unfolding last_words line
  then_last d q label none e = h
  then_last d q label (some c) e = then_line es ps d EndWords _ _ (_, ap (λ s. said Kind.name s ∷ says_all 0 label c.items nobody) (end_word (some c) e c refl)) h

  then_ending : (b : Block) (d : ℕ) (q : Plain) (f : Frame ℕ) (t : Body) → body b ≡ t → on_line t ≡ false
      → Laid (cond (ends_by_words t) (ends d q ∷ []) [] ++ es) false (ending d f t ++ ps)
  unfolding on_line
  then_ending b d q f (keyed n rs) e u = then_last d q f.label (close_of rs) (keyed_end b n rs e)
  then_ending b d q f (worded rs) e u = then_last d q f.label (close_of rs) (worded_end b rs e)
  then_ending b d q f (options rs c) e u = absurd (false≢true (sym u))
  then_ending b d q f (parts k is) e u = absurd (false≢true (sym u))
  then_ending b d q f (counted k is) e u = absurd (false≢true (sym u))

  then_closed : (d : ℕ) (q : Plain) (f : Frame ℕ)
      → Laid (cond (ends_by_words (body f.block)) (ends d q ∷ []) [] ++ es) (on_line (body f.block)) (settling (body f.block) ++ (ending d f (body (settled f).block) ++ ps))
  unfolding on_line
  then_closed d q f = go (body f.block) refl
    where
      go : (t : Body) → body f.block ≡ t
          → Laid (cond (ends_by_words t) (ends d q ∷ []) [] ++ es) (on_line t) (settling t ++ (ending d f (body (settled_by f t).block) ++ ps))
      go (keyed n rs) e = rw e (then_ending f.block d q f (keyed n rs) e refl)
      go (worded rs) e = rw e (then_ending f.block d q f (worded rs) e refl)
      go (options rs c) e =
          let u = after_options f.block rs c e in
          let z : ends_by_words (body c) ≡ by_words (body c) = no_options (body c) (options_over f.block c rs e) in
          then_end (cond (by_words (body c)) (ends d q ∷ []) [] ++ es) (ending d f (body c) ++ ps) (rw (← z) (then_ending c d q f (body c) refl u))
      go (parts k is) e = rw e (then_end es ps h)
      go (counted k is) e = rw e (then_end es ps h)

module _ (n : ℕ) (qs : List Plain) where
  -- the block of an opener ends, as deep as it stands
  pub then_closing : (f : Frame ℕ) (fs : List (Frame ℕ)) (p : ℕ) → (k : Opener n qs f.block fs p) → Owned n qs fs → (es : List Part) (ps : List Piece) → Laid es false ps
      → Laid (end_of qs k.opener ++ es) (on_line (body f.block)) (closing f fs ++ ps)
  then_closing f [] p k o es ps h = absurd o
  then_closing f (g ∷ gs) p k o es ps h =
      let a : length (chain qs k.opener.owner) ≡ length gs = ap (chain_length qs) k.owner ∙ depth_open n qs g gs o in
      let d : length (chain qs k.opener.owner) ≡ length (g ∷ gs) - 1 = omega arith in
      rw (append_assoc (settling (body f.block)) _ ps, k.ended, d) (then_closed es ps h (length (g ∷ gs) - 1) k.opener f)

  -- the library ends
  pub then_library : (f : Frame ℕ) → f.block ≡ Library → Laid (last ∷ []) false (closing f [] ++ [])
  unfolding close_of last_words says_all says omitted line indented spaced
  then_library f e = rw e (_, _, newline ∷ [], refl, refl, (false, [], refl, refl))
