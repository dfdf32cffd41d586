-- Blocks end one after the other: the blocks that are open after one has ended are those that were around it.
use Prim.Native.Nat.{ℕ, ◌≤◌, ◌<◌}
use native.Mathlib.Omega.{arith}
use mathlib.Core.Path.{◌≡◌, refl, sym, ap, subst, ◌∙◌}
use mathlib.Core.Bool.{true, false, ◌&&◌, false≢true}
use mathlib.Core.List.{List, [], ◌∷◌, ◌++◌, append_assoc, append-nil}
use lib.ListN.{length}
use Rattle.word.proofs.Words.{both}
use Rattle.grammar.specs.Engine.{Frame}
use Rattle.grammar.specs.Turns as T
use Rattle.rows.specs.Packed.{block_of}
use Rattle.parser.specs.declared.open.Frame.{Frame as Around}
use Rattle.parser.specs.Kept.{frame_of}
use Rattle.reader.specs.declared.open.Open.{Open}
use Rattle.reader.specs.Open.{frames_in, blocks_of, Ranked}
use Rattle.reader.proofs.Stack.{frames_length}
use Rattle.reader.proofs.Ranks.{rank_most}
use Rattle.render.specs.Pieces.{Piece, text}
use Rattle.render.specs.Plain.{Plain}
use Rattle.render.specs.Lines.{owns, closing, end_all, pieces, after}
use Rattle.render.specs.Fit.{may_end, comes, admits}
use Rattle.lines.specs.declared.page.Page.{Page}
use Rattle.lines.specs.Put.{Puts}
use Rattle.lines.proofs.Laws.{puts_none, puts_as}
use Rattle.lines.proofs.Pieced.{pieces_then}
use Rattle.writer.specs.Penned.{frames_of, Ended}

pub nothing_put : (p : Page) → Puts p p (text [])
unfolding text
nothing_put p = puts_none p

-- no more blocks are around another than the array has room for
pub shallow : (s : List ℕ) (o : Open) (outer : List Around) → Ranked (frames_of s o outer) → o.depth ≤ 5
shallow s o outer h = omega (arith, h.0, rank_most (block_of o.inner.block), frames_length s o.depth outer)

-- the innermost block as it ends
abbrev pub closed : List ℕ → Open → List Around → List ℕ
closed s o outer = text (closing (frame_of s o.inner) (frames_in s o.depth outer))

-- the open blocks then
abbrev pub Left : List ℕ → Open → List Around → Open → Type 0
Left s o outer q = blocks_of s q outer ≡ T.state o.version (frames_in s o.depth outer)

module _ (s : List ℕ) (o : Open) (outer : List Around) (q : Open) (l : Left s o outer q) where
  around_it : frames_of s q outer ≡ frames_in s o.depth outer
  around_it = ap (λ t. t.blocks) l

  pub fewer : q.depth < o.depth
  fewer = omega (arith, ap length around_it, frames_length s q.depth outer, frames_length s o.depth outer)

  left_ranked : Ranked (frames_of s o outer) → Ranked (frames_of s q outer)
  left_ranked h = subst Ranked (sym around_it) h.1

-- UP TO THE OWNER OF A RECORD

module _ (s : List ℕ) (outer : List Around) (r : Plain) where
  pub ended_none : (o : Open) (p : Page) → Ranked (frames_of s o outer) → admits o.version (frames_of s o outer) r ≡ true → Ended s o outer r p o p
  ended_none o p k a = record { ends = []; put = nothing_put p; version = refl; rest = refl; state = refl; admitted = a; ranked = k }

  some_around : (v : ℕ) (fs : List (Frame ℕ)) → admits v fs r ≡ true → 0 < length fs
  unfolding admits
  some_around v [] h = absurd (false≢true h)
  some_around v (f ∷ fs) h = omega arith

  module _ (o : Open) (p : Page) (at : Open) (q : Page) (e : Ended s o outer r p at q) (foreign : owns (frame_of s at.inner) r ≡ false) where
    abbrev f : Frame ℕ
    f = frame_of s at.inner

    abbrev fs : List (Frame ℕ)
    fs = frames_in s at.depth outer

    may_come : admits o.version fs r ≡ true
    unfolding admits
    may_come =
        let a : (may_end f (comes fs r) && admits o.version fs r) ≡ true = rw foreign at e.admitted in
        (both (may_end f (comes fs r)) (admits o.version fs r) a).1

    -- a block that does not have the record is not the last
    pub ended_inner : (0 < at.depth) × (at.depth < 6)
    ended_inner = (
      omega (arith, some_around o.version fs may_come, frames_length s at.depth outer),
      omega (arith, shallow s at outer e.ranked),
    )

    pub ended_more : (to : Page) → Puts q to (closed s at outer) → (next : Open) → Left s at outer next → Ended s o outer r p next to
    unfolding pieces after
    ended_more to w next l =
        let g : frames_of s next outer ≡ fs = around_it s at outer next l in
        record {
          ends = e.ends ++ closing f fs;
          put = pieces_then e.ends (closing f fs) e.put w;
          version = ap (λ t. t.version) l ∙ e.version;
          rest = e.rest ∙ rw foreign (sym (append_assoc e.ends (closing f fs) (pieces fs r))) ∙ ap (λ gs. (e.ends ++ closing f fs) ++ pieces gs r) (sym g);
          state = e.state ∙ rw foreign (ap (λ gs. after o.version gs r) (sym g));
          admitted = ap (λ gs. admits o.version gs r) g ∙ may_come;
          ranked = left_ranked s at outer next l e.ranked;
        }

-- ALL BLOCKS

pub record Closed (s : List ℕ) (o : Open) (outer : List Around) (p : Page) (at : Open) (q : Page) : Type 0 where
  pub ends : List Piece
  pub put : Puts p q (text ends)
  pub rest : end_all (frames_of s o outer) ≡ ends ++ end_all (frames_of s at outer)
  pub ranked : Ranked (frames_of s at outer)

none_around : (s : List ℕ) (d : ℕ) (outer : List Around) → d ≡ 0 → frames_in s d outer ≡ []
unfolding frames_in
none_around s d outer e = rw e

module _ (s : List ℕ) (outer : List Around) where
  pub closed_none : (o : Open) (p : Page) → Ranked (frames_of s o outer) → Closed s o outer p o p
  closed_none o p k = record { ends = []; put = nothing_put p; rest = refl; ranked = k }

  module _ (o : Open) (p : Page) (at : Open) (q : Page) (c : Closed s o outer p at q) (to : Page) (w : Puts q to (closed s at outer)) where
    abbrev g : Frame ℕ
    g = frame_of s at.inner

    abbrev gs : List (Frame ℕ)
    gs = frames_in s at.depth outer

    pub closed_more : (next : Open) → Left s at outer next → Closed s o outer p next to
    unfolding end_all
    closed_more next l = record {
      ends = c.ends ++ closing g gs;
      put = pieces_then c.ends (closing g gs) c.put w;
      rest = c.rest ∙ sym (append_assoc c.ends (closing g gs) (end_all gs)) ∙ ap (λ hs. (c.ends ++ closing g gs) ++ end_all hs) (sym (around_it s at outer next l));
      ranked = left_ranked s at outer next l c.ranked;
    }

    pub closed_last : at.depth ≡ 0 → Puts p to (text (end_all (frames_of s o outer)))
    unfolding end_all
    closed_last d =
        let none : gs ≡ [] = none_around s at.depth outer d in
        let z : c.ends ++ closing g gs ≡ end_all (frames_of s o outer) = sym (c.rest ∙ rw none (ap (◌++◌ c.ends) (append-nil (closing g [])))) in
        puts_as (ap text z) (pieces_then c.ends (closing g gs) c.put w)
