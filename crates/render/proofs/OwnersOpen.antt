-- The open blocks are the owners of what comes next: a record opens a block at its own place, inside the block of its owner, so each
-- block's opener is owned by the opener of the block around it, out to the library.
use Prim.Native.Nat.{ℕ, suc, ◌≤◌, ◌<◌}
use mathlib.Core.Path.{◌≡◌, refl, sym, ap, ◌∙◌}
use mathlib.Core.Bool.{Bool, true, false, cond, ◌&&◌, false≢true}
use mathlib.Core.List.{List, [], ◌∷◌}
use native.Mathlib.Omega.{arith}
use borrow.Author.Tests.{eqb-true, eq-eqb, ne_eqb}
use lib.ListN.{length}
use Rattle.word.proofs.Words.{both, clash}
use Rattle.grammar.specs.Grammar.{Block, Library, Row, Body, keyed, worded, options, parts, counted}
use Rattle.grammar.specs.Table.{body}
use Rattle.grammar.specs.Engine.{Maybe, none, some, Frame}
use Rattle.render.specs.Plain.{Plain}
use Rattle.render.specs.Forms.{close_of}
use Rattle.render.specs.Lines.{on_line, same, settled_by, settled, taking, form_in}
use Rattle.render.specs.Fit.{takes, may_end, comes, admits}
use Rattle.render.specs.Layout.{closes_with_end, chain}
use Rattle.render.proofs.Stands.{is_some}
use Rattle.render.proofs.Opened.{is_options, options_over}

-- BLOCKS

-- a block that ends by words of its own, once its options are over
abbrev pub by_words : Body → Bool
by_words (keyed n rows) = is_some (close_of rows)
by_words (worded rows) = is_some (close_of rows)
by_words (options rows b) = false
by_words (parts k is) = false
by_words (counted k is) = false

abbrev pub ends_by_words : Body → Bool
ends_by_words (keyed n rows) = is_some (close_of rows)
ends_by_words (worded rows) = is_some (close_of rows)
ends_by_words (options rows b) = by_words (body b)
ends_by_words (parts k is) = false
ends_by_words (counted k is) = false

pub no_options : (d : Body) → is_options d ≡ false → ends_by_words d ≡ by_words d
no_options (keyed n rows) e = refl
no_options (worded rows) e = refl
no_options (options rows b) e = clash e
no_options (parts k is) e = refl
no_options (counted k is) e = refl

-- a line is open where the innermost block stands on it
abbrev pub open_line : List (Frame ℕ) → Bool
open_line [] = false
open_line (f ∷ fs) = on_line (body f.block)

-- where the innermost block starts
abbrev pub top : List (Frame ℕ) → Maybe ℕ
top [] = none
top (f ∷ fs) = f.at

-- OPENERS

abbrev pub Below : ℕ → Maybe ℕ → Type 0
Below n none = Unit {0}
Below n (some p) = p < n

-- the block b that starts at p, inside the blocks fs, was opened by one of the records qs, below n
pub record Opener (n : ℕ) (qs : List Plain) (b : Block) (fs : List (Frame ℕ)) (p : ℕ) : Type 0 where
  pub opener : Plain
  pub place : opener.at ≡ p
  pub below : p < n
  pub ended : closes_with_end opener.kind ≡ ends_by_words (body b)
  pub owner : opener.owner ≡ top fs
  pub chained : chain qs (some p) ≡ opener ∷ chain qs (top fs)
  pub broken : open_line fs ≡ false

abbrev pub Around : ℕ → List Plain → Block → List (Frame ℕ) → Maybe ℕ → Type 0 → Type 0
Around n qs b fs none rest = (fs ≡ []) × (b ≡ Library)
Around n qs b fs (some p) rest = Opener n qs b fs p × rest

-- every open block has its opener, and the library is around all
abbrev pub Owned : ℕ → List Plain → List (Frame ℕ) → Type 0
Owned n qs [] = ⊥
Owned n qs (f ∷ fs) = Around n qs f.block fs f.at (Owned n qs fs)

pub chain_none : (qs : List Plain) → chain qs none ≡ []
unfolding chain
chain_none [] = refl
chain_none (q ∷ qs) = chain_none qs

-- AS MANY OWNERS AS BLOCKS
pub depth_open : (n : ℕ) (qs : List Plain) (f : Frame ℕ) (fs : List (Frame ℕ)) → Owned n qs (f ∷ fs) → length (chain qs f.at) ≡ length fs
depth_open n qs f [] h = go f.at h
  where
    go : (o : Maybe ℕ) → Around n qs f.block [] o ⊥ → length (chain qs o) ≡ 0
    go none h = rw chain_none
    go (some p) h = absurd h.1
depth_open n qs f (g ∷ gs) h = go f.at h (depth_open n qs g gs)
  where
    go : (o : Maybe ℕ) → Around n qs f.block (g ∷ gs) o (Owned n qs (g ∷ gs)) → (Owned n qs (g ∷ gs) → length (chain qs g.at) ≡ length gs)
        → length (chain qs o) ≡ suc (length gs)
    go none h ih = absurd (omega (arith, ap length h.0))
    go (some p) h ih = rw h.0.chained (ap suc (ih h.1))

-- PLACES

module _ (n : ℕ) (qs : List Plain) where
  pub top_below : (fs : List (Frame ℕ)) → Owned n qs fs → Below n (top fs)
  top_below [] h = tt
  top_below (f ∷ fs) h = go f.at h
    where
      go : (o : Maybe ℕ) → Around n qs f.block fs o (Owned n qs fs) → Below n o
      go none h = tt
      go (some p) h = h.0.below

  -- a record whose owner is open
  pub owner_below : (v : ℕ) (fs : List (Frame ℕ)) (r : Plain) → Owned n qs fs → admits v fs r ≡ true → Below n r.owner
  unfolding admits
  owner_below v [] r h a = absurd h
  owner_below v (f ∷ fs) r h a = go f.at r.owner h a (owner_below v fs r)
    where
      go : (o u : Maybe ℕ) → Around n qs f.block fs o (Owned n qs fs)
          → cond (same o u) (takes v (taking f r) r (form_in (taking f r) r)) (may_end f (comes fs r) && admits v fs r) ≡ true
          → (Owned n qs fs → admits v fs r ≡ true → Below n u) → Below n u
      go o none h a ih = tt
      go none (some q) h a ih = absurd (shut (may_end f (comes [] r)) (rw h.0 at a))
        where
          shut : (c : Bool) → (c && false) ≡ true → ⊥
          shut true e = false≢true e
          shut false e = false≢true e
      go (some p) (some q) h a ih = here (same (some p) (some q)) refl a
        where
          here : (c : Bool) → same (some p) (some q) ≡ c
              → cond c (takes v (taking f r) r (form_in (taking f r) r)) (may_end f (comes fs r) && admits v fs r) ≡ true → q < n
          here true e a = let z = eqb-true p q e in let b = h.0.below in omega arith
          here false e a = ih h.1 (both (may_end f (comes fs r)) (admits v fs r) a).1

-- ONE MORE RECORD, at n or above

pub other : (n : ℕ) (r : Plain) → n ≤ r.at → (o : Maybe ℕ) → Below n o → same (some r.at) o ≡ false
other n r l none b = refl
other n r l (some p) b = ne_eqb r.at p (λ e. omega arith)

module _ (n : ℕ) (qs : List Plain) (r : Plain) (l : n ≤ r.at) where
  -- it is on the chain of none before it
  pub chain_more : (o : Maybe ℕ) → Below n o → chain (r ∷ qs) o ≡ chain qs o
  unfolding chain
  chain_more o b = rw (other n r l o b)

  pub owned_more : (fs : List (Frame ℕ)) → Owned n qs fs → Owned n (r ∷ qs) fs
  owned_more [] h = h
  owned_more (f ∷ fs) h = go f.at h (owned_more fs)
    where
      go : (o : Maybe ℕ) → Around n qs f.block fs o (Owned n qs fs) → (Owned n qs fs → Owned n (r ∷ qs) fs) → Around n (r ∷ qs) f.block fs o (Owned n (r ∷ qs) fs)
      go none h ih = h
      go (some p) h ih =
          let k = h.0 in (
            record {
              opener = k.opener;
              place = k.place;
              below = k.below;
              ended = k.ended;
              owner = k.owner;
              chained = chain_more (some p) k.below ∙ k.chained ∙ ap (λ c. k.opener ∷ c) (sym (chain_more (top fs) (top_below n qs fs h.1)));
              broken = k.broken;
            },
            ih h.1,
          )

pub owned_raised : (n m : ℕ) (qs : List Plain) → n ≤ m → (fs : List (Frame ℕ)) → Owned n qs fs → Owned m qs fs
owned_raised n m qs l [] h = h
owned_raised n m qs l (f ∷ fs) h = go f.at h (owned_raised n m qs l fs)
  where
    go : (o : Maybe ℕ) → Around n qs f.block fs o (Owned n qs fs) → (Owned n qs fs → Owned m qs fs) → Around m qs f.block fs o (Owned m qs fs)
    go none h ih = h
    go (some p) h ih =
        let k = h.0 in
        let b = k.below in
        (record { opener = k.opener; place = k.place; below = omega arith; ended = k.ended; owner = k.owner; chained = k.chained; broken = k.broken }, ih h.1)

-- ITS BLOCK

-- the block after its options
pub owned_settled : (n : ℕ) (qs : List Plain) (f : Frame ℕ) (fs : List (Frame ℕ)) → Owned n qs (f ∷ fs) → Owned n qs (settled f ∷ fs)
owned_settled n qs f fs h = go (body f.block) refl
  where
    become_owned : (rows : List Row) (c : Block) → body f.block ≡ options rows c → (o : Maybe ℕ)
        → Around n qs f.block fs o (Owned n qs fs) → Around n qs c fs o (Owned n qs fs)
    become_owned rows c e none h = absurd (library f.block h.1 e)
      where
        library : (b : Block) → b ≡ Library → body b ≡ options rows c → ⊥
        library b z e = let w : is_options (body Library) ≡ true = ap is_options (sym (ap body z) ∙ e) in false≢true w
    become_owned rows c e (some p) h =
        let k = h.0 in (
          record {
            opener = k.opener;
            place = k.place;
            below = k.below;
            ended = k.ended ∙ ap ends_by_words e ∙ sym (no_options (body c) (options_over f.block c rows e));
            owner = k.owner;
            chained = k.chained;
            broken = k.broken;
          },
          h.1,
        )

    go : (d : Body) → body f.block ≡ d → Owned n qs (settled_by f d ∷ fs)
    go (keyed n rows) e = h
    go (worded rows) e = h
    go (options rows c) e = become_owned rows c e f.at h
    go (parts k is) e = h
    go (counted k is) e = h

-- a block that the record opens inside that of its owner
pub owned_opened : (n : ℕ) (qs : List Plain) (r : Plain) (b : Block) (f : Frame ℕ) (fs : List (Frame ℕ))
    → n ≤ r.at → r.owner ≡ f.at → closes_with_end r.kind ≡ ends_by_words (body b) → on_line (body f.block) ≡ false → Owned n qs (f ∷ fs)
    → Opener (suc r.at) (r ∷ qs) b (f ∷ fs) r.at
unfolding chain
owned_opened n qs r b f fs l o e u h = record {
  opener = r;
  place = refl;
  below = omega arith;
  ended = e;
  owner = o;
  chained = rw (eq-eqb r.at r.at refl) (ap (λ c. r ∷ c) (ap (chain qs) o ∙ sym (chain_more n qs r l f.at (top_below n qs (f ∷ fs) h))));
  broken = u;
}
