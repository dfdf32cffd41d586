-- What a block takes and how it ends does not depend on where it starts: no definition looks at its place.
use Prim.Native.Nat.{ℕ}
use mathlib.Core.Path.{◌≡◌, refl, ap, ◌∙◌}
use mathlib.Core.Bool.{not}
use Rattle.grammar.specs.Grammar.{Act, Body, keyed, worded, options, parts, counted}
use Rattle.grammar.specs.Table.{body}
use Rattle.grammar.specs.Engine.{Maybe, none, some, Frame, empty}
use Rattle.grammar.specs.Turns.{act_for}
use Rattle.render.specs.Plain.{Plain}
use Rattle.render.specs.Forms.{Form, Close, close_of}
use Rattle.render.specs.Fit.{suits, has_room, takes, closes, ends_before}

-- open blocks that are the same but for where they start
pub record Same (f g : Frame ℕ) : Type 0 where
  pub block : f.block ≡ g.block
  pub label : f.label ≡ g.label
  pub lacks : f.lacks ≡ g.lacks

module _ (f g : Frame ℕ) (h : Same f g) where
  closes_same : (c : Maybe Close) (a : Act) → closes f c a ≡ closes g c a
  closes_same none a = refl
  closes_same (some c) a = rw (h.label, h.lacks)

  pub ends_same : (w : ℕ) → ends_before w f (body f.block) ≡ ends_before w g (body g.block)
  ends_same w = go (body f.block) ∙ ap (λ b. ends_before w g (body b)) h.block
    where
      go : (b : Body) → ends_before w f b ≡ ends_before w g b
      go (keyed n rows) = closes_same (close_of rows) (act_for n w rows)
      go (worded rows) = closes_same (close_of rows) _
      go (options rows b) = refl
      go (parts k is) = ap empty h.lacks
      go (counted k is) = ap empty h.lacks

  pub room_same : has_room f (body f.block) ≡ has_room g (body g.block)
  room_same = go (body f.block) ∙ ap (λ b. has_room g (body b)) h.block
    where
      go : (b : Body) → has_room f b ≡ has_room g b
      go (keyed n rows) = refl
      go (worded rows) = refl
      go (options rows b) = refl
      go (parts k is) = refl
      go (counted k is) = ap (λ l. not (empty l)) h.lacks

  pub takes_same : (v : ℕ) (r : Plain) (o : Maybe Form) → takes v f r o ≡ takes v g r o
  unfolding suits
  takes_same v r none = refl
  takes_same v r (some m) = rw (room_same, h.label, h.lacks)
