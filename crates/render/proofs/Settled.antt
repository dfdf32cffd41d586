-- A block after its options is the block as it was, or the same but for what it holds; its line ends there, or it has none: by the cases of a body.
use Prim.Native.Nat.{ℕ}
use mathlib.Core.Path.{◌≡◌, refl}
use mathlib.Core.List.{List, []}
use Rattle.grammar.specs.Grammar.{Block, Body, keyed, worded, options, parts, counted}
use Rattle.grammar.specs.Table.{body}
use Rattle.grammar.specs.Engine.{Frame}
use Rattle.grammar.specs.Turns.{become}
use Rattle.render.specs.Pieces.{Piece}
use Rattle.render.specs.Lines.{line_end, settled_by, settled, settling}

pub by_settled : (P : Frame ℕ → Type 0) (f : Frame ℕ) → P f → ((c : Block) → P (become c f)) → (b : Body) → P (settled_by f b)
by_settled P f p q (keyed n rows) = p
by_settled P f p q (worded rows) = p
by_settled P f p q (options rows c) = q c
by_settled P f p q (parts k is) = p
by_settled P f p q (counted k is) = p

pub by_settling : (P : List Piece → Type 0) → P [] → P line_end → (b : Body) → P (settling b)
by_settling P p q (keyed n rows) = p
by_settling P p q (worded rows) = p
by_settling P p q (options rows c) = q
by_settling P p q (parts k is) = p
by_settling P p q (counted k is) = p

-- options over, the block has its name and its place
pub settled_keeps : (f : Frame ℕ) → ((settled f).label ≡ f.label) × ((settled f).at ≡ f.at)
settled_keeps f = by_settled (λ g. (g.label ≡ f.label) × (g.at ≡ f.at)) f (refl, refl) (λ c. (refl, refl)) (body f.block)
