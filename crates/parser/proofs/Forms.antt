-- What a step comes to by the form of its block.
use Prim.Native.Nat.{ℕ}
use mathlib.Core.Path.{◌≡◌, refl, ap}
use mathlib.Core.Bool.{Bool, true, false, cond, ◌&&◌}
use mathlib.Core.List.{List, [], ◌∷◌}
use native.Mathlib.Omega.{arith}
use lib.Dec.{eqb, ltb}
use Rattle.lexer.specs.Kinds as Kind
use Rattle.grammar.specs.Tokens.{Tok, Ahead, Answer, ok, refused, next_token, matches}
use Rattle.grammar.specs.Grammar.{Row, Body, keyed, worded, options, parts, counted}
use Rattle.grammar.specs.Table.{body}
use Rattle.grammar.specs.Engine.{Frame, get_name, empty}
use Rattle.grammar.specs.Turns.{judged, gone, perform, peek_key, step}
use Rattle.grammar.specs.Reading.{Mark}
use Rattle.rows.specs.Packed.{block_of, kinds_in, kinds_of, look_up, act_in, form_of, form_in, part_of, part_in, next_of, after_in, end_in}
use Rattle.parser.specs.Stepped.{runs, worded_by}

module _ (v : ℕ) (f : Frame ℕ) (a : Ahead ℕ Mark) where
  keyed_so : (b : Body) → form_of b ≡ 0 → step v f a b ≡ peek_key a (λ k. perform v f a (next_token a) a.held.mark (look_up b k))
  unfolding form_of look_up step
  keyed_so (keyed n rows) e = refl
  keyed_so (worded rows) e = absurd (omega (arith, e))
  keyed_so (options rows n) e = absurd (omega (arith, e))
  keyed_so (parts k is) e = absurd (omega (arith, e))
  keyed_so (counted k is) e = absurd (omega (arith, e))

  pub at_keyed : (b : ℕ) → form_in b ≡ 0 → step v f a (body (block_of b)) ≡ peek_key a (λ k. perform v f a (next_token a) a.held.mark (act_in b k))
  unfolding form_in act_in
  at_keyed b e = keyed_so (body (block_of b)) e

  -- the word was taken
  judged_so : (rows : List Row) (t : Answer ℕ Mark (Tok ℕ Mark)) → judged v f a rows t ≡ worded_by v f a (worded rows) t
  unfolding look_up
  judged_so rows (ok t c) = refl
  judged_so rows (refused n p) = refl

  optional_so : (rows : List Row) (n : _) (t : Answer ℕ Mark (Tok ℕ Mark)) → judged v f a rows t ≡ worded_by v f a (options rows n) t
  unfolding look_up
  optional_so rows n (ok t c) = refl
  optional_so rows n (refused m p) = refl

  -- the words that are taken, and the `;` that ends options
  spoken_so : (b : Body) → (form_of b ≡ 0 → ⊥) → (form_of b ≡ 3 → ⊥) → (form_of b ≡ 4 → ⊥)
      → step v f a b ≡ cond (eqb (form_of b) 2 && matches Kind.semicolon a) (gone (next_of b) (next_token a)) (worded_by v f a b (get_name a))
  unfolding form_of next_of step
  spoken_so (keyed n rows) k p c = absurd (k refl)
  spoken_so (worded rows) k p c = judged_so rows (get_name a)
  spoken_so (options rows n) k p c = ap (cond (matches Kind.semicolon a) (gone n (next_token a))) (optional_so rows n (get_name a))
  spoken_so (parts n is) k p c = absurd (p refl)
  spoken_so (counted n is) k p c = absurd (c refl)

  pub at_spoken : (b : ℕ) → (form_in b ≡ 0 → ⊥) → (form_in b ≡ 3 → ⊥) → (form_in b ≡ 4 → ⊥)
      → step v f a (body (block_of b)) ≡ cond (eqb (form_in b) 2 && matches Kind.semicolon a) (gone (after_in b) (next_token a)) (worded_by v f a (body (block_of b)) (get_name a))
  unfolding form_in after_in
  at_spoken b k p c = spoken_so (body (block_of b)) k p c

  parts_so : (b : Body) → form_of b ≡ 3 → step v f a b ≡ cond (matches Kind.semicolon a) (runs f a a (end_in 3)) (runs f a a (part_of b))
  unfolding form_of part_of end_in step
  parts_so (keyed n rows) e = absurd (omega (arith, e))
  parts_so (worded rows) e = absurd (omega (arith, e))
  parts_so (options rows n) e = absurd (omega (arith, e))
  parts_so (parts k is) e = refl
  parts_so (counted k is) e = absurd (omega (arith, e))

  pub at_parts : (b : ℕ) → form_in b ≡ 3 → step v f a (body (block_of b)) ≡ cond (matches Kind.semicolon a) (runs f a a (end_in 3)) (runs f a a (part_in b))
  unfolding form_in part_in
  at_parts b e = parts_so (body (block_of b)) e

  counted_so : (b : Body) → form_of b ≡ 4 → step v f a b ≡ cond (empty f.lacks) (runs f a a (end_in 4)) (runs f a a (part_of b))
  unfolding form_of part_of end_in step
  counted_so (keyed n rows) e = absurd (omega (arith, e))
  counted_so (worded rows) e = absurd (omega (arith, e))
  counted_so (options rows n) e = absurd (omega (arith, e))
  counted_so (parts k is) e = absurd (omega (arith, e))
  counted_so (counted k is) e = refl

  pub at_counted : (b : ℕ) → form_in b ≡ 4 → step v f a (body (block_of b)) ≡ cond (empty f.lacks) (runs f a a (end_in 4)) (runs f a a (part_in b))
  unfolding form_in part_in
  at_counted b e = counted_so (body (block_of b)) e

-- a block that lacks nothing, by its number
bare : (t : Bool) (n : ℕ) (ns : List ℕ) → empty (cond t [] (n ∷ ns)) ≡ t
unfolding empty
bare true n ns = refl
bare false n ns = refl

pub lacks_none : (n : ℕ) → empty (kinds_of n) ≡ ltb n 256
unfolding kinds_of kinds_in
lacks_none n = bare (ltb n 256) _ _
