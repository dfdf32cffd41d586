-- What is read from a turn on, by the step of the innermost block: as the definition of a turn has it.
use Prim.Native.Nat.{ℕ}
use mathlib.Core.Path.{◌≡◌, refl, sym, ap, ◌∙◌}
use mathlib.Core.List.{List, [], ◌∷◌}
use native.Mathlib.Omega.{arith}
use Rattle.grammar.specs.Tokens.{Ahead}
use Rattle.grammar.specs.Grammar.{Block, Move}
use Rattle.grammar.specs.Table.{body}
use Rattle.grammar.specs.Engine.{Rec, Frame}
use Rattle.grammar.specs.Turns.{Step, gives, ends, goes, backs, halts, step, state, label_of, shift, become, applied, Outcome, read, stopped, more, turn}
use Rattle.grammar.specs.Reading.{Mark}
use Rattle.grammar.proofs.Falls.{read_on, unrolls, reads_emit, reads_moved, reads_done, reads_halted, after}

-- a reading that stopped gives no records
pub not_stopped : {n : ℕ} {p : Mark} {qs : List (Rec ℕ)} → ◌≡◌ {A = Outcome Mark (Rec ℕ)} (stopped n p) (read qs) → ⊥
not_stopped e = let z : ◌≡◌ {A = ℕ} 0 1 = cc in omega arith

module _ (v : ℕ) (f : Frame ℕ) (fs : List (Frame ℕ)) (a : Ahead ℕ Mark) where
  pub turn_by : {t : Step ℕ Mark (Rec ℕ)} → step v f a (body f.block) ≡ t → turn body v (f ∷ fs) a ≡ applied v f fs (turn body v fs a) t
  unfolding turn
  turn_by e = ap (applied v f fs (turn body v fs a)) e

  -- the block gives a record
  pub given_reads : (b : Ahead ℕ Mark) (m : Move) (q : Rec ℕ) → step v f a (body f.block) ≡ gives m q b
      → read_on (state v (f ∷ fs)) a ≡ more q (read_on (shift m q.kind q.at (label_of q.name) q.x v f fs) b)
  given_reads b m q e = reads_emit (state v (f ∷ fs)) a (turn_by e)

  -- its options are over
  pub become_reads : (b : Ahead ℕ Mark) (c : Block) → step v f a (body f.block) ≡ goes c b → read_on (state v (f ∷ fs)) a ≡ read_on (state v (become c f ∷ fs)) b
  become_reads b c e = reads_moved (state v (f ∷ fs)) a (turn_by e)

  pub halts_reads : (n : ℕ) (p : Mark) (qs : List (Rec ℕ)) → step v f a (body f.block) ≡ halts n p → read_on (state v (f ∷ fs)) a ≡ read qs → ⊥
  halts_reads n p qs e h = not_stopped (sym (reads_halted (state v (f ∷ fs)) a (turn_by e)) ∙ h)

  -- the block has ended before what is held
  pub around_reads : step v f a (body f.block) ≡ backs → read_on (state v (f ∷ fs)) a ≡ read_on (state v fs) a
  around_reads e = unrolls (state v (f ∷ fs)) a ∙ ap (after read_on) (turn_by e) ∙ sym (unrolls (state v fs) a)

-- where no block is open nothing is read
pub none_open : (v : ℕ) (a : Ahead ℕ Mark) → read_on (state v []) a ≡ read []
unfolding turn
none_open v a = reads_done (state v []) a refl

-- the block has ended with what was taken
pub rest_reads : (v : ℕ) (f : Frame ℕ) (fs : List (Frame ℕ)) (a b : Ahead ℕ Mark) → step v f a (body f.block) ≡ ends b → read_on (state v (f ∷ fs)) a ≡ read_on (state v fs) b
rest_reads v f [] a b e = reads_done (state v (f ∷ [])) a (turn_by v f [] a e) ∙ sym (none_open v b)
rest_reads v f (g ∷ fs) a b e = reads_moved (state v (f ∷ g ∷ fs)) a (turn_by v f (g ∷ fs) a e)
