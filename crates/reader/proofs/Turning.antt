-- A turn of the code is a turn of the definition: by the cases of the step, and since a block that has ended leaves those around it.
use Prim.Native.Nat.{ℕ, ◌≤◌, ◌<◌}
use mathlib.Core.Path.{◌≡◌, refl, sym, ap, ◌∙◌}
use mathlib.Core.List.{List, [], ◌∷◌}
use native.Mathlib.Omega.{arith}
use lib.ListN.{length}
use Rattle.std.specs.Prelude.{Result, Ok, Err}
use Rattle.lexer.specs.declared.Token.{Token}
use Rattle.record.specs.declared.Record.{Record}
use Rattle.refusal.specs.declared.Refusal.{Refusal}
use Rattle.parser.specs.declared.open.Frame.{Frame as Opened}
use Rattle.reader.specs.declared.open.Open.{Open}
use Rattle.reader.specs.declared.open.State.{State}
use Rattle.parser.specs.declared.engine.Step.{Step}
use Rattle.parser.specs.declared.engine.Step.TheVariants as S
use Rattle.grammar.specs.Tokens.{Ahead}
use Rattle.grammar.specs.Grammar.{Move, stay, enter, named, version}
use Rattle.grammar.specs.Table.{body}
use Rattle.grammar.specs.Engine.{Rec, Frame}
use Rattle.grammar.specs.Turns as T
use Rattle.grammar.specs.Turns.{step, applied, leave, become, state, shift, turn}
use Rattle.grammar.specs.Reading.{Mark}
use Rattle.rows.specs.Packed.{block_of, move_of}
use Rattle.parser.specs.Code.{ahead_of}
use Rattle.parser.specs.Kept.{name_in, frame_of}
use Rattle.parser.specs.Drafts.{Entry}
use Rattle.parser.specs.Stepped.{labelled, filed_step, as_step, step_in}
use Rattle.reader.specs.Open.{frames_in, rank}
use Rattle.reader.specs.Stepped.{filed_turn, applied_in, turn_in}
use Rattle.reader.specs.Passed.{Sound}
use Rattle.reader.proofs.Stack.{frames_length}
use Rattle.reader.proofs.Ranks.{Rises, step_rises, rank_most}

-- A STEP AND THE TURN

leave_filed : (v : ℕ) (fs : List (Frame ℕ)) (a : Ahead ℕ Mark) → filed_turn (leave v fs a) ≡ leave v fs a
leave_filed v [] a = refl
leave_filed v (f ∷ fs) a = refl

applied_filed : (v : ℕ) (f : Frame ℕ) (fs : List (Frame ℕ)) (o : T.Turn ℕ Mark (Rec ℕ)) (e : T.Step ℕ Mark (Rec ℕ))
    → filed_turn (applied v f fs o e) ≡ applied_in v f fs (filed_turn o) (filed_step e)
applied_filed v f fs o (T.gives stay r a) = refl
applied_filed v f fs o (T.gives (enter b ks) r a) = refl
applied_filed v f fs o (T.gives (named b ks) r a) = refl
applied_filed v f fs o (T.gives version r a) = refl
applied_filed v f fs o (T.ends a) = leave_filed v fs a
applied_filed v f fs o (T.goes b a) = refl
applied_filed v f fs o T.backs = refl
applied_filed v f fs o (T.halts n p) = refl

rises_filed : (n : ℕ) (e : T.Step ℕ Mark (Rec ℕ)) → Rises n e → Rises n (filed_step e)
rises_filed n (T.gives m r a) h = h
rises_filed n (T.ends a) h = h
rises_filed n (T.goes b a) h = h
rises_filed n T.backs h = h
rises_filed n (T.halts k p) h = h

-- only a named block has the label
shift_labelled : (m : Move) (k p : ℕ) (l : List ℕ) (u v : ℕ) (f : Frame ℕ) (fs : List (Frame ℕ)) → shift m k p (labelled m l) u v f fs ≡ shift m k p l u v f fs
shift_labelled stay k p l u v f fs = refl
shift_labelled (enter b ks) k p l u v f fs = refl
shift_labelled (named b ks) k p l u v f fs = refl
shift_labelled version k p l u v f fs = refl

leave_some : {R : Type 0} (v : ℕ) (fs : List (Frame ℕ)) (a : Ahead ℕ Mark) → 0 < length fs → leave {R = R} v fs a ≡ T.moved (state v fs) a
leave_some v [] a h = absurd (let z : ⊥ = omega arith in z)
leave_some v (f ∷ fs) a h = refl

leave_none : {R : Type 0} (v : ℕ) (fs : List (Frame ℕ)) (a : Ahead ℕ Mark) → length fs ≡ 0 → leave {R = R} v fs a ≡ T.done
leave_none v [] a h = refl
leave_none v (f ∷ fs) a h = absurd (let z : ⊥ = omega (arith, h) in z)

turn_none : (s : List ℕ) (v : ℕ) (fs : List (Frame ℕ)) (t : Token) → length fs ≡ 0 → turn_in s v fs t ≡ T.done
unfolding turn
turn_none s v [] t h = refl
turn_none s v (f ∷ fs) t h = absurd (let z : ⊥ = omega (arith, h) in z)

-- THE CODE'S STATE

-- the state of the loop
abbrev pub now : Token → Open → List Opened → State
now t p o = record { held = t; «open» = p; outer = o }

module _ (s : List ℕ) (t : Token) (p : Open) (o : List Opened) where
  pub sound_depth : Sound s (now t p o) → p.depth ≤ 5
  sound_depth h = omega (arith, h.0, rank_most (block_of p.inner.block), frames_length s p.depth o)

-- A TURN OF THE CODE

module _ (s : List ℕ) (t : Token) (p : Open) (o : List Opened) where
  abbrev v : ℕ
  v = p.version

  abbrev pub frame : Frame ℕ
  frame = frame_of s p.inner

  abbrev pub frames : List (Frame ℕ)
  frames = frames_in s p.depth o

  -- the step that the innermost block makes
  abbrev pub Makes : Result Step Refusal → Type 0
  Makes e = as_step s e ≡ step_in s v frame t (body (block_of p.inner.block))

  -- the turn in the open blocks
  abbrev pub turn_of : T.Turn ℕ Mark Record
  turn_of = turn_in s v (frame ∷ frames) t

  pub made_rises : (e : Result Step Refusal) → Makes e → Rises (rank (block_of p.inner.block)) (as_step s e)
  made_rises e h = let b = block_of p.inner.block in
      rw h (rises_filed (rank b) (step v frame (ahead_of s t) (body b)) (step_rises v frame (ahead_of s t) b))

  -- the turn in the open blocks, where the innermost makes the step e
  turn_of_lem : (e : T.Step ℕ Mark Entry) → e ≡ step_in s v frame t (body (block_of p.inner.block)) → turn_of ≡ applied_in v frame frames (turn_in s v frames t) e
  unfolding turn
  turn_of_lem e h =
      applied_filed v frame frames (turn body v frames (ahead_of s t)) (step v frame (ahead_of s t) (body frame.block))
      ∙ ap (applied_in v frame frames (turn_in s v frames t)) (sym h)

  pub gives_turn : (u : Token) (r : Record) (m : ℕ) → Makes (Ok (S.Gives u r m))
      → turn_of ≡ T.emit r (shift (move_of m) r.kind r.at (name_in s r.name r.len) r.x v frame frames) (ahead_of s u)
  gives_turn u r m h = turn_of_lem (as_step s (Ok (S.Gives u r m))) h
      ∙ ap (λ st. T.emit r st (ahead_of s u)) (shift_labelled (move_of m) r.kind r.at (name_in s r.name r.len) r.x v frame frames)

  pub ends_turn : (u : Token) → Makes (Ok (S.Ends u)) → 0 < p.depth → turn_of ≡ T.moved (state v frames) (ahead_of s u)
  ends_turn u h d = turn_of_lem (as_step s (Ok (S.Ends u))) h ∙ leave_some v frames (ahead_of s u) (omega (arith, d, frames_length s p.depth o))

  pub last_turn : (u : Token) → Makes (Ok (S.Ends u)) → p.depth ≡ 0 → turn_of ≡ T.done
  last_turn u h d = turn_of_lem (as_step s (Ok (S.Ends u))) h ∙ leave_none v frames (ahead_of s u) (frames_length s p.depth o ∙ d)

  pub goes_turn : (u : Token) (b : ℕ) → Makes (Ok (S.Goes u b)) → turn_of ≡ T.moved (state v (become (block_of b) frame ∷ frames)) (ahead_of s u)
  goes_turn u b h = turn_of_lem (as_step s (Ok (S.Goes u b))) h

  -- where a block has ended, the turn is that of the blocks around it
  pub back_turn : Makes (Ok S.Back) → turn_of ≡ turn_in s v frames t
  back_turn h = turn_of_lem (as_step s (Ok S.Back)) h

  pub back_last : Makes (Ok S.Back) → p.depth ≡ 0 → turn_of ≡ T.done
  back_last h d = back_turn h ∙ turn_none s v frames t (frames_length s p.depth o ∙ d)

  pub refused_turn : (r : Refusal) → Makes (Err r) → turn_of ≡ T.halted r.number (record { place = r.place; line = r.line })
  refused_turn r h = turn_of_lem (as_step s (Err r)) h
