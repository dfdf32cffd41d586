-- Each step of the loop goes to another state, or is the last: by the turn that it is, and since no block gets deeper than it can.
use Prim.Native.Nat.{ℕ, ◌≤◌, ◌<◌}
use mathlib.Core.Path.{◌≡◌, refl, sym, ap, subst, ◌∙◌}
use mathlib.Core.List.{List, [], ◌∷◌}
use native.Mathlib.Omega.{arith}
use lib.ListN.{length}
use Rattle.std.specs.Prelude.{Result, Ok, Err}
use Rattle.refusal.specs.declared.Refusal.{Refusal}
use Rattle.record.specs.declared.Record.{Record}
use Rattle.lexer.specs.declared.Token.{Token}
use Rattle.parser.specs.declared.open.Frame.{Frame as Opened}
use Rattle.reader.specs.declared.open.Open.{Open}
use Rattle.parser.specs.declared.engine.Step.{Step}
use Rattle.parser.specs.declared.engine.Step.TheVariants as S
use Rattle.grammar.specs.Grammar.{Library}
use Rattle.grammar.specs.Turns as T
use Rattle.grammar.specs.Reading.{records}
use Rattle.rows.specs.Packed.{block_of, move_of}
use Rattle.parser.specs.Code.{ahead_of}
use Rattle.parser.specs.Kept.{name_in}
use Rattle.reader.specs.Open.{blocks_of, Pushes, Inside, rank, Ranked}
use Rattle.reader.specs.Stepped.{turn_in}
use Rattle.reader.specs.Passed.{Sound, read_from}
use Rattle.reader.proofs.Stack.{frames_length}
use Rattle.reader.proofs.Ranks.{deeper_inside, deeper_room, shift_ranked, become_ranked, no_library}
use Rattle.reader.proofs.Turning.{now, sound_depth, frame, frames, Makes, made_rises, gives_turn, ends_turn, last_turn, goes_turn, back_turn, back_last, refused_turn}
use Rattle.reader.proofs.Tally.{turn_at, Moves, Emits, emits_by, moves_by, backs_by, done_by}

-- the block with the number 0 is the library
library_is : (b : ℕ) → b ≡ 0 → block_of b ≡ Library
unfolding block_of
library_is b e = ap block_of e

module _ (s : List ℕ) (t : Token) (p : Open) (o : List Opened) (k : Sound s (now t p o)) (e : Result Step Refusal) (h : Makes s t p o e) where
  -- A RECORD

  module _ (u : Token) (r : Record) (m : ℕ) (g : e ≡ Ok (S.Gives u r m)) where
    made : Makes s t p o (Ok (S.Gives u r m))
    made = rw g at h

    abbrev shifted : T.State ℕ
    shifted = T.shift (move_of m) r.kind r.at (name_in s r.name r.len) r.x p.version (frame s t p o) (frames s t p o)

    pub room : Pushes (move_of m) → p.depth < 5
    room x = omega (arith, deeper_room (frame s t p o) (frames s t p o) k (move_of m) (made_rises s t p o (Ok (S.Gives u r m)) made) x, frames_length s p.depth o)

    pub emits : (q : Open) (o' : List Opened) → ((l : List ℕ) → Inside (move_of m) → blocks_of l q o' ≡ T.shift (move_of m) r.kind r.at (name_in l r.name r.len) r.x p.version (frame l t p o) (frames l t p o)) → Emits s (now t p o) r (now u q o')
    emits q o' a =
        let d = made_rises s t p o (Ok (S.Gives u r m)) made in
        let z : blocks_of s q o' ≡ shifted = a s (deeper_inside (rank (block_of p.inner.block)) (move_of m) d) in
        let w : Sound s (now u q o') = subst (λ st. Ranked st.blocks) (sym z) (shift_ranked (frame s t p o) (frames s t p o) k (move_of m) d r.kind r.at (name_in s r.name r.len) r.x p.version) in
        emits_by s (now t p o) (now u q o') (sound_depth s u q o' w) w r (gives_turn s t p o u r m made ∙ ap (λ st. T.emit r st (ahead_of s u)) (sym z))

  -- A BLOCK THAT HAS ENDED

  module _ (q : Open) (a : (l : List ℕ) → blocks_of l q o ≡ T.state p.version (frames l t p o)) where
    left_sound : (u : Token) → Sound s (now u q o)
    left_sound u = subst (λ st. Ranked st.blocks) (sym (a s)) k.1

    pub ends : (u : Token) → e ≡ Ok (S.Ends u) → 0 < p.depth → Moves s (now t p o) (now u q o)
    ends u g d = moves_by s (now t p o) (now u q o) (sound_depth s u q o (left_sound u)) (left_sound u)
        (ends_turn s t p o u (rw g at h) d ∙ ap (λ st. T.moved st (ahead_of s u)) (sym (a s)))

    pub backs : e ≡ Ok S.Back → 0 < p.depth → Moves s (now t p o) (now t q o)
    backs g d =
        let n : 1 ≤ p.depth = d in
        let c : length (blocks_of s q o).blocks ≡ length (frames s t p o) = ap (λ st. length st.blocks) (a s) in
        backs_by s (now t p o) (now t q o) (sound_depth s t q o (left_sound t)) (left_sound t) refl
        (omega (arith, c, frames_length s q.depth o, frames_length s p.depth o))
        (back_turn s t p o (rw g at h) ∙ ap (λ st. turn_in s st.version st.blocks t) (sym (a s)))

  pub lasts : (u : Token) → e ≡ Ok (S.Ends u) → p.depth ≡ 0 → read_from s (now t p o) ≡ records []
  lasts u g d = done_by s (now t p o) (last_turn s t p o u (rw g at h) d)

  pub back_lasts : e ≡ Ok S.Back → p.depth ≡ 0 → read_from s (now t p o) ≡ records []
  back_lasts g d = done_by s (now t p o) (back_last s t p o (rw g at h) d)

  -- A BLOCK THAT GOES ON AS ANOTHER

  pub goes : (u : Token) (b : ℕ) → e ≡ Ok (S.Goes u b) → (q : Open)
      → ((l : List ℕ) (x : List Opened) → (p.inner.block ≡ 0 → ⊥) → (b ≡ 0 → ⊥) → blocks_of l q x ≡ T.state p.version (T.become (block_of b) (frame l t p x) ∷ frames l t p x)) → Moves s (now t p o) (now u q o)
  goes u b g q a =
      let made : Makes s t p o (Ok (S.Goes u b)) = rw g at h in
      let d = made_rises s t p o (Ok (S.Goes u b)) made in
      let z = a s o (λ x. no_library 0 (block_of p.inner.block) d.0 (library_is p.inner.block x)) (λ x. no_library 0 (block_of b) (omega (arith, d.0, d.1)) (library_is b x)) in
      let w : Sound s (now u q o) = subst (λ st. Ranked st.blocks) (sym z) (become_ranked (frame s t p o) (frames s t p o) k (block_of b) d.1) in
      moves_by s (now t p o) (now u q o) (sound_depth s u q o w) w (goes_turn s t p o u b made ∙ ap (λ st. T.moved st (ahead_of s u)) (sym z))

  -- A REFUSAL

  pub stops : (r : Refusal) → e ≡ Err r → turn_at s (now t p o) ≡ T.halted r.number (record { place = r.place; line = r.line })
  stops r g = refused_turn s t p o r (rw g at h)
