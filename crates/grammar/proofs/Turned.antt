-- What a turn gives, since a step gives it: a record that stands where the turn began, is owned by an open block and named by a
-- token ahead; and each block that is open after it was open before, or starts where the record stands.
use Prim.Native.Nat.{ℕ, zero, suc}
use mathlib.Core.Path.{◌≡◌, refl}
use mathlib.Core.Bool.{Bool, true}
use mathlib.Core.List.{List, [], ◌∷◌, Memᴰ}
use Rattle.grammar.specs.Tokens.{Tok, Ahead}
use Rattle.grammar.specs.Grammar.{Block, Item, Move, stay, enter, named, version}
use Rattle.grammar.specs.Table.{body}
use Rattle.grammar.specs.Engine.{Maybe, some, Rec, Frame, blank, items}
use Rattle.grammar.specs.Turns.{Step, gives, ends, goes, backs, halts, step, State, label_of, shift, Turn, emit, moved, done, halted, leave, applied, Outcome, read, stopped, more, turn, turns}
use Rattle.grammar.proofs.Blocks.{at_block}
use Rattle.grammar.proofs.Answers.{ranged, holds_all}
use Rattle.grammar.proofs.Takes.{takes, numbered, all_numbered, eager}
use Rattle.grammar.proofs.Kept.{Suf, here, there, suf_trans, all, Named}
use Rattle.grammar.proofs.Steps.{fit_act, fit_rows, fit_body, Given, Stepped, step_stepped}

-- THE OPEN BLOCKS

-- each starts at one of the places that are known
abbrev pub Open : {A : Type 0} → List (Maybe A) → List (Frame A) → Type 0
Open known [] = Unit {0}
Open known (f ∷ fs) = Memᴰ f.at known × Open known fs

open_more : {A : Type 0} (p : Maybe A) (known : List (Maybe A)) (fs : List (Frame A)) → Open known fs → Open (p ∷ known) fs
open_more p known [] h = tt
open_more p known (f ∷ fs) h = (Memᴰ.tail h.0, open_more p known fs h.1)

shift_open : {A : Type 0} (m : Move) (k : ℕ) (p : A) (label : List ℕ) (u v : ℕ) (f : Frame A) (fs : List (Frame A)) (known : List (Maybe A)) → Open known (f ∷ fs) → Open (some p ∷ known) (shift m k p label u v f fs).blocks
shift_open stay k p label u v f fs known h = open_more (some p) known (f ∷ fs) h
shift_open (enter b ks) k p label u v f fs known h = (Memᴰ.head refl, open_more (some p) known (f ∷ fs) h)
shift_open (named b ks) k p label u v f fs known h = (Memᴰ.head refl, open_more (some p) known (f ∷ fs) h)
shift_open version k p label u v f fs known h = open_more (some p) known (f ∷ fs) h

-- A TURN

-- the table passes where nothing is asked of a record
pub any_fits : (b : Block) → fit_body (λ k is. true) (body b) ≡ true
unfolding fit_body fit_rows fit_act eager takes all_numbered numbered
any_fits = at_block (fit_body (λ k is. true)) refl

any_given : {A M : Type 0} (ts : List (Tok A M)) → Given ts (λ k is. true) (λ r. Unit {0})
any_given ts k is e f a b s = holds_all (λ d. Unit {0}) (λ d. tt) (items 0 f is (blank k f a) b)

module _ {A M : Type 0} where
  -- a turn in the blocks fs, with a ahead, that gives the record r, and then the state s with b ahead
  pub record Emits (fs : List (Frame A)) (a : Ahead A M) (r : Rec A) (s : State A) (b : Ahead A M) : Type 0 where
    pub at : r.at ≡ a.held.at
    pub owner : (known : List (Maybe A)) → Open known fs → Memᴰ r.owner known
    pub name : (ts : List (Tok A M)) → Suf (all a) ts → Named ts r.name
    pub blocks : (known : List (Maybe A)) → Open known fs → Open (some r.at ∷ known) s.blocks
    pub ahead : Suf (all b) a.rest

  -- the same without a record
  pub record Moves (fs : List (Frame A)) (a : Ahead A M) (s : State A) (b : Ahead A M) : Type 0 where
    pub blocks : (known : List (Maybe A)) → Open known fs → Open known s.blocks
    pub ahead : Suf (all b) a.rest

  abbrev pub Turned : List (Frame A) → Ahead A M → Turn A M (Rec A) → Type 0
  Turned fs a (emit r s b) = Emits fs a r s b
  Turned fs a (moved s b) = Moves fs a s b
  Turned fs a done = Unit {0}
  Turned fs a (halted n p) = Unit {0}

  -- the same, P holds of the record, and a refusal is one of 3 to 10
  abbrev pub Whole : (Rec A → Type 0) → List (Frame A) → Ahead A M → Turn A M (Rec A) → Type 0
  Whole P fs a (emit r s b) = Emits fs a r s b × P r
  Whole P fs a (moved s b) = Moves fs a s b
  Whole P fs a done = Unit {0}
  Whole P fs a (halted n p) = ranged n ≡ true

  module _ (P : Rec A → Type 0) (v : ℕ) (f : Frame A) (a : Ahead A M) where
    -- a turn in the enclosing blocks is one in the blocks
    whole_outer : (fs : List (Frame A)) (t : Turn A M (Rec A)) → Whole P fs a t → Whole P (f ∷ fs) a t
    whole_outer fs (emit r s b) h = let e = h.0 in
        (record { at = e.at; owner = λ known o. e.owner known o.1; name = e.name; blocks = λ known o. e.blocks known o.1; ahead = e.ahead }, h.1)
    whole_outer fs (moved s b) h = record { blocks = λ known o. h.blocks known o.1; ahead = h.ahead }
    whole_outer fs done h = tt
    whole_outer fs (halted n p) h = h

    leave_whole : (fs : List (Frame A)) (b : Ahead A M) → Suf (all b) a.rest → Whole P (f ∷ fs) a (leave v fs b)
    leave_whole [] b h = tt
    leave_whole (g ∷ fs) b h = record { blocks = λ known o. o.1; ahead = h }

    applied_whole : (fs : List (Frame A)) (outer : Turn A M (Rec A)) → Whole P fs a outer → (s : Step A M (Rec A)) → Stepped P f a s → Whole P (f ∷ fs) a (applied v f fs outer s)
    applied_whole fs outer o (gives m r b) h =
        (record { at = h.at; owner = λ known k. rw h.owner k.0; name = h.name; blocks = λ known k. shift_open m r.kind r.at (label_of r.name) r.x v f fs known k; ahead = h.ahead }, h.holds)
    applied_whole fs outer o (ends b) h = leave_whole fs b h
    applied_whole fs outer o (goes c b) h = record { blocks = λ known k. k; ahead = h }
    applied_whole fs outer o backs h = whole_outer fs outer o
    applied_whole fs outer o (halts n p) h = h

  module _ (ts : List (Tok A M)) (fit : ℕ → List Item → Bool) (passes : (b : Block) → fit_body fit (body b) ≡ true) (P : Rec A → Type 0) (given : Given ts fit P) where
    turn_with : (v : ℕ) (fs : List (Frame A)) (a : Ahead A M) → Suf (all a) ts → Whole P fs a (turn body v fs a)
    unfolding turn
    turn_with v [] a s = tt
    turn_with v (f ∷ fs) a s =
        applied_whole P v f a fs (turn body v fs a) (turn_with v fs a s) (step v f a (body f.block)) (step_stepped ts fit P given v f a s (body f.block) (passes f.block))

  pub turn_whole : (v : ℕ) (fs : List (Frame A)) (a : Ahead A M) → Whole (λ r. Unit {0}) fs a (turn body v fs a)
  turn_whole v fs a = turn_with (all a) (λ k is. true) any_fits (λ r. Unit {0}) (any_given (all a)) v fs a here

  pub turn_turned : (v : ℕ) (fs : List (Frame A)) (a : Ahead A M) → Turned fs a (turn body v fs a)
  turn_turned v fs a = go (turn body v fs a) (turn_whole v fs a)
    where
      go : (t : Turn A M (Rec A)) → Whole (λ r. Unit {0}) fs a t → Turned fs a t
      go (emit r s b) h = h.0
      go (moved s b) h = h
      go done h = tt
      go (halted n p) h = tt

-- THE READING

-- what holds of the records of an outcome that is no refusal
abbrev pub Reads : {A M : Type 0} → (List (Rec A) → Type 0) → Outcome M (Rec A) → Type 0
Reads P (read rs) = P rs
Reads P (stopped n p) = Unit {0}

-- What holds of no records, and at each turn of its record, of which R holds, and those that follow if it holds of those, holds
-- of all turns on tokens of the list ts.
module _ {A M : Type 0} (ts : List (Tok A M)) (fit : ℕ → List Item → Bool) (passes : (b : Block) → fit_body fit (body b) ≡ true) (R : Rec A → Type 0) (given : Given ts fit R)
    (P : List (Frame A) → Ahead A M → List (Rec A) → Type 0)
    (nil : (fs : List (Frame A)) (a : Ahead A M) → P fs a [])
    (cons : (fs : List (Frame A)) (a : Ahead A M) (r : Rec A) (s : State A) (b : Ahead A M) (rs : List (Rec A))
    → Emits fs a r s b × R r → P s.blocks b rs → P fs a (r ∷ rs))
    (skip : (fs : List (Frame A)) (a : Ahead A M) (s : State A) (b : Ahead A M) (rs : List (Rec A))
    → Moves fs a s b → P s.blocks b rs → P fs a rs) where
  reads_more : (fs : List (Frame A)) (a : Ahead A M) (r : Rec A) (s : State A) (b : Ahead A M) → Emits fs a r s b × R r
      → (o : Outcome M (Rec A)) → Reads (P s.blocks b) o → Reads (P fs a) (more r o)
  reads_more fs a r s b h (read rs) p = cons fs a r s b rs h p
  reads_more fs a r s b h (stopped n m) p = tt

  reads_on : (fs : List (Frame A)) (a : Ahead A M) (s : State A) (b : Ahead A M) → Moves fs a s b
      → (o : Outcome M (Rec A)) → Reads (P s.blocks b) o → Reads (P fs a) o
  reads_on fs a s b h (read rs) p = skip fs a s b rs h p
  reads_on fs a s b h (stopped n m) p = tt

  pub reading_with : (n : ℕ) (s : State A) (a : Ahead A M) → Suf (all a) ts → Reads (P s.blocks a) (turns body n s a)
  unfolding turns
  reading_with zero s a w = tt
  reading_with (suc n) s a w = go (turn body s.version s.blocks a) (turn_with ts fit passes R given s.version s.blocks a w) (reading_with n)
    where
      on : (b : Ahead A M) → Suf (all b) a.rest → Suf (all b) ts
      on b h = suf_trans h (suf_trans (there here) w)

      go : (t : Turn A M (Rec A)) → Whole R s.blocks a t → ((s : State A) (a : Ahead A M) → Suf (all a) ts → Reads (P s.blocks a) (turns body n s a))
          → Reads {M = M} (P s.blocks a) (elim t [
            | emit r t b ↦ more r (turns body n t b)
            | moved t b ↦ turns body n t b
            | done ↦ read []
            | halted k p ↦ stopped k p
          ])
      go (emit r t b) h g = reads_more s.blocks a r t b h (turns body n t b) (g t b (on b h.0.ahead))
      go (moved t b) h g = reads_on s.blocks a t b h (turns body n t b) (g t b (on b h.ahead))
      go done h g = nil s.blocks a
      go (halted k p) h g = tt

-- the same where nothing more is asked of a record
module _ {A M : Type 0} (P : List (Frame A) → Ahead A M → List (Rec A) → Type 0)
    (nil : (fs : List (Frame A)) (a : Ahead A M) → P fs a [])
    (cons : (fs : List (Frame A)) (a : Ahead A M) (r : Rec A) (s : State A) (b : Ahead A M) (rs : List (Rec A))
    → Emits fs a r s b → P s.blocks b rs → P fs a (r ∷ rs))
    (skip : (fs : List (Frame A)) (a : Ahead A M) (s : State A) (b : Ahead A M) (rs : List (Rec A))
    → Moves fs a s b → P s.blocks b rs → P fs a rs) where
  pub every_reading : (n : ℕ) (s : State A) (a : Ahead A M) → Reads (P s.blocks a) (turns body n s a)
  every_reading n s a = reading_with (all a) (λ k is. true) any_fits (λ r. Unit {0}) (any_given (all a)) P nil (λ fs a r s b rs h p. cons fs a r s b rs h.0 p) skip n s a here
