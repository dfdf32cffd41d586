-- A turn in the open blocks, and the reading as all turns.
use Rattle.std.specs.Prelude.{ℕ, zero, suc, cond, List, [], ◌∷◌, leb, eqb}
use Rattle.lexer.specs.Kinds as Kind
use Rattle.word.specs.Words.{word_of, word, is_key}
use Rattle.grammar.specs.Tokens.{Tok, Ahead, Answer, ok, refused, then, next_token, matches}
use Rattle.grammar.specs.Grammar.{Block, semi, whole, Move, stay, enter, named, version, Act, statement, close, refuse, back, up_to54, Row, Body, keyed, worded, options, parts, counted}
use Rattle.grammar.specs.Engine.{Maybe, none, some, Name, Rec, Draft, Frame, blank, get_name, items, empty}

-- WHAT A BLOCK MAKES OF WHAT IS AHEAD

pub data Step (A M R : Type 0) : Type 0 where
  gives : Move → R → Ahead A M → Step A M R  -- a record, and what it does to the open blocks
  ends : Ahead A M → Step A M R  -- the block ends
  goes : Block → Ahead A M → Step A M R  -- the block goes on as another
  backs : Step A M R  -- the block has ended, and what is ahead is the enclosing block's
  halts : ℕ → M → Step A M R

abbrev pub given : {A M : Type 0} → Move → Answer A M (Draft A) → Step A M (Rec A)
given m (ok d a) = gives m d.rec a
given m (refused n p) = halts n p

abbrev pub ended : {A M B R : Type 0} → Answer A M B → Step A M R
ended (ok d a) = ends a
ended (refused n p) = halts n p

abbrev pub gone : {A M B R : Type 0} → Block → Answer A M B → Step A M R
gone b (ok t a) = goes b a
gone b (refused n p) = halts n p

-- the act of the row that begins with the word, or the refusal n
unfoldable pub act_for : ℕ → ℕ → List Row → Act
act_for n k [] = refuse n
act_for n k (w ∷ ws) = cond (eqb (word w.begin) k) w.act (act_for n k ws)

-- An act in the block f while the version is v: a is ahead with its word held, `taken` is what taking that word gave, and p the
-- mark of a complaint about the word.
unfoldable pub perform : {A M : Type 0} → ℕ → Frame A → Ahead A M → Answer A M (Tok A M) → M → Act → Step A M (Rec A)
perform v f a taken p (statement k is m) = given m (then taken (λ t b. items 0 f is (blank k f a) b))
perform v f a taken p (close is) = ended (then taken (λ t b. items 0 f is (blank 0 f a) b))
perform v f a taken p (refuse n) = halts n p
perform v f a taken p back = backs
perform v f a taken p (up_to54 act) = cond (leb v 5400000) (perform v f a taken p act) (halts 5 p)

-- the word held is looked at: no name 4, no key word 5
unfoldable pub peek_key : {A M R : Type 0} → Ahead A M → (ℕ → Step A M R) → Step A M R
peek_key a k =
    cond (matches Kind.name a)
    (cond (is_key (word_of a.held.bytes)) (k (word_of a.held.bytes)) (halts 5 a.held.mark))
    (halts 4 a.held.mark)

-- the word was taken, and is then looked at
abbrev pub judged : {A M : Type 0} → ℕ → Frame A → Ahead A M → List Row → Answer A M (Tok A M) → Step A M (Rec A)
judged v f a rows (ok t b) = perform v f a (ok t b) b.held.mark (act_for 5 (word_of t.bytes) rows)
judged v f a rows (refused n p) = halts n p

unfoldable pub step : {A M : Type 0} → ℕ → Frame A → Ahead A M → Body → Step A M (Rec A)
step v f a (keyed n rows) = peek_key a (λ k. perform v f a (next_token a) a.held.mark (act_for n k rows))
step v f a (worded rows) = judged v f a rows (get_name a)
step v f a (options rows b) = cond (matches Kind.semicolon a) (gone b (next_token a)) (judged v f a rows (get_name a))
step v f a (parts k is) =
    cond (matches Kind.semicolon a) (ended (items 0 f (whole 6 ∷ semi ∷ []) (blank 0 f a) a)) (given stay (items 0 f is (blank k f a) a))
step v f a (counted k is) =
    cond (empty f.lacks) (ended (items 0 f (semi ∷ []) (blank 0 f a) a)) (given stay (items 0 f is (blank k f a) a))

-- THE OPEN BLOCKS

-- the version in force, and the open blocks, the innermost first
pub record State (A : Type 0) : Type 0 where
  pub version : ℕ
  pub blocks : List (Frame A)

abbrev pub state : {A : Type 0} → ℕ → List (Frame A) → State A
state v fs = record { version = v; blocks = fs }

-- the first of the kinds taken away
unfoldable pub without : ℕ → List ℕ → List ℕ
without k [] = []
without k (n ∷ ns) = cond (eqb k n) ns (n ∷ without k ns)

-- a block after a record of the kind in it
abbrev pub counting : {A : Type 0} → ℕ → Frame A → Frame A
counting k f = record { block = f.block; at = f.at; label = f.label; lacks = without k f.lacks }

abbrev pub opened : {A : Type 0} → Block → A → List ℕ → List ℕ → Frame A
opened b p label lacks = record { block = b; at = some p; label = label; lacks = lacks }

abbrev pub label_of : {A : Type 0} → Maybe (Name A) → List ℕ
label_of none = []
label_of (some n) = n.bytes

-- the state after a record of the kind k that starts at p, has the name `label` and the number u, in the innermost block f
abbrev pub shift : {A : Type 0} → Move → ℕ → A → List ℕ → ℕ → ℕ → Frame A → List (Frame A) → State A
shift stay k p label u v f fs = state v (counting k f ∷ fs)
shift (enter b ks) k p label u v f fs = state v (opened b p [] ks ∷ counting k f ∷ fs)
shift (named b ks) k p label u v f fs = state v (opened b p label ks ∷ counting k f ∷ fs)
shift version k p label u v f fs = state u (counting k f ∷ fs)

-- the block f as the block b
abbrev pub become : {A : Type 0} → Block → Frame A → Frame A
become b f = record { block = b; at = f.at; label = f.label; lacks = f.lacks }

-- at most one record, and the state that follows
pub data Turn (A M R : Type 0) : Type 0 where
  emit : R → State A → Ahead A M → Turn A M R
  moved : State A → Ahead A M → Turn A M R
  done : Turn A M R
  halted : ℕ → M → Turn A M R

-- where no block is left the reading is done
abbrev pub leave : {A M R : Type 0} → ℕ → List (Frame A) → Ahead A M → Turn A M R
leave v [] a = done
leave v (f ∷ fs) a = moved (state v (f ∷ fs)) a

-- what the step does in the innermost block f; `outer` is the turn of the blocks around it
abbrev pub applied : {A M : Type 0} → ℕ → Frame A → List (Frame A) → Turn A M (Rec A) → Step A M (Rec A) → Turn A M (Rec A)
applied v f fs outer (gives m r a) = emit r (shift m r.kind r.at (label_of r.name) r.x v f fs) a
applied v f fs outer (ends a) = leave v fs a
applied v f fs outer (goes b a) = moved (state v (become b f ∷ fs)) a
applied v f fs outer backs = outer
applied v f fs outer (halts n p) = halted n p

-- all records, or one refusal
pub data Outcome (M R : Type 0) : Type 0 where
  read : List R → Outcome M R
  stopped : ℕ → M → Outcome M R

abbrev pub more : {M R : Type 0} → R → Outcome M R → Outcome M R
more r (read rs) = read (r ∷ rs)
more r (stopped n p) = stopped n p

module _ (body : Block → Body) where
  -- a turn in the innermost block
  unfoldable pub turn : {A M : Type 0} → ℕ → List (Frame A) → Ahead A M → Turn A M (Rec A)
  turn v [] a = done
  turn v (f ∷ fs) a = applied v f fs (turn v fs a) (step v f a (body f.block))

  -- Turns, at most so many. Each takes a token, so as many as there are tokens suffice (`never_short`).
  unfoldable pub turns : {A M : Type 0} → ℕ → State A → Ahead A M → Outcome M (Rec A)
  turns zero s a = stopped 0 a.held.mark
  turns (suc n) s a = elim (turn s.version s.blocks a) [
    | emit r t b ↦ more r (turns n t b)
    | moved t b ↦ turns n t b
    | done ↦ read []
    | halted k p ↦ stopped k p
  ]
