-- A pass over the turns keeps what is read in all: the records so far and the reading from its state on come to the same at every turn.
use Prim.Native.Nat.{ℕ, suc, ◌+◌, ◌*◌, ◌≤◌, ◌<◌}
use mathlib.Core.Path.{◌≡◌, refl, sym, ap, ◌∙◌}
use mathlib.Core.Bool.{Bool, true, false, cond}
use mathlib.Core.List.{List, [], ◌∷◌, ◌++◌, map, append_assoc, append-nil}
use native.Mathlib.Omega.{arith}
use lib.Dec.{eqb}
use lib.ListN.{length, length-map, length-append}
use Rattle.std.specs.Prelude.{Ok, Err}
use Rattle.refusal.specs.declared.Refusal.{Refusal}
use Rattle.refusal.specs.Table.{refused as refusal}
use Rattle.record.specs.declared.Record.{Record}
use Rattle.file.specs.File.{stored}
use Rattle.lexer.specs.declared.Token.{Token}
use Rattle.lexer.specs.Kinds.{number_of}
use Rattle.lexer.specs.Lex.{from}
use Rattle.lexer.proofs.Whole.{few}
use Rattle.reader.specs.declared.open.State.{State}
use Rattle.reader.specs.declared.pass.Passed.TheVariants as P
use Rattle.grammar.specs.Tokens.{end}
use Rattle.grammar.specs.Table.{body}
use Rattle.grammar.specs.Engine.{Rec}
use Rattle.grammar.specs.Turns as T
use Rattle.grammar.specs.Turns.{Outcome, read, stopped, more}
use Rattle.grammar.specs.Reading.{Mark, tok, filed, Reading, records, refusal_of, told}
use Rattle.parser.specs.Code.{rest_of, ahead_of}
use Rattle.reader.specs.Open.{state_of}
use Rattle.reader.specs.Stepped.{filed_turn, turn_in}
use Rattle.reader.specs.Passed.{Sound, read_from, follow, stored_all, Further, Passes}
use Rattle.grammar.proofs.Falls.{Less, turn_less, read_on, after, unrolls}

-- there are at most as many tokens ahead as bytes, and one more
pub few_ahead : (s : List ℕ) (t : Token) → length (rest_of s t) ≤ suc (length s)
unfolding rest_of
few_ahead s t = go (eqb (number_of t.kind) end)
  where
    go : (b : Bool) → length (cond b [] (map (tok s) (from s t.stop t.line))) ≤ suc (length s)
    go true = omega arith
    go false = rw length-map (omega (arith, few s t.stop t.line))

-- A TURN

abbrev before : Record → Reading → Reading
before r (records rs) = records (r ∷ rs)
before r (refusal_of f) = refusal_of f

abbrev told_turn : T.Turn ℕ Mark Record → Reading
told_turn (T.emit r s a) = before r (told (read_on s a))
told_turn (T.moved s a) = told (read_on s a)
told_turn T.done = records []
told_turn (T.halted n p) = refusal_of (refusal n p.place p.line)

told_more : (r : Rec ℕ) (o : Outcome Mark (Rec ℕ)) → told (more r o) ≡ before (filed r) (told o)
told_more r (read rs) = refl
told_more r (stopped n p) = refl

told_after : (t : T.Turn ℕ Mark (Rec ℕ)) → told (after read_on t) ≡ told_turn (filed_turn t)
told_after (T.emit r s a) = told_more r (read_on s a)
told_after (T.moved s a) = refl
told_after T.done = refl
told_after (T.halted n p) = refl

less_filed : (n : ℕ) (t : T.Turn ℕ Mark (Rec ℕ)) → Less n t → Less n (filed_turn t)
less_filed n (T.emit r s a) h = h
less_filed n (T.moved s a) h = h
less_filed n T.done h = h
less_filed n (T.halted k p) h = h

-- the turn in the open blocks of a state
abbrev pub turn_at : List ℕ → State → T.Turn ℕ Mark Record
turn_at s st = turn_in s (state_of s st).version (state_of s st).blocks st.held

module _ (s : List ℕ) (st : State) (t : T.Turn ℕ Mark Record) (q : turn_at s st ≡ t) where
  turned : read_from s st ≡ told_turn t
  turned = ap told (unrolls (state_of s st) (ahead_of s st.held))
      ∙ (told_after (T.turn body (state_of s st).version (state_of s st).blocks (ahead_of s st.held)) ∙ ap told_turn q)

  less : Less (length (rest_of s st.held)) t
  less = rw (← q) (less_filed (length (rest_of s st.held)) (T.turn body (state_of s st).version (state_of s st).blocks (ahead_of s st.held)) (turn_less (state_of s st).version (state_of s st).blocks (ahead_of s st.held)))

-- TO ANOTHER STATE

-- a turn that takes no token leaves a block, of which there are five at most
unfoldable pub left : List ℕ → Token → ℕ → ℕ
left s t depth = 6 * length (rest_of s t) + depth

-- the turn to another state: what is read from there on, and the tokens ahead
pub record Moves (s : List ℕ) (st to : State) : Type 0 where
  pub same : read_from s st ≡ read_from s to
  pub fewer : length (rest_of s to.held) ≤ length (rest_of s st.held)
  pub falls : left s to.held to.«open».depth < left s st.held st.«open».depth
  pub sound : Sound s to

-- the same with a record
pub record Emits (s : List ℕ) (st : State) (r : Record) (to : State) : Type 0 where
  pub more : read_from s st ≡ before r (read_from s to)
  pub fewer : length (rest_of s to.held) < length (rest_of s st.held)
  pub falls : left s to.held to.«open».depth < left s st.held st.«open».depth
  pub sound : Sound s to

module _ (s : List ℕ) (st to : State) (d : to.«open».depth ≤ 5) (k : Sound s to) where
  falls_by : length (rest_of s to.held) < length (rest_of s st.held) → left s to.held to.«open».depth < left s st.held st.«open».depth
  unfolding left
  falls_by h = omega (arith, h, d)

  pub emits_by : (r : Record) → turn_at s st ≡ T.emit r (state_of s to) (ahead_of s to.held) → Emits s st r to
  emits_by r q = let l = less s st _ q in record { more = turned s st _ q; fewer = l; falls = falls_by l; sound = k }

  pub moves_by : turn_at s st ≡ T.moved (state_of s to) (ahead_of s to.held) → Moves s st to
  moves_by q =
      let l : length (rest_of s to.held) < length (rest_of s st.held) = less s st _ q in
      record { same = turned s st _ q; fewer = omega (arith, l); falls = falls_by l; sound = k }

  -- the word held is the enclosing block's
  pub backs_by : to.held ≡ st.held → to.«open».depth < st.«open».depth → turn_at s st ≡ turn_at s to → Moves s st to
  unfolding left
  backs_by e b q =
      let z : length (rest_of s to.held) ≡ length (rest_of s st.held) = ap (λ t. length (rest_of s t)) e in
      record {
        same = turned s st (turn_at s to) q ∙ sym (turned s to (turn_at s to) refl);
        fewer = omega (arith, z);
        falls = omega (arith, z, b);
        sound = k;
      }

pub done_by : (s : List ℕ) (st : State) → turn_at s st ≡ T.done → read_from s st ≡ records []
done_by s st q = turned s st T.done q

halts_by : (s : List ℕ) (st : State) (r : Refusal) → turn_at s st ≡ T.halted r.number (record { place = r.place; line = r.line }) → read_from s st ≡ refusal_of r
halts_by s st r q = turned s st _ q

-- SO FAR

follow_none : (o : Reading) → follow [] o ≡ o
follow_none (records qs) = refl
follow_none (refusal_of r) = refl

follow_more : (rs : List Record) (r : Record) (o : Reading) → follow rs (before r o) ≡ follow (rs ++ (r ∷ [])) o
follow_more rs r (records qs) = ap records (sym (append_assoc rs (r ∷ []) qs))
follow_more rs r (refusal_of f) = refl

stored_more : (rs : List Record) (r : Record) (n : ℕ) (file : List ℕ) → stored_all n (rs ++ (r ∷ [])) file ≡ stored r (n + length rs) (stored_all n rs file)
unfolding stored_all
stored_more [] r n file = ap (λ k. stored r k file) (omega arith)
stored_more (q ∷ rs) r n file = stored_more rs r (n + 1) (stored q n file) ∙ ap (λ k. stored r k (stored_all (n + 1) rs (stored q n file))) (omega arith)

module _ (s : List ℕ) (st : State) (file : List ℕ) where
  pub none_yet : Sound s st → Further s st file 0 st file
  unfolding stored_all
  none_yet k = record { given = []; count = refl; rest = sym (follow_none (read_from s st)); laid = refl; fewer = omega arith; sound = k }

  module _ (n : ℕ) (at : State) (now : List ℕ) (f : Further s st file n at now) where
    pub one_more : (r : Record) (to : State) → Emits s at r to → Further s st file (n + 1) to (stored r n now)
    one_more r to e =
        let gs = f.given in
        let k : 0 + length gs ≡ n = omega (arith, f.count) in
        record {
          given = gs ++ (r ∷ []);
          count = length-append gs (r ∷ []) ∙ ap (λ m. m + 1) f.count;
          rest = f.rest ∙ (ap (follow gs) e.more ∙ follow_more gs r (read_from s to));
          laid = sym (stored_more gs r 0 file ∙ rw (k, ← f.laid));
          fewer = omega (arith, e.fewer, f.fewer);
          sound = e.sound;
        }

    pub no_more : (to : State) → Moves s at to → Further s st file n to now
    no_more to m =
        record {
          given = f.given;
          count = f.count;
          rest = f.rest ∙ ap (follow f.given) m.same;
          laid = f.laid;
          fewer = omega (arith, m.fewer, f.fewer);
          sound = m.sound;
        }

    pub over : (most : ℕ) → n ≤ most → read_from s at ≡ records [] → Passes s st most file now (Ok (P.Over n))
    over most h e = (f.given ++ [], f.rest ∙ ap (follow f.given) e, ap length (append-nil f.given) ∙ f.count, h, f.laid ∙ ap (λ l. stored_all 0 l file) (sym (append-nil f.given)))

    pub refused : (most : ℕ) (r : Refusal) → turn_at s at ≡ T.halted r.number (record { place = r.place; line = r.line }) → Passes s st most file now (Err (record { refusal = r; state = at }))
    refused most r q = let e = halts_by s at r q in (f.rest ∙ ap (follow f.given) e, record { count = n; further = f; halts = q; reads = e })
