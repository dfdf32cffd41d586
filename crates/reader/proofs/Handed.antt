-- What `read` hands out is right: the reading from the first token on is the text's, and records stored one by one lie one after the other.
use Prim.Native.Nat.{ℕ, ◌+◌, ◌*◌, ◌≤◌, ◌<◌}
use mathlib.Core.Path.{◌≡◌, refl, sym, ap, subst, ◌∙◌}
use mathlib.Core.List.{List, [], ◌∷◌, ◌++◌, map}
use native.Mathlib.Omega.{arith}
use borrow.Author.Tests.{le-leb, lt-leb, lt-ltb, ne_eqb}
use lib.ListN.{length, drop}
use lib.Seq.{sets, length-sets}
use Rattle.std.specs.Prelude.{Result, Ok, Err}
use Rattle.refusal.specs.declared.Refusal.{Refusal}
use Rattle.refusal.specs.Table.{no_token, done, record_room, outcome}
use Rattle.refusal.specs.Table.{refused as refusal}
use Rattle.rowfile.specs.Rows.{joined}
use Rattle.rowfile.proofs.Stored.{sets_append, sets_front}
use Rattle.record.specs.declared.Record.{Record}
use Rattle.record.specs.Bytes.{encoded}
use Rattle.file.specs.File.{encoded_all, stored}
use Rattle.file.proofs.Laws.{stored_sets}
use Rattle.file.proofs.Held.{all_length}
use Rattle.record.proofs.Laws.{encoded_length}
use Rattle.lexer.specs.declared.Token.{Token}
use Rattle.lexer.specs.declared.Lexed.{Lexed}
use Rattle.lexer.specs.declared.Lexed.TheVariants.{Found, End, Bad}
use Rattle.lexer.specs.Kinds.{number_of}
use Rattle.lexer.specs.Lex.{from, rest, lex_from}
use Rattle.lexer.specs.Screen.{limit, screened}
use Rattle.lexer.proofs.Cleared.{clear_short}
use Rattle.lexer.proofs.Whole.{unrolls}
use Rattle.lexer.proofs.Kinded.{kinded}
use Rattle.reader.specs.declared.open.State.{State}
use Rattle.reader.specs.declared.pass.Stuck.{Stuck}
use Rattle.reader.specs.declared.pass.Passed.{Passed}
use Rattle.reader.specs.declared.pass.Passed.TheVariants as P
use Rattle.grammar.specs.Reading.{tok, ahead, start, read_ahead, Reading, records, refusal_of, told, reading}
use Rattle.parser.specs.Code.{rest_of, ahead_of, end_of, held_next}
use Rattle.reader.specs.Open.{state_of, Ranked}
use Rattle.reader.specs.Answered.{room, answered, filled}
use Rattle.reader.specs.Passed.{read_from, stored_all, Begins, Passes}
use Rattle.parser.proofs.Ahead.{end_bytes}
use Rattle.grammar.proofs.Falls.{read_on}
use Rattle.grammar.proofs.Refusals.{refusal_number}
use Rattle.reader.proofs.Tally.{few_ahead}

-- THE RECORDS IN THE FILE

pub laid_all : (rs : List Record) (n : ℕ) (file : List ℕ) → n + length rs ≤ room file → stored_all n rs file ≡ sets file (36 * n) (encoded_all rs)
unfolding stored_all joined
laid_all [] n file h = refl
laid_all (r ∷ rs) n file h =
    let e : stored r n file ≡ sets file (36 * n) (encoded r) = stored_sets r n file (lt-ltb n (room file) (omega arith)) in
    let l : length (sets file (36 * n) (encoded r)) ≡ length file = length-sets file (36 * n) (encoded r) in
    let p : 36 * (n + 1) ≡ 36 * n + length (encoded r) = rw (encoded_length r) (omega arith) in
    ap (stored_all (n + 1) rs) e
    ∙ (laid_all rs (n + 1) (sets file (36 * n) (encoded r)) (rw l (omega arith))
    ∙ (ap (λ q. sets (sets file (36 * n) (encoded r)) q (encoded_all rs)) p ∙ sym (sets_append (encoded r) (encoded_all rs) file (36 * n))))

-- from the front of a file that has room for them: their bytes, and the rest of the file
fronted : (rs : List Record) (file : List ℕ) → length rs ≤ room file → stored_all 0 rs file ≡ encoded_all rs ++ drop (length (encoded_all rs)) file
fronted rs file h = laid_all rs 0 file (omega arith) ∙ sets_front (encoded_all rs) file (omega (arith, all_length rs))

-- THE ANSWER

-- what `read` answers for a reading, and the buffer as it leaves it
abbrev pub Handed : List ℕ → Reading → Result ℕ Refusal → List ℕ → Type 0
Handed file o r exit = (r ≡ outcome (answered (room file) o)) × (exit ≡ filled file o)

clash : (rs : List Record) (f : Refusal) → records rs ≡ refusal_of f → ⊥
clash rs f e = let z : ◌≡◌ {A = ℕ} 0 1 = cc in omega arith

same_records : (rs qs : List Record) → records rs ≡ records qs → rs ≡ qs
same_records rs qs e = cc

-- a refusal of a text has a number
pub by_refusal : (s file : List ℕ) (f : Refusal) → reading s ≡ refusal_of f → Handed file (reading s) (Err f) file
by_refusal s file f e = (rw e (rw (ne_eqb f.number done (omega (arith, refusal_number s f.number f.place f.line e)))), rw e)

-- WHAT A PASS OVER ALL TURNS SHOWS

abbrev all : ℕ
all = 18446744073709551615

module _ (s : List ℕ) (l : length s ≤ limit) (st : State) (b : reading s ≡ read_from s st) where
  -- there are fewer tokens than that
  pub never_on : (file out : List ℕ) (to : State) → Passes s st all file out (Ok (P.On to)) → ⊥
  never_on file out to f = omega (arith, f.fewer, few_ahead s st.held, l)

  stored_by : (file out : List ℕ) (x : Result Passed Stuck) → Passes s st all file out x → (rs : List Record) → reading s ≡ records rs → out ≡ stored_all 0 rs file
  stored_by file out (Ok (P.Over n)) p rs e = p.4 ∙ ap (λ q. stored_all 0 q file) (same_records p.0 rs (sym p.1 ∙ (sym b ∙ e)))
  stored_by file out (Ok (P.On to)) p rs e = absurd (never_on file out to p)
  stored_by file out (Err f) p rs e = absurd (clash rs f.refusal (sym e ∙ (b ∙ p.0)))

  module _ (file : List ℕ) where
    pub by_stop : (nowhere out : List ℕ) (f : Stuck) → Passes s st all nowhere out (Err f) → Handed file (reading s) (Err f.refusal) file
    by_stop nowhere out f p = by_refusal s file f.refusal (b ∙ p.0)

    -- the first pass counted n
    module _ (nowhere out : List ℕ) (n : ℕ) (o : Passes s st all nowhere out (Ok (P.Over n))) where
      pub by_room : room file < n → Handed file (reading s) (Err (refusal record_room n 0)) file
      by_room k =
          let c = lt-leb (length o.0) (room file) (omega (arith, o.2)) in
          let e : reading s ≡ records o.0 = b ∙ o.1 in
          rw e (rw (c, o.2), rw c)

      pub by_filling : n ≤ room file → (exit : List ℕ) (y : Result Passed Stuck) → Passes s st all file exit y → Handed file (reading s) (Ok n) exit
      by_filling k exit y q =
          let c = le-leb (length o.0) (room file) (omega (arith, o.2)) in
          let e : reading s ≡ records o.0 = b ∙ o.1 in
          rw e (rw (c, o.2), rw c (stored_by file exit y q o.0 e ∙ fronted o.0 file (omega (arith, o.2))))

      -- and no second pass is refused
      pub never_stopped : (exit : List ℕ) (f : Stuck) → Passes s st all file exit (Err f) → ⊥
      never_stopped exit f q = clash o.0 f.refusal (sym o.1 ∙ q.0)

-- THE START

module _ (s : List ℕ) where
  -- what a text that passes the screen reads as
  abbrev clear : Reading
  clear = told (read_ahead (ahead s (from s 0 1)))

  pub screens : (r : Refusal) → Err r ≡ screened s → reading s ≡ refusal_of r
  unfolding reading
  screens r e = rw (← e, reading)

  cleared : Ok tt ≡ screened s → reading s ≡ clear
  unfolding reading
  cleared e = rw (← e, reading)

  opening : (r : Lexed) → r ≡ lex_from s 0 1 → clear ≡ told (read_ahead (record { held = tok s r; rest = map (tok s) (rest s r) }))
  opening r q = let z : from s 0 1 ≡ r ∷ rest s r = rw q (unrolls s 0 1) in rw z

  found : (r : Lexed) → r ≡ lex_from s 0 1 → (t : Token) → Ok t ≡ held_next s r → clear ≡ told (read_on start (ahead_of s t))
  unfolding read_ahead rest_of
  found (Found u) q t e =
      let k : (1 ≤ number_of u.kind) × (number_of u.kind ≤ 4) = rw (← q) at (kinded s 0 1) in
      let z : t ≡ u = cc in
      rw z (opening (Found u) q ∙ rw (ne_eqb (number_of u.kind) 5 (omega arith), ne_eqb (number_of u.kind) 0 (omega arith)))
  found (End n) q t e =
      let z : t ≡ end_of s n = cc in
      rw z (opening (End n) q ∙ rw (end_bytes s))
  found (Bad i n) q t e = cc

  lost : (r : Lexed) → r ≡ lex_from s 0 1 → (f : Refusal) → Err f ≡ held_next s r → clear ≡ refusal_of f
  unfolding read_ahead
  lost (Found u) q f e = cc
  lost (End n) q f e = cc
  lost (Bad i n) q f e =
      let z : f ≡ refusal no_token i n = cc in
      rw z (opening (Bad i n) q)

  -- a clear text is read from its first token on, or is refused for its first byte
  module _ (v : Ok tt ≡ screened s) where
    pub begins : (t : Token) → Ok t ≡ held_next s (lex_from s 0 1) → (o : State) → (o.held ≡ t) × ((l : List ℕ) → state_of l o ≡ start) → Begins s (Ok o)
    begins t e o h = (
      cleared v ∙ (found (lex_from s 0 1) refl t e ∙ rw (← h.0, ← h.1 s)),
      clear_short s (sym v),
      h.1 s,
      subst (λ st. Ranked st.blocks) (sym (h.1 s)) (omega arith, tt),
    )

    pub fails : (f : Refusal) → Err f ≡ held_next s (lex_from s 0 1) → reading s ≡ refusal_of f
    fails f e = cleared v ∙ lost (lex_from s 0 1) refl f e
