-- A step shows of a draft no more than `shown` does.
use Prim.Native.Nat.{ℕ, ◌+◌, ◌/◌, ◌%◌, ◌≤◌}
use mathlib.Core.Path.{◌≡◌, refl, sym, ap, ◌∙◌}
use mathlib.Core.Bool.{cond}
use mathlib.Core.List.{List}
use native.Mathlib.Decide.{dec_lt}
use native.Mathlib.Omega.{arith}
use borrow.Author.Tests.{eq-eqb, ne_eqb}
use lib.Dec.{eqb}
use Rattle.std.specs.Prelude.{Ok, Err}
use lib.ListN.{drop}
use Rattle.refusal.specs.declared.Refusal.{Refusal}
use Rattle.record.specs.declared.Record.{Record}
use Rattle.lexer.specs.declared.Token.{Token}
use Rattle.grammar.specs.Tokens.{Answer, ok, refused}
use Rattle.grammar.specs.Grammar.{Move}
use Rattle.grammar.specs.Engine.{Draft, blank, items}
use Rattle.grammar.specs.Turns.{Step, gives, ends, halts, given, ended}
use Rattle.grammar.specs.Reading.{Mark, filed}
use Rattle.rows.specs.Packed.{items_of, move_of, act_of}
use Rattle.parser.specs.declared.open.Frame.{Frame}
use Rattle.parser.specs.declared.draft.Sketch.{Sketch}
use Rattle.parser.specs.declared.engine.Step.TheVariants as S
use Rattle.parser.specs.Code.{ahead_of}
use Rattle.parser.specs.Kept.{name_in, frame_of}
use Rattle.parser.specs.Drafts.{Entry, entry, shown, draft_of, emptied, Drafted, as_drafted}
use Rattle.parser.specs.Stepped.{labelled, filed_step, as_step, runs}
use Rattle.parser.proofs.Acts.{low_act, plain_record, plain_close}
use Rattle.parser.proofs.Ahead.{as_long}

abbrev giving : Move → Answer ℕ Mark Entry → Step ℕ Mark Entry
giving m (ok e a) = gives m (entry e.rec (labelled m e.label)) a
giving m (refused n p) = halts n p

given_so : (m : Move) (p : Answer ℕ Mark (Draft ℕ)) → filed_step (given m p) ≡ giving m (shown p)
given_so m (ok d a) = refl
given_so m (refused n p) = refl

ended_so : (p : Answer ℕ Mark (Draft ℕ)) → filed_step (ended p) ≡ ended (shown p)
ended_so (ok d a) = refl
ended_so (refused n p) = refl

module _ (p q : Answer ℕ Mark (Draft ℕ)) (h : shown p ≡ shown q) where
  pub same_given : (m : Move) → filed_step (given m p) ≡ filed_step (given m q)
  same_given m = given_so m p ∙ ap (giving m) h ∙ sym (given_so m q)

  pub same_ended : filed_step (ended p) ≡ filed_step (ended q)
  same_ended = ended_so p ∙ ap ended h ∙ sym (ended_so q)

-- THE ITEMS OF A ROW

module _ (s : List ℕ) (f : Frame) (held first : Token) (h i kind : ℕ) (low : h % 256 ≤ 64) (k : kind ≡ cond (eqb (h % 256) 64) 0 (h % 256)) where
  -- the draft before its items
  abbrev base : Draft ℕ
  base = blank kind (frame_of s f) (ahead_of s held)

  -- what the row does
  abbrev running : Step ℕ Mark Entry
  running = filed_step (runs (frame_of s f) (ahead_of s held) (ahead_of s first) (act_of h i))

  -- the answer is what the row's items make of a draft
  abbrev Reads : Drafted → Type 0
  Reads r = (b : Draft ℕ) → b.rec.kind ≡ kind → shown (as_drafted s b r) ≡ shown (items 0 (frame_of s f) (items_of i) (emptied b) (ahead_of s first))

  run_given : (r : Drafted) → Reads r → (h % 256 ≡ 64 → ⊥) → filed_step (given (move_of (h / 256)) (as_drafted s base r)) ≡ running
  run_given r reads n =
      let q : kind ≡ h % 256 = k ∙ rw (ne_eqb (h % 256) 64 n) in
      rw (low_act h i (omega arith), plain_record (h % 256) (h / 256) i (omega arith), ← q) (same_given (as_drafted s base r) (items 0 (frame_of s f) (items_of i) base (ahead_of s first)) (reads base refl) (move_of (h / 256)))

  run_ended : (r : Drafted) → Reads r → h % 256 ≡ 64 → filed_step (ended (as_drafted s base r)) ≡ running
  run_ended r reads e =
      let q : kind ≡ 0 = k ∙ rw (eq-eqb (h % 256) 64 e) in
      rw (low_act h i (omega arith), plain_close (h % 256) (h / 256) i e)
      (same_ended (as_drafted s base r) (items 0 (frame_of s f) (items_of i) base (ahead_of s first)) (reads base refl)
      ∙ ap (λ n. filed_step (ended (items 0 (frame_of s f) (items_of i) (blank n (frame_of s f) (ahead_of s held)) (ahead_of s first)))) q)

  pub run_refused : (x : Refusal) → Reads (Err x) → halts x.number (record { place = x.place; line = x.line }) ≡ running
  run_refused x reads = elim (dec_lt (h % 256) 64) [
    | yes l ↦ run_given (Err x) reads (λ q. omega arith)
    | no l ↦ run_ended (Err x) reads (omega arith)
  ]

  pub run_ends : (d : Sketch) (t : Token) → Reads (Ok (d, t)) → h % 256 ≡ 64 → ends (ahead_of s t) ≡ running
  run_ends d t reads q = run_ended (Ok (d, t)) reads q

  pub run_gives : (d : Sketch) (t : Token) (x : Record) → Reads (Ok (d, t)) → (h % 256 ≡ 64 → ⊥) → x ≡ filed (draft_of s base d).rec → as_step s (Ok (S.Gives t x (h / 256))) ≡ running
  run_gives d t x reads q z =
      let n : d.name + 0 ≡ d.name = omega arith in
      let m = move_of (h / 256) in
      let l = name_in s d.name d.len in
      ap (λ o. as_step s (Ok (S.Gives t o (h / 256)))) z
      ∙ ap (λ o. gives m (entry (filed (draft_of s base d).rec) (labelled m o)) (ahead_of s t)) (rw n (as_long d.len (drop d.name s)))
      ∙ run_given (Ok (d, t)) reads q
