-- A row that the code chose, and the step of its block.
use Prim.Native.Nat.{ℕ, ◌%◌, ◌≤◌, ◌<◌}
use mathlib.Core.Path.{◌≡◌, refl, sym, ap, ◌∙◌}
use mathlib.Core.Bool.{Bool, true, false, ◌&&◌}
use mathlib.Core.List.{List}
use Rattle.std.specs.Prelude.{Result, Ok, Err}
use borrow.Author.Tests.{eq-eqb, ne_eqb, lt-ltb, le-ltb}
use lib.Dec.{eqb}
use Rattle.refusal.specs.declared.Refusal.{Refusal}
use Rattle.lexer.specs.declared.Kind.TheVariants as KindIs
use Rattle.lexer.specs.Kinds as Kind
use Rattle.lexer.specs.Kinds.{number_of}
use Rattle.lexer.proofs.Kinded.{kind_eqb, kind_ne}
use Rattle.lexer.specs.declared.Token.{Token}
use Rattle.word.specs.Words.{word_of}
use Rattle.grammar.specs.Tokens.{Tok, Answer, ok, next_token}
use Rattle.grammar.specs.Grammar.{Act}
use Rattle.grammar.specs.Table.{body}
use Rattle.grammar.specs.Engine.{Rec, get_name}
use Rattle.grammar.specs.Turns.{Step, halts, goes, gone, perform, peek_key, step}
use Rattle.grammar.specs.Reading.{Mark}
use Rattle.rows.specs.Packed.{block_of, act_of, act_in, form_in, part_in, after_in, end_in}
use Rattle.parser.specs.declared.open.Frame.{Frame}
use Rattle.parser.specs.Code.{bytes_of, tok_of, ahead_of, as_taken, as_peeked}
use Rattle.parser.specs.Kept.{frame_of}
use Rattle.parser.specs.Stepped.{runs, stopped_as, worded_by, SameAct}
use Rattle.parser.proofs.Taking.{no_token}
use Rattle.parser.proofs.Acts.{act_runs, act_refused, act_stopped}
use Rattle.parser.proofs.Forms.{at_keyed, at_spoken, at_parts, at_counted, lacks_none}

-- where a complaint is placed
abbrev mark_of : Token → Mark
mark_of t = record { place = t.stop; line = t.line }

abbrev halting : Refusal → Step ℕ Mark (Rec ℕ)
halting r = halts r.number (record { place = r.place; line = r.line })

-- the step of the block f with the token t held
abbrev stepping : List ℕ → ℕ → Frame → Token → Step ℕ Mark (Rec ℕ)
stepping s v f t = step v (frame_of s f) (ahead_of s t) (body (block_of f.block))

-- A KEY WORD IS LOOKED AT

module _ (s : List ℕ) (v : ℕ) (f : Frame) (t : Token) (z : form_in f.block ≡ 0) where
  abbrev doing : Answer ℕ Mark (Tok ℕ Mark) → Act → Step ℕ Mark (Rec ℕ)
  doing taken act = perform v (frame_of s f) (ahead_of s t) taken (mark_of t) act

  pub looked : (p : Result ℕ Refusal) → ((k : ℕ → Step ℕ Mark (Rec ℕ)) → as_peeked p k ≡ peek_key (ahead_of s t) k)
      → as_peeked p (λ k. doing (next_token (ahead_of s t)) (act_in f.block k)) ≡ stepping s v f t
  looked p peeks = peeks (λ k. doing (next_token (ahead_of s t)) (act_in f.block k)) ∙ sym (at_keyed v (frame_of s f) (ahead_of s t) f.block z)

  -- the word is a key word, and the act is its row's
  pub seen : (w : ℕ) → ((k : ℕ → Step ℕ Mark (Rec ℕ)) → as_peeked (Ok w) k ≡ peek_key (ahead_of s t) k) → (act : Act) → act ≡ act_in f.block w
      → doing (next_token (ahead_of s t)) act ≡ stepping s v f t
  seen w peeks act is = ap (doing (next_token (ahead_of s t))) is ∙ looked (Ok w) peeks

-- an act while its word is held, and the word's taking
module _ (s : List ℕ) (v : ℕ) (f : Frame) (t : Token) (h i : ℕ) (act : Act) (same : SameAct v (act_of h i) act) (l : h % 256 < 128) where
  abbrev does : Answer ℕ Mark (Tok ℕ Mark) → Step ℕ Mark (Rec ℕ)
  does taken = perform v (frame_of s f) (ahead_of s t) taken (mark_of t) act

  pub does_stop : 64 < h % 256 → stopped_as (h % 256) (mark_of t) ≡ does (next_token (ahead_of s t))
  does_stop q = act_stopped v (frame_of s f) (ahead_of s t) h i act act l same refl (next_token (ahead_of s t)) (mark_of t) q

  module _ (q : h % 256 ≤ 64) where
    pub does_refuse : (r : Refusal) → as_taken s t (Err r) ≡ next_token (ahead_of s t) → halting r ≡ does (next_token (ahead_of s t))
    does_refuse r takes =
        act_refused v (frame_of s f) (ahead_of s t) h i act act l same refl r.number (record { place = r.place; line = r.line }) (mark_of t) q
        ∙ ap does takes

    pub does_run : (u : Token) → as_taken s t (Ok u) ≡ next_token (ahead_of s t) → runs (frame_of s f) (ahead_of s t) (ahead_of s u) (act_of h i) ≡ does (next_token (ahead_of s t))
    does_run u takes =
        act_runs v (frame_of s f) (ahead_of s t) h i act act l same refl (tok_of s t) (ahead_of s u) (mark_of t) q
        ∙ ap does takes

-- A WORD IS TAKEN

module _ (s : List ℕ) (v : ℕ) (f : Frame) (t : Token) where
  -- what the block makes of the word taken
  abbrev wording : Answer ℕ Mark (Tok ℕ Mark) → Step ℕ Mark (Rec ℕ)
  wording taken = worded_by v (frame_of s f) (ahead_of s t) (body (block_of f.block)) taken

  pub no_word : (r : Refusal) → as_taken s t (Err r) ≡ next_token (ahead_of s t) → halting r ≡ wording (get_name (ahead_of s t))
  no_word r e = ap wording (sym (no_token (ahead_of s t) r.number (record { place = r.place; line = r.line }) (sym e) Kind.name))

  pub untaken : (r : Refusal) → as_taken s t (Err r) ≡ get_name (ahead_of s t) → halting r ≡ wording (get_name (ahead_of s t))
  untaken r takes = ap wording takes

  module _ (u : Token) (takes : as_taken s t (Ok u) ≡ get_name (ahead_of s t)) (w : ℕ) (k : w ≡ word_of (bytes_of s t)) (h i : ℕ) (held : Act) (is : held ≡ act_in f.block w) (same : SameAct v (act_of h i) held) (l : h % 256 < 128) where
    acts : perform v (frame_of s f) (ahead_of s t) (ok (tok_of s t) (ahead_of s u)) (mark_of u) (act_in f.block w) ≡ wording (get_name (ahead_of s t))
    unfolding act_in
    acts =
        ap (λ n. perform v (frame_of s f) (ahead_of s t) (ok (tok_of s t) (ahead_of s u)) (mark_of u) (act_in f.block n)) k
        ∙ ap wording takes

    pub taken_stopped : 64 < h % 256 → stopped_as (h % 256) (mark_of u) ≡ wording (get_name (ahead_of s t))
    taken_stopped q = act_stopped v (frame_of s f) (ahead_of s t) h i held (act_in f.block w) l same is (ok (tok_of s t) (ahead_of s u)) (mark_of u) q ∙ acts

    pub taken_runs : h % 256 ≤ 64 → runs (frame_of s f) (ahead_of s t) (ahead_of s u) (act_of h i) ≡ wording (get_name (ahead_of s t))
    taken_runs q = act_runs v (frame_of s f) (ahead_of s t) h i held (act_in f.block w) l same is (tok_of s t) (ahead_of s u) (mark_of u) q ∙ acts

-- A WORD IS TAKEN, OR OPTIONS END

module _ (s : List ℕ) (v : ℕ) (f : Frame) (t : Token) (y : form_in f.block ≡ 0 → ⊥) (z : form_in f.block ≡ 3 → ⊥) (c : form_in f.block ≡ 4 → ⊥) where
  abbrev over : Bool
  over = eqb (form_in f.block) 2 && eqb (number_of t.kind) 3

  pub another : over ≡ false → worded_by v (frame_of s f) (ahead_of s t) (body (block_of f.block)) (get_name (ahead_of s t)) ≡ stepping s v f t
  another n = sym (rw (at_spoken v (frame_of s f) (ahead_of s t) f.block y z c, n))

  module _ (q : over ≡ true) where
    pub no_more : (o : Result Token Refusal) → as_taken s t o ≡ next_token (ahead_of s t) → gone (after_in f.block) (as_taken s t o) ≡ stepping s v f t
    no_more o takes = ap (gone (after_in f.block)) takes ∙ sym (rw (at_spoken v (frame_of s f) (ahead_of s t) f.block y z c, q))

    pub end_goes : (u : Token) (b : ℕ) → as_taken s t (Ok u) ≡ next_token (ahead_of s t) → block_of b ≡ after_in f.block → goes (block_of b) (ahead_of s u) ≡ stepping s v f t
    end_goes u b takes e = ap (λ n. goes n (ahead_of s u)) e ∙ no_more (Ok u) takes

-- PARTS

module _ (s : List ℕ) (v : ℕ) (f : Frame) (t : Token) (h i : ℕ) where
  abbrev running : Step ℕ Mark (Rec ℕ)
  running = runs (frame_of s f) (ahead_of s t) (ahead_of s t) (act_of h i)

  pub parts_end : form_in f.block ≡ 3 → t.kind ≡ KindIs.SemiColon → act_of h i ≡ end_in 3 → running ≡ stepping s v f t
  parts_end z q e = sym (rw (at_parts v (frame_of s f) (ahead_of s t) f.block z, kind_eqb t.kind KindIs.SemiColon q, e))

  pub parts_part : form_in f.block ≡ 3 → (t.kind ≡ KindIs.SemiColon → ⊥) → act_of h i ≡ part_in f.block → running ≡ stepping s v f t
  parts_part z q e = sym (rw (at_parts v (frame_of s f) (ahead_of s t) f.block z, kind_ne t.kind KindIs.SemiColon q, e))

  pub counted_end : form_in f.block ≡ 4 → f.lacks < 256 → act_of h i ≡ end_in 4 → running ≡ stepping s v f t
  counted_end z q e = sym (rw (at_counted v (frame_of s f) (ahead_of s t) f.block z, lacks_none f.lacks, lt-ltb f.lacks 256 q, e))

  pub counted_part : form_in f.block ≡ 4 → 256 ≤ f.lacks → act_of h i ≡ part_in f.block → running ≡ stepping s v f t
  counted_part z q e = sym (rw (at_counted v (frame_of s f) (ahead_of s t) f.block z, lacks_none f.lacks, le-ltb f.lacks 256 q, e))
