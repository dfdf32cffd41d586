-- A written text lexes back to its tokens: blanks are passed over, and the run of each token ends with it, since a blank or the end follows.
use Prim.Native.Nat.{ℕ, zero, suc, ◌+◌, ◌-◌, ◌<◌}
use mathlib.Core.Path.{◌≡◌, refl, sym, ap, ◌∙◌}
use mathlib.Core.Bool.{Bool, true, false, cond, ◌||◌, false≢true}
use mathlib.Core.List.{List, [], ◌∷◌, ◌++◌, map}
use native.Mathlib.Nat.{add-zero, add-sub_cancel_left}
use native.Mathlib.Omega.{arith}
use borrow.Author.Tests.{eqb-true}
use lib.Dec.{eqb}
use lib.ListN.{length, take, drop, get_or, replicate, length-append, length-drop}
use lib.Seq.{drop-drop, drop-append_seam, take-append_seam}
use Rattle.lexer.specs.declared.scan.Class.{Class}
use Rattle.lexer.specs.declared.scan.Class.TheVariants.{Letter, Space, Digit, SemiColon, NewLine, Quote}
use Rattle.lexer.specs.Bytes.{class_of, is_letter, is_digit, is_ascii, in_name, in_number, in_string}
use Rattle.lexer.specs.Run.{run, past}
use Rattle.lexer.specs.declared.Kind.{Kind}
use Rattle.lexer.specs.Kinds as Kinds
use Rattle.lexer.specs.Kinds.{number_of}
use Rattle.lexer.specs.Lex.{from, next_line, token as found}
use Rattle.lexer.proofs.Runs.{step}
use Rattle.lexer.proofs.Laws.{At, none, at_letter, at_space, at_digit, at_semicolon, at_newline, at_quote}
use Rattle.word.proofs.Words.{both}
use Rattle.grammar.specs.Reading.{tok}
use Rattle.render.specs.Pieces.{Piece, spaces, newline, token, text, tokens, parted, apart}
use Rattle.render.specs.Spelt.{all, is_name, is_number, is_semicolon, is_string, is_token, is_spelt, all_spelt}
use Rattle.render.specs.Stripped.{stripped, finish}
use Rattle.render.proofs.Bytes.{run_over, run_short, letter_class, digit_class}

-- no run that blanks end goes on over what begins with a blank, or over nothing
parted_run : (p : ℕ → Bool) → p 32 ≡ false → p 10 ≡ false → (ps : List Piece) → parted ps ≡ true → run p (text ps) ≡ 0
unfolding run text parted
parted_run p e f [] h = refl
parted_run p e f (spaces zero ∷ ps) h = parted_run p e f ps h
parted_run p e f (spaces (suc n) ∷ ps) h = rw e
parted_run p e f (newline ∷ ps) h = rw f
parted_run p e f (token t ∷ ps) h = absurd (false≢true h)

module _ (s : List ℕ) where
  -- past what stands at a place, and its bytes
  moved : (at : ℕ) (a l : List ℕ) → drop at s ≡ a ++ l → drop (at + length a) s ≡ l
  moved at a l e = sym (drop-drop (length a) at s) ∙ ap (drop (length a)) e ∙ drop-append_seam a l

  bytes_at : (at : ℕ) (a l : List ℕ) → drop at s ≡ a ++ l → take (at + length a - at) (drop at s) ≡ a
  bytes_at at a l e = rw (e, add-sub_cancel_left) (take-append_seam a l)

  -- the byte at a place
  stands : (at n b : ℕ) (l : List ℕ) (k : Class) → drop at s ≡ b ∷ l → class_of b ≡ k → At s at n k
  stands at n b l k e f =
      let i : at < length s = omega (arith, length-drop at s, ap length e) in
      let q = step s at i in
      let g : get_or s at 0 ≡ b = cc in
      record { inside = i; class = rw g f }

  -- a run that ends with the bytes w after a first byte
  run_ends : (p : ℕ → Bool) (at b : ℕ) (w l : List ℕ) → drop at s ≡ b ∷ (w ++ l) → all p w ≡ true → run p l ≡ 0
      → at + suc (length w) ≡ past p s (at + 1)
  run_ends p at b w l e f g = rw (moved at (b ∷ []) (w ++ l) e, run_over p w l f, g) (omega arith)

  -- ---- one token, by its kind
  abbrev Reads : Kind → List ℕ → List ℕ → Type 0
  Reads k w l = (at n : ℕ) → drop at s ≡ w ++ l → from s at n ≡ found k at (at + length w) n ∷ from s (at + length w) n

  reads_name : (w l : List ℕ) → is_name w ≡ true → run in_name l ≡ 0 → Reads Kind.Name w l
  unfolding is_name
  reads_name [] l z x at n e = absurd (false≢true z)
  reads_name (b ∷ w) l z x at n e =
      let (f, g) = both (is_letter b) (all in_name w) z in
      at_letter (stands at n b (w ++ l) Letter e (letter_class b f)) _ (run_ends in_name at b w l e g x)

  reads_number : (w l : List ℕ) → is_number w ≡ true → run in_number l ≡ 0 → Reads Kind.Number w l
  unfolding is_number
  reads_number [] l z x at n e = absurd (false≢true z)
  reads_number (b ∷ w) l z x at n e =
      let (f, g) = both (is_digit b || eqb b 45) (all in_number w) z in
      at_digit (stands at n b (w ++ l) Digit e (digit_class b f)) _ (run_ends in_number at b w l e g x)

  reads_semicolon : (w l : List ℕ) → is_semicolon w ≡ true → Reads Kind.SemiColon w l
  unfolding is_semicolon class_of
  reads_semicolon [] l z at n e = absurd (false≢true z)
  reads_semicolon (b ∷ []) l z at n e = at_semicolon (stands at n b l SemiColon e (rw (eqb-true b 59 z)))
  reads_semicolon (b ∷ c ∷ w) l z at n e = absurd (false≢true z)

  reads_string : (w l : List ℕ) → is_string w ≡ true → Reads Kind.StringLiteral w l
  unfolding is_string class_of
  reads_string [] l z at n e = absurd (false≢true z)
  reads_string (b ∷ w) l z at n e =
      let (f, g) = both (eqb b 34) (eqb (run in_string w + 1) (length w)) z in
      let h = eqb-true (run in_string w + 1) (length w) g in
      let r : run in_string (drop (at + 1) s) ≡ run in_string w = rw (moved at (b ∷ []) (w ++ l) e) (run_short in_string w l (omega arith)) in
      at_quote (stands at n b (w ++ l) Quote e (rw (eqb-true b 34 f))) _
      (omega (arith, r, h, length-append w l, length-drop at s, ap length e))

  reads : (k : ℕ) (w l : List ℕ) → is_token k w ≡ true → run in_name l ≡ 0 → run in_number l ≡ 0 → (c : Kind) × (number_of c ≡ k) × Reads c w l
  unfolding is_token
  reads k w l z x y = go (eqb k Kinds.name) (eqb k Kinds.number) (eqb k Kinds.semicolon) (eqb k Kinds.string_literal) refl refl refl refl z
    where
      go : (a b c d : Bool) → eqb k Kinds.name ≡ a → eqb k Kinds.number ≡ b → eqb k Kinds.semicolon ≡ c → eqb k Kinds.string_literal ≡ d
          → cond a (is_name w) (cond b (is_number w) (cond c (is_semicolon w) (cond d (is_string w) false))) ≡ true → (c : Kind) × (number_of c ≡ k) × Reads c w l
      go true b c d e f g h z = (Kind.Name, sym (eqb-true k Kinds.name e), reads_name w l z x)
      go false true c d e f g h z = (Kind.Number, sym (eqb-true k Kinds.number f), reads_number w l z y)
      go false false true d e f g h z = (Kind.SemiColon, sym (eqb-true k Kinds.semicolon g), reads_semicolon w l z)
      go false false false true e f g h z = (Kind.StringLiteral, sym (eqb-true k Kinds.string_literal h), reads_string w l z)
      go false false false false e f g h z = absurd (false≢true z)

  -- ---- blanks
  blanks : (k at n : ℕ) (l : List ℕ) → drop at s ≡ replicate k 32 ++ l → (from s at n ≡ from s (at + k) n) × (drop (at + k) s ≡ l)
  unfolding class_of
  blanks zero at n l e = (rw add-zero, rw add-zero e)
  blanks (suc k) at n l e =
      let shift : at + suc k ≡ at + 1 + k = omega arith in
      let (p, q) = blanks k (at + 1) n l (moved at (32 ∷ []) (replicate k 32 ++ l) e) in
      (rw shift (at_space (stands at n 32 (replicate k 32 ++ l) Space e refl) ∙ p), rw shift q)

  -- ---- what is written from a place on
  written : (ps : List Piece) → all_spelt (tokens ps) ≡ true → apart ps ≡ true → (at n : ℕ) → drop at s ≡ text ps
      → map (λ r. stripped (tok s r)) (from s at n) ≡ tokens ps ++ (finish ∷ [])
  unfolding all_spelt is_spelt text tokens apart class_of
  written [] z a at n e = rw (none s at n (omega (arith, length-drop at s, ap length e)))
  written (spaces k ∷ ps) z a at n e =
      let (p, q) = blanks k at n (text ps) e in
      rw p (written ps z a (at + k) n q)
  written (newline ∷ ps) z a at n e =
      rw (at_newline (stands at n 10 (text ps) NewLine e refl) (next_line n) refl)
      (written ps z a (at + 1) (next_line n) (moved at (10 ∷ []) (text ps) e))
  written (token t ∷ ps) z a at n e =
      let (f, g) = both (is_spelt t) (all_spelt (tokens ps)) z in
      let (h, i) = both (parted ps) (apart ps) a in
      let w = t.bytes in
      let u = (both (is_token t.kind w) (all is_ascii w) f).0 in
      let (c, q, r) = reads t.kind w (text ps) u (parted_run in_name refl refl ps h) (parted_run in_number refl refl ps h) in
      rw (r at n e, q, bytes_at at w (text ps) e, written ps g i (at + length w) n (moved at w (text ps) e))

-- A WRITTEN TEXT LEXES BACK TO ITS TOKENS
pub lexes_back : (ps : List Piece) → all_spelt (tokens ps) ≡ true → apart ps ≡ true
    → map (λ r. stripped (tok (text ps) r)) (from (text ps) 0 1) ≡ tokens ps ++ (finish ∷ [])
lexes_back ps z a = written (text ps) ps z a 0 1 refl
