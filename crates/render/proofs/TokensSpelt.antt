-- What a text's tokens say can be written again: a name is a letter and the run after it, and no byte of a string literal before its last is a quote but the first.
use Prim.Native.Nat.{ℕ, suc, ◌+◌, ◌-◌, ◌<◌, min}
use mathlib.Core.Path.{◌≡◌, refl}
use mathlib.Core.Bool.{Bool, true, false, cond, ◌||◌}
use mathlib.Core.List.{List, [], ◌∷◌, ◌++◌, map}
use native.Mathlib.Omega.{arith}
use borrow.Author.Tests.{eq-eqb}
use lib.Dec.{eqb}
use lib.ListN.{length, take, drop, get_or, length-append, length-take, length-drop}
use lib.Seq.{take-take}
use Rattle.lexer.specs.declared.scan.Class.{Class}
use Rattle.lexer.specs.declared.scan.Class.TheVariants.{Letter, Space, Digit, SemiColon, NewLine, Quote, Hash, Other}
use Rattle.lexer.specs.declared.Lexed.{Lexed}
use Rattle.lexer.specs.Bytes.{class_of, is_letter, is_space, is_digit, is_newline, is_ascii, in_name, in_string, in_comment}
use Rattle.lexer.specs.Run.{run, past}
use Rattle.lexer.specs.declared.Kind.TheVariants as K
use Rattle.lexer.specs.Kinds as Kind
use Rattle.lexer.specs.Lex.{from, token}
use Rattle.lexer.proofs.Runs.{step}
use Rattle.lexer.proofs.Laws.{At, none, at_letter, at_space, at_digit, at_semicolon, at_newline, at_quote, at_hash, at_other}
use Rattle.lexer.proofs.First.{everywhere}
use Rattle.grammar.specs.Tokens.{Tok}
use Rattle.grammar.specs.Reading.{Mark, tok}
use Rattle.grammar.specs.Standing.{Every}
use Rattle.render.specs.Pieces.{said}
use Rattle.render.specs.Spelt.{all, is_name, is_string, is_token, is_spelt}
use Rattle.render.proofs.All.{all_append, all_take, all_drop}
use Rattle.render.proofs.Bytes.{run_over, run_holds}

-- a name that is read can be written
abbrev pub NameSpelt : {A M : Type 0} → Tok A M → Type 0
NameSpelt t = t.kind ≡ Kind.name → is_spelt (said Kind.name t.bytes) ≡ true

-- and so can what a string literal says, in quotes: its bytes but the first and the last
abbrev pub StringSpelt : {A M : Type 0} → Tok A M → Type 0
StringSpelt t = t.kind ≡ Kind.string_literal → (n : ℕ) → length t.bytes ≡ n + 2
    → is_spelt (said Kind.string_literal (34 ∷ (take n (drop 1 t.bytes) ++ (34 ∷ [])))) ≡ true

-- ---- what holds of each name, of each string literal and of all else holds of each token
module _ (s : List ℕ) (Q : Tok ℕ Mark → Type 0)
    (names : (i n : ℕ) → At s i n Letter → Q (tok s (token K.Name i (past in_name s (i + 1)) n)))
    (strings : (i n : ℕ) → At s i n Quote → Q (tok s (token K.StringLiteral i (min (past in_string s (i + 1) + 1) (length s)) n)))
    (others : (t : Tok ℕ Mark) → (t.kind ≡ Kind.name → ⊥) → (t.kind ≡ Kind.string_literal → ⊥) → Q t) where
  abbrev Holds : List Lexed → Type 0
  Holds rs = Every Q (map (tok s) rs)

  via : {rs us : List Lexed} → rs ≡ us → Holds us → Holds rs
  via q u = rw q u

  one : (i n : ℕ) → ((j m : ℕ) → i < j → Holds (from s j m)) → (c : Class) → At s i n c → Holds (from s i n)
  one i n f Letter a = via (at_letter a _ refl) (names i n a, f _ n (omega arith))
  one i n f Space a = via (at_space a) (f (i + 1) n (omega arith))
  one i n f Digit a = via (at_digit a _ refl) (others _ (λ e. omega arith) (λ e. omega arith), f _ n (omega arith))
  one i n f SemiColon a = via (at_semicolon a) (others _ (λ e. omega arith) (λ e. omega arith), f _ n (omega arith))
  one i n f NewLine a = via (at_newline a _ refl) (f (i + 1) _ (omega arith))
  one i n f Quote a = via (at_quote a _ refl) (strings i n a, f _ n (omega (arith, a.inside)))
  one i n f Hash a = via (at_hash a _ refl) (f (past in_comment s (i + 1)) n (omega arith))
  one i n f Other a = via (at_other a) (others _ (λ e. omega arith) (λ e. omega arith), tt)

  each_token : (i n : ℕ) → Holds (from s i n)
  each_token =
      everywhere s (λ i n. Holds (from s i n))
      (λ i n h. via (none s i n h) (others _ (λ e. omega arith) (λ e. omega arith), tt))
      (λ i n h f. one i n f (class_of (get_or s i 0)) (record { inside = h; class = refl }))

-- ---- names
letter_back : (b : ℕ) → class_of b ≡ Letter → is_letter b ≡ true
unfolding class_of
letter_back b e = go (is_letter b) (is_space b) (is_digit b || eqb b 45) (eqb b 59) (is_newline b) (eqb b 34) (eqb b 35) e
  where
    go : (t u v w x y z : Bool)
        → cond t Letter (cond u Space (cond v Digit (cond w SemiColon (cond x NewLine (cond y Quote (cond z Hash Other)))))) ≡ Letter → t ≡ true
    go true u v w x y z e = refl
    go false true v w x y z e = cc
    go false false true w x y z e = cc
    go false false false true x y z e = cc
    go false false false false true y z e = cc
    go false false false false false true z e = cc
    go false false false false false false true e = cc
    go false false false false false false false e = cc

-- ---- string literals
quoted : (w : List ℕ) → all in_string w ≡ true → all is_ascii w ≡ true → is_spelt (said Kind.string_literal (34 ∷ (w ++ (34 ∷ [])))) ≡ true
unfolding is_spelt is_token is_string all run
quoted w e a =
    let r : run in_string (w ++ (34 ∷ [])) + 1 ≡ length (w ++ (34 ∷ [])) = omega (arith, run_over in_string w (34 ∷ []) e, length-append w (34 ∷ [])) in
    rw (eq-eqb _ _ r) (all_append is_ascii w (34 ∷ []) a refl)

module _ (s : List ℕ) (a : all is_ascii s ≡ true) where
  low : (m i : ℕ) → all is_ascii (take m (drop i s)) ≡ true
  low m i = all_take is_ascii m (drop i s) (all_drop is_ascii i s a)

  name_at : (i n : ℕ) → At s i n Letter → NameSpelt (tok s (token K.Name i (past in_name s (i + 1)) n))
  unfolding is_spelt is_token is_name
  name_at i n h e =
      let l = drop (i + 1) s in
      let j = past in_name s (i + 1) in
      let k : j - i ≡ suc (run in_name l) = omega arith in
      let w : is_name (take (j - i) (drop i s)) ≡ true = rw (k, step s i h.inside, letter_back (get_or s i 0) h.class) (run_holds in_name (run in_name l) l (omega arith)) in
      rw (w, low (j - i) i)

  string_at : (i n : ℕ) → At s i n Quote → StringSpelt (tok s (token K.StringLiteral i (min (past in_string s (i + 1) + 1) (length s)) n))
  string_at i n h e m q =
      let l = drop (i + 1) s in
      let k = min (run in_string l + 1) (length l) in
      let d : min (past in_string s (i + 1) + 1) (length s) - i ≡ suc k = omega (arith, h.inside, length-drop (i + 1) s) in
      let b : take (min (past in_string s (i + 1) + 1) (length s) - i) (drop i s) ≡ get_or s i 0 ∷ take k l = rw (d, step s i h.inside) in
      let o : suc (length (take k l)) ≡ m + 2 = rw b at q in
      let g : m < k = omega (arith, length-take k l) in
      rw (b, take-take m k l (omega arith)) (quoted (take m l) (run_holds in_string m l (omega arith)) (low m (i + 1)))

  -- EVERY NAME OF A TEXT CAN BE WRITTEN
  pub tokens_spelt : (at n : ℕ) → Every NameSpelt (map (tok s) (from s at n))
  tokens_spelt = each_token s NameSpelt name_at (λ i n h e. absurd (omega arith)) (λ t p q e. absurd (p e))

  -- AND WHAT EVERY STRING LITERAL OF IT SAYS
  pub string_spelt : (at n : ℕ) → Every StringSpelt (map (tok s) (from s at n))
  string_spelt = each_token s StringSpelt (λ i n h e. absurd (omega arith)) string_at (λ t p q e. absurd (q e))
