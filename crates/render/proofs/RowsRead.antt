-- What the rows of a block make of what is ahead, beside its forms and its last words: by the cases of an act, row by row.
use Prim.Native.Nat.{ℕ}
use Prim.Native.String.{String}
use mathlib.Core.Path.{◌≡◌, refl, sym, subst, ◌∙◌}
use mathlib.Core.Bool.{Bool, true, false, cond, not, ◌&&◌, ◌||◌, false≢true}
use mathlib.Core.List.Memᴰ
use mathlib.Core.List.{List, [], ◌∷◌, Memᴰ}
use borrow.Author.Tests.{eqb-true, not-true}
use lib.Dec.{leb, eqb}
use Rattle.word.specs.Words.{word_of, word}
use Rattle.word.proofs.Words.{both}
use Rattle.grammar.specs.Tokens.{Tok, Ahead, Answer, ok, refused, then}
use Rattle.grammar.specs.Grammar.{Item, Move, Act, statement, close, refuse, back, up_to54, Row, row}
use Rattle.grammar.specs.Engine.{some, Rec, Draft, Frame, blank, items}
use Rattle.grammar.specs.Turns.{Step, gives, ends, goes, backs, halts, given, ended, act_for, perform, judged}
use Rattle.grammar.specs.Reading.{Mark}
use Rattle.grammar.proofs.Answers.{Ok}
use Rattle.grammar.proofs.Kept.{Suf, there, all, Taken}
use Rattle.render.specs.Forms.{Form, form, forms_of, row_forms, Close, close_of}
use Rattle.render.specs.Fit.{is_back, first_word}
use Rattle.render.proofs.Stands.{is_some}

-- TESTS OF ROWS

-- a version up to 5.4 has statements of its own, and no ends of blocks
unfoldable pub inner : Act → Bool
inner (statement k is m) = true
inner (close is) = false
inner (refuse n) = true
inner back = false
inner (up_to54 act) = inner act

unfoldable pub plain : Act → Bool
plain (statement k is m) = true
plain (close is) = true
plain (refuse n) = true
plain back = true
plain (up_to54 act) = inner act

inner_plain : (act : Act) → inner act ≡ true → plain act ≡ true
unfolding inner plain
inner_plain (statement k is m) e = refl
inner_plain (close is) e = refl
inner_plain (refuse n) e = refl
inner_plain back e = refl
inner_plain (up_to54 act) e = e

inner_back : (act : Act) → inner act ≡ true → is_back act ≡ true → ⊥
unfolding inner
inner_back (statement k is m) e b = false≢true b
inner_back (close is) e b = false≢true b
inner_back (refuse n) e b = false≢true b
inner_back back e b = false≢true e
inner_back (up_to54 act) e b = false≢true b

-- one row at most ends the block
unfoldable pub shut : Act → List Row → Bool
shut (statement k is m) rows = true
shut (close is) rows = not (is_some (close_of rows))
shut (refuse n) rows = true
shut back rows = true
shut (up_to54 act) rows = true

unfoldable pub orderly : List Row → Bool
orderly [] = true
orderly (w ∷ ws) = plain w.act && (shut w.act ws && orderly ws)

pub no_last : (rows : List Row) (c : Close) → is_some (close_of rows) ≡ false → close_of rows ≡ some c → ⊥
no_last rows c n e = false≢true (sym n ∙ rw e)

close_later : (begin : String) (act : Act) (rows : List Row) (c : Close) → shut act rows ≡ true → close_of rows ≡ some c → close_of (row begin act ∷ rows) ≡ some c
unfolding shut close_of
close_later begin (statement k is m) rows c s e = e
close_later begin (close is) rows c s e = absurd (no_last rows c (not-true _ s) e)
close_later begin (refuse n) rows c s e = e
close_later begin back rows c s e = e
close_later begin (up_to54 act) rows c s e = e

-- WHAT AN ACT MAKES OF WHAT IS AHEAD

module _ (v : ℕ) (f : Frame ℕ) (a : Ahead ℕ Mark) where
  -- the items gave the draft d, from a place ahead on
  pub record Ran (k : ℕ) (is : List Item) (d : Draft ℕ) (b : Ahead ℕ Mark) : Type 0 where
    pub ahead : Ahead ℕ Mark
    pub suffix : Suf (all ahead) (all a)
    pub was : items 0 f is (blank k f a) ahead ≡ ok d b

  abbrev pub Came : (Draft ℕ → Ahead ℕ Mark → Type 0) → Answer ℕ Mark (Draft ℕ) → Type 0
  Came Q (ok d b) = Q d b
  Came Q (refused n p) = Unit {0}

  pub runs : (k : ℕ) (is : List Item) (c : Ahead ℕ Mark) → Suf (all c) (all a) → Came (Ran k is) (items 0 f is (blank k f a) c)
  runs k is c s = go (items 0 f is (blank k f a) c) refl
    where
      go : (t : Answer ℕ Mark (Draft ℕ)) → items 0 f is (blank k f a) c ≡ t → Came (Ran k is) t
      go (ok d b) e = record { ahead = c; suffix = s; was = e }
      go (refused n p) e = tt

  after_word : (k : ℕ) (is : List Item) (taken : Answer ℕ Mark (Tok ℕ Mark)) → Ok (Taken a) taken → Came (Ran k is) (then taken (λ t b. items 0 f is (blank k f a) b))
  after_word k is (ok t c) h = runs k is c (there h.1)
  after_word k is (refused n p) h = tt

  -- the record q was read in one of the forms, which begins with the word u
  pub record Gave (forms : List Form) (u : ℕ) (mv : Move) (q : Rec ℕ) (b : Ahead ℕ Mark) : Type 0 where
    pub form : Form
    pub member : Memᴰ form forms
    pub move : form.move ≡ mv
    pub allowed : (not form.old || leb v 5400000) ≡ true
    pub begins : first_word form.begin ≡ u
    pub draft : Draft ℕ
    pub ran : Ran form.kind form.items draft b
    pub rec : draft.rec ≡ q

  widen : {forms more : List Form} {u w : ℕ} {mv : Move} {q : Rec ℕ} {b : Ahead ℕ Mark} → Gave forms u mv q b
      → ((m : Form) → Memᴰ m forms → Memᴰ m more) → u ≡ w → Gave more w mv q b
  widen g h e = record {
    form = g.form;
    member = h g.form g.member;
    move = g.move;
    allowed = g.allowed;
    begins = g.begins ∙ e;
    draft = g.draft;
    ran = g.ran;
    rec = g.rec;
  }

  pub by_cond : (P : Step ℕ Mark (Rec ℕ) → Type 0) (c : Bool) (s t : Step ℕ Mark (Rec ℕ)) → (c ≡ true → P s) → (c ≡ false → P t) → P (cond c s t)
  by_cond P true s t p q = p refl
  by_cond P false s t p q = q refl

  -- a step of the row that begins with the word w, in a version up to 5.4 where o
  abbrev Acts : String → Bool → Act → Step ℕ Mark (Rec ℕ) → Type 0
  Acts w o act (gives mv q b) = Gave (forms_of w o act) (word w) mv q b
  Acts w o act (ends b) = (is : List Item) × (act ≡ close is) × (d : Draft ℕ) × Ran 0 is d b
  Acts w o act (goes c b) = ⊥
  Acts w o act backs = is_back act ≡ true
  Acts w o act (halts n p) = Unit {0}

  module _ (w : String) where
    given_acts : (o : Bool) (k : ℕ) (is : List Item) (m : Move) → (not o || leb v 5400000) ≡ true → (t : Answer ℕ Mark (Draft ℕ)) → Came (Ran k is) t
        → Acts w o (statement k is m) (given m t)
    unfolding forms_of
    given_acts o k is m h (ok d b) r =
        record { form = form k (w ∷ []) is m o; member = Memᴰ.head refl; move = refl; allowed = h; begins = refl; draft = d; ran = r; rec = refl }
    given_acts o k is m h (refused n p) r = tt

    ended_acts : (o : Bool) (is : List Item) (t : Answer ℕ Mark (Draft ℕ)) → Came (Ran 0 is) t → Acts w o (close is) (ended t)
    ended_acts o is (ok d b) r = (is, refl, d, r)
    ended_acts o is (refused n p) r = tt

    inner_acts : (o : Bool) (act : Act) → inner act ≡ true → (s : Step ℕ Mark (Rec ℕ)) → Acts w true act s → Acts w o (up_to54 act) s
    unfolding forms_of inner
    inner_acts o act i (gives mv q b) h = h
    inner_acts o act i (ends b) h = absurd (let (is, e, d, r) = h in false≢true (rw e at i))
    inner_acts o act i (goes c b) h = h
    inner_acts o act i backs h = absurd (inner_back act i h)
    inner_acts o act i (halts n p) h = tt

    module _ (p : Mark) (taken : Answer ℕ Mark (Tok ℕ Mark)) (g : Ok (Taken a) taken) where
      perform_acts : (o : Bool) (act : Act) → (not o || leb v 5400000) ≡ true → plain act ≡ true → Acts w o act (perform v f a taken p act)
      unfolding perform plain
      perform_acts o (statement k is m) h e = given_acts o k is m h (then taken (λ t b. items 0 f is (blank k f a) b)) (after_word k is taken g)
      perform_acts o (close is) h e = ended_acts o is (then taken (λ t b. items 0 f is (blank 0 f a) b)) (after_word 0 is taken g)
      perform_acts o (refuse n) h e = tt
      perform_acts o back h e = refl
      perform_acts o (up_to54 act) h e =
          by_cond (Acts w o (up_to54 act)) (leb v 5400000) (perform v f a taken p act) (halts 5 p)
          (λ l. inner_acts o act e (perform v f a taken p act) (perform_acts true act l (inner_plain act e))) (λ l. tt)

  -- WHAT ROWS MAKE OF IT

  -- the word held
  abbrev pub held : ℕ
  held = word_of a.held.bytes

  -- the block's last words were read
  abbrev pub Closed : List Row → Ahead ℕ Mark → Type 0
  Closed rows b = (c : Close) × (close_of rows ≡ some c) × (word c.word ≡ held) × (d : Draft ℕ) × Ran 0 c.items d b

  -- a step of the rows by this act
  abbrev pub RowsAct : List Row → Act → Step ℕ Mark (Rec ℕ) → Type 0
  RowsAct rows act (gives mv q b) = Gave (row_forms rows) held mv q b
  RowsAct rows act (ends b) = Closed rows b
  RowsAct rows act (goes c b) = ⊥
  RowsAct rows act backs = is_back act ≡ true
  RowsAct rows act (halts n p) = Unit {0}

  here_acts : (w : Row) (ws : List Row) → word w.begin ≡ held → (s : Step ℕ Mark (Rec ℕ)) → Acts w.begin false w.act s → RowsAct (w ∷ ws) w.act s
  unfolding row_forms close_of
  here_acts w ws u (gives mv q b) h = widen h (λ m i. Memᴰ.append_left (row_forms ws) i) u
  here_acts w ws u (ends b) h = let (is, e, d, r) = h in (record { word = w.begin; items = is }, rw e, u, d, r)
  here_acts w ws u (goes c b) h = h
  here_acts w ws u backs h = h
  here_acts w ws u (halts n p) h = tt

  there_acts : (w : Row) (ws : List Row) (act : Act) → shut w.act ws ≡ true → (s : Step ℕ Mark (Rec ℕ)) → RowsAct ws act s → RowsAct (w ∷ ws) act s
  unfolding row_forms close_of
  there_acts w ws act t (gives mv q b) h = widen h (λ m i. Memᴰ.append_right (forms_of w.begin false w.act) i) refl
  there_acts w ws act t (ends b) h = let (c, e, u, d, r) = h in (c, close_later w.begin w.act ws c t e, u, d, r)
  there_acts w ws act t (goes c b) h = h
  there_acts w ws act t backs h = h
  there_acts w ws act t (halts n p) h = tt

  pub rows_act : (n : ℕ) (p : Mark) (taken : Answer ℕ Mark (Tok ℕ Mark)) → Ok (Taken a) taken → (rows : List Row) → orderly rows ≡ true
      → RowsAct rows (act_for n held rows) (perform v f a taken p (act_for n held rows))
  unfolding act_for perform orderly
  rows_act n p taken g [] e = tt
  rows_act n p taken g (w ∷ ws) e =
      let (x, y) = both (plain w.act) (shut w.act ws && orderly ws) e in
      let (y, z) = both (shut w.act ws) (orderly ws) y in
      go (eqb (word w.begin) held) refl x y (rows_act n p taken g ws z)
    where
      go : (t : Bool) → eqb (word w.begin) held ≡ t → plain w.act ≡ true → shut w.act ws ≡ true → RowsAct ws (act_for n held ws) (perform v f a taken p (act_for n held ws))
          → RowsAct (w ∷ ws) (cond t w.act (act_for n held ws)) (perform v f a taken p (cond t w.act (act_for n held ws)))
      go true q x y r = here_acts w ws (eqb-true (word w.begin) held q) (perform v f a taken p w.act) (perform_acts w.begin p taken g false w.act refl x)
      go false q x y r = there_acts w ws (act_for n held ws) y (perform v f a taken p (act_for n held ws)) r

  -- the word is taken before it is looked at
  pub judged_act : (rows : List Row) → orderly rows ≡ true → (taken : Answer ℕ Mark (Tok ℕ Mark)) → Ok (Taken a) taken → RowsAct rows (act_for 5 held rows) (judged v f a rows taken)
  judged_act rows e (ok t b) g =
      subst (λ u. RowsAct rows (act_for 5 held rows) (perform v f a (ok t b) b.held.mark (act_for 5 (word_of u.bytes) rows))) (sym g.0)
      (rows_act 5 b.held.mark (ok t b) g rows e)
  judged_act rows e (refused n p) g = tt
