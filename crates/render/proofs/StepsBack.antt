-- WHAT IS WRITTEN IS READ: a step finds the row by its first word, and the items of the row read what they wrote.
use Prim.Native.Nat.{ℕ}
use Prim.Native.String.{String}
use mathlib.Core.Path.{◌≡◌, refl, sym, ◌∙◌}
use mathlib.Core.Bool.{Bool, true, false, cond, not, ◌&&◌, ◌||◌, false≢true}
use mathlib.Core.List.{List, [], ◌∷◌, ◌++◌}
use borrow.Author.Tests.{eqb-true, not-true}
use lib.Dec.{leb, eqb}
use Rattle.text.specs.Text.{bytes}
use Rattle.lexer.specs.Kinds as Kind
use Rattle.word.specs.Words as Words
use Rattle.word.specs.Words.{word, is_key}
use Rattle.word.proofs.Words.{both, same_eq}
use Rattle.grammar.specs.Tokens.{Tok, Ahead, Answer, ok, refused, then, next_token, matches, bad}
use Rattle.grammar.specs.Grammar.{Item, Move, stay, Act, statement, close, refuse, back, up_to54, Row, Body, keyed, worded, options, parts, counted}
use Rattle.grammar.specs.Table.{body}
use Rattle.grammar.specs.Engine.{some, Rec, Draft, Frame, blank, get_name, items, empty}
use Rattle.grammar.specs.Turns.{Step, gives, given, perform, peek_key, judged, step}
use Rattle.grammar.specs.Reading.{Mark}
use Rattle.render.specs.Pieces.{Said, said}
use Rattle.render.specs.Plain.{Plain}
use Rattle.render.specs.Says.{says_all, holds_all, gives_all}
use Rattle.render.specs.Forms.{Form, form, row_forms, forms_in, form_for, begins, said_in}
use Rattle.render.specs.Fit.{emptied, alike, suits, has_room}
use Rattle.render.proofs.Forms.{form_kind, form_only}
use Rattle.render.proofs.Stands.{standing, Like, ends_no_name, follows, StatementBack}
use Rattle.render.proofs.TakersBack.{headed, starts, held_kind, held_bytes, Back, back_then, take_back, expect_back}
use Rattle.render.proofs.LineTokens.{says_start}
use Rattle.render.proofs.Legible.{leads, no_semi, no_word, legible, led}
use Rattle.render.proofs.ItemsBack.{Same, held_first, items_back}
use Rattle.render.proofs.RowsBack.{legible_rows, legible_body, all_legible, Begun, Of, of_begin, of_old, of_legible, stated}

-- WHAT FOLLOWS

pub follows_start : (is : List Item) (us : List Said) → follows is us ≡ true → starts us ≡ true
follows_start is [] e = absurd (false≢true e)
follows_start is (u ∷ us) e = (both (not (eqb u.kind bad)) (not (ends_no_name is) || no_word u.kind) e).0

follows_quiet : (is : List Item) (us : List Said) → follows is us ≡ true → ends_no_name is ≡ true → headed no_word us ≡ true
follows_quiet is [] e q = absurd (false≢true e)
follows_quiet is (u ∷ us) e q = rw q at (both (not (eqb u.kind bad)) (not (ends_no_name is) || no_word u.kind) e).1

-- A RECORD

-- a step that gives what r says
abbrev Gives : Frame ℕ → Ahead ℕ Mark → Plain → List Said → Move → Step ℕ Mark (Rec ℕ) → Type 0
Gives f a r us mv s = (q : Rec ℕ) × (b : Ahead ℕ Mark) × (s ≡ gives mv q b) × Like q r × (q.at ≡ a.held.at) × (q.owner ≡ f.at) × (standing b ≡ us)

module _ (v : ℕ) (f : Frame ℕ) (a : Ahead ℕ Mark) where
  -- what an act does, up to its form
  performed : (w : String) (o : Bool) (act : Act) (m : Form) → Of w o act m → not m.old || leb v 5400000 ≡ true → (taken : Answer ℕ Mark (Tok ℕ Mark)) (p : Mark)
      → perform v f a taken p act ≡ given m.move (then taken (λ t b. items 0 f m.items (blank m.kind f a) b))
  unfolding perform
  performed w o (statement k is mv) m e h taken p = rw e
  performed w o (close is) m e h taken p = absurd e
  performed w o (refuse n) m e h taken p = absurd e
  performed w o back m e h taken p = absurd e
  performed w o (up_to54 act) m e h taken p =
      let y : leb v 5400000 ≡ true = rw (of_old w act m e) at h in
      rw y (performed w true act m e h taken p)

  -- a row that the token held begins
  module _ (t : Bool) (rows : List Row) (w : String) (act : Act) (begun : Begun t rows w act) (ts : List Said) where
    pub keyed_row : (n : ℕ) → t ≡ true → standing a ≡ said Kind.name (bytes w) ∷ ts → step v f a (keyed n rows) ≡ perform v f a (next_token a) a.held.mark act
    unfolding step peek_key
    keyed_row n e z =
        let k : is_key (word w) ≡ true = (rw e at begun).key in
        rw (held_kind a (said Kind.name (bytes w)) ts z, held_bytes a (said Kind.name (bytes w)) ts z, k, begun.acts n)

    pub judged_row : (taken : Answer ℕ Mark (Tok ℕ Mark)) → Back (λ u. u.bytes ≡ bytes w) ts taken → (p : Mark) × (judged v f a rows taken ≡ perform v f a taken p act)
    judged_row (ok u b) h = (b.held.mark, rw (h.0, begun.acts 5))
    judged_row (refused n p) h = absurd h

  module _ (r : Plain) (m : Form) (us : List Said) (fit : suits f m r ≡ true) (k : m.kind ≡ r.kind) (s : legible m.kind 0 false false m.items ≡ true) (g : follows m.items us ≡ true) where
    abbrev Read : Draft ℕ → Type 0
    Read d = Same r.kind a.held.at f.at d (gives_all 0 m.items r (emptied r))

    abbrev tokens : List Said
    tokens = says_all 0 f.label m.items r ++ us

    fits : (holds_all 0 f.label f.lacks m.items r ≡ true) × (alike (gives_all 0 m.items r (emptied r)) r ≡ true)
    unfolding suits
    fits = both (holds_all 0 f.label f.lacks m.items r) (alike (gives_all 0 m.items r (emptied r)) r) fit

    -- the items of the form
    read : (b : Ahead ℕ Mark) → standing b ≡ tokens → Back Read us (items 0 f m.items (blank m.kind f a) b)
    read b z =
        items_back f r a.held.at f.at us (follows_start m.items us g) 0 m.items false false (rw k at s) (blank m.kind f a) (emptied r)
        (record { kind = k; at = refl; owned = refl; code = refl; name = refl; x = refl; y = refl })
        (λ e. absurd (false≢true e)) (λ e. absurd (false≢true e)) fits.0 (follows_quiet m.items us g) b z

    liked : (d : Draft ℕ) → Read d → Like d.rec r
    liked d h =
        let n = gives_all 0 m.items r (emptied r) in
        let (c, i) = both (eqb n.code r.code) (Words.same n.name r.name && (eqb n.x r.x && eqb n.y r.y)) fits.1 in
        let (l, j) = both (Words.same n.name r.name) (eqb n.x r.x && eqb n.y r.y) i in
        let (x, y) = both (eqb n.x r.x) (eqb n.y r.y) j in
        record {
          kind = h.kind;
          code = h.code ∙ eqb-true n.code r.code c;
          name = h.name ∙ same_eq n.name r.name l;
          x = h.x ∙ eqb-true n.x r.x x;
          y = h.y ∙ eqb-true n.y r.y y;
        }

    gave : (t : Answer ℕ Mark (Draft ℕ)) → Back Read us t → Gives f a r us m.move (given m.move t)
    gave (ok d b) h = (d.rec, b, refl, liked d h.0, h.0.at, h.0.owned, h.1)
    gave (refused n p) h = absurd h

    -- after its first word
    worded_gives : (P : Tok ℕ Mark → Type 0) (taken : Answer ℕ Mark (Tok ℕ Mark)) (p : Mark) (w : String) (act : Act) → Back P tokens taken → Of w false act m → not m.old || leb v 5400000 ≡ true
        → Gives f a r us m.move (perform v f a taken p act)
    worded_gives P taken p w act h o y =
        rw (performed w false act m o y taken p)
        (gave (then taken (λ t b. items 0 f m.items (blank m.kind f a) b)) (back_then P Read tokens us taken (λ t b. items 0 f m.items (blank m.kind f a) b) h (λ t b e z. read b z)))

    -- without one
    part_gives : (t : Bool) (u : Step ℕ Mark (Rec ℕ)) → t ≡ false → m.move ≡ stay → standing a ≡ tokens
        → Gives f a r us m.move (cond t u (given stay (items 0 f m.items (blank m.kind f a) a)))
    part_gives true u e y z = absurd (false≢true (sym e))
    part_gives false u e y z = rw (← y) (gave (items 0 f m.items (blank m.kind f a) a) (read a z))

module _ (v : ℕ) (f : Frame ℕ) (r : Plain) (m : Form) (a : Ahead ℕ Mark) (us : List Said) (fit : suits f m r ≡ true) (g : follows m.items us ≡ true)
    (old : not m.old || leb v 5400000 ≡ true) (z : standing a ≡ said_in f.label m r ++ us) where
  abbrev Given : Body → Type 0
  Given b = Gives f a r us m.move (step v f a b)

  abbrev rest : List Said
  rest = says_all 0 f.label m.items r ++ us

  -- where a word begins the form, and where none does
  after_word : (w : String) → m.begin ≡ w ∷ [] → standing a ≡ said Kind.name (bytes w) ∷ rest
  unfolding said_in begins
  after_word w e = rw e at z

  at_once : m.begin ≡ [] → standing a ≡ rest
  unfolding said_in begins
  at_once e = rw e at z

  rest_start : starts rest ≡ true
  rest_start = says_start f.label r us (follows_start m.items us g) 0 m.items

  -- in rows whose word is taken before it is looked at
  judged_gives : (rows : List Row) → legible_rows false rows ≡ true → form_for r (row_forms rows) ≡ some m → Gives f a r us m.move (judged v f a rows (get_name a))
  judged_gives rows s e =
      let (w, act, b, o) = stated r m false rows s e in
      let y = after_word w (of_begin w false act m o) in
      let n = expect_back a (said Kind.name (bytes w)) rest y rest_start Kind.name refl in
      let (p, q) = judged_row v f a false rows w act b rest (get_name a) n in
      rw q
      (worded_gives v f a r m us fit (form_kind r (row_forms rows) m e) (of_legible w false act m o b.legible) g (λ u. u.bytes ≡ bytes w) (get_name a) p w act n o old)

  not_semi : (w : String) → m.begin ≡ w ∷ [] → matches Kind.semicolon a ≡ false
  not_semi w e = rw (held_kind a (said Kind.name (bytes w)) rest (after_word w e))

  body_gives : (b : Body) → legible_body b ≡ true → form_for r (forms_in b) ≡ some m → has_room f b ≡ true → Given b
  unfolding legible_body forms_in step
  body_gives (keyed n rows) s e h =
      let (w, act, b, o) = stated r m true rows s e in
      let y = after_word w (of_begin w false act m o) in
      rw (keyed_row v f a true rows w act b rest n refl y)
      (worded_gives v f a r m us fit (form_kind r (row_forms rows) m e) (of_legible w false act m o b.legible) g (λ u. u ≡ a.held) (next_token a) a.held.mark w act
      (take_back a (said Kind.name (bytes w)) rest y rest_start) o old)
  body_gives (worded rows) s e h = judged_gives rows s e
  body_gives (options rows c) s e h =
      let (w, act, b, o) = stated r m false rows s e in
      rw (not_semi w (of_begin w false act m o)) (judged_gives rows s e)
  body_gives (parts k is) s e h =
      let q = form_only r (form k [] is stay false) m e in
      let i : m.items ≡ is = rw q in
      let l : m.kind ≡ k = rw q in
      let y = at_once (rw q) in
      let (n, o) = both (leads no_semi 0 is) (legible k 0 false false is) s in
      rw (← i, ← l)
      (part_gives v f a r m us fit (form_kind r (forms_in (parts k is)) m e) (rw (i, l) o) g (matches Kind.semicolon a) _ (not-true _ (held_first no_semi a rest y (led f.label r us no_semi 0 m.items (rw i n)))) (rw q) y)
  body_gives (counted k is) s e h =
      let q = form_only r (form k [] is stay false) m e in
      let i : m.items ≡ is = rw q in
      let l : m.kind ≡ k = rw q in
      rw (← i, ← l)
      (part_gives v f a r m us fit (form_kind r (forms_in (counted k is)) m e) (rw (i, l) s) g (empty f.lacks) _ (not-true _ h) (rw q) (at_once (rw q)))

-- A STATEMENT IS READ AS ITS RECORD
pub statement_back : StatementBack
statement_back v f m r a us e h z g =
    let (old, i) = both (not m.old || leb v 5400000) (has_room f (body f.block) && suits f m r) h in
    let (room, fit) = both (has_room f (body f.block)) (suits f m r) i in
    body_gives v f r m a us fit g old z (body f.block) (all_legible f.block) e room
