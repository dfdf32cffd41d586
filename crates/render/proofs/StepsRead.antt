-- What a step of the reader takes can be written: by the cases of the block's body, whose forms and last words the table is tested for.
use Prim.Native.Nat.{ℕ}
use mathlib.Core.Path.{◌≡◌, refl, sym, ap, subst, ◌∙◌}
use mathlib.Core.Bool.{Bool, true, false, not, ◌&&◌, ◌||◌}
use mathlib.Core.List.Memᴰ
use mathlib.Core.List.{List, [], ◌∷◌}
use borrow.Author.Tests.{eq-eqb, not-true}
use Rattle.lexer.specs.Kinds as Kind
use Rattle.word.specs.Words.{keys, values, words, raised, upper, same, first_where, word_of, is_key}
use Rattle.word.specs.Codes.{kind_values, values_in, values_of, place_of, code_of}
use Rattle.word.proofs.Words.{both, clash, same_refl}
use Rattle.grammar.specs.Tokens.{Tok, Ahead, Answer, ok, refused, next_token, matches}
use Rattle.grammar.specs.Grammar.{Block, Item, semi, whole, stay, Act, Row, Body, keyed, worded, options, parts, counted}
use Rattle.grammar.specs.Table.{body}
use Rattle.grammar.specs.Engine.{Maybe, none, some, Rec, Draft, Frame, blank, get_name, empty, items}
use Rattle.grammar.specs.Second.{goes_on}
use Rattle.grammar.specs.Turns.{Step, gives, ends, goes, backs, halts, given, ended, gone, act_for, perform, peek_key, judged, step}
use Rattle.grammar.specs.Standing.{Every}
use Rattle.grammar.specs.Reading.{Mark}
use Rattle.grammar.proofs.Blocks.{at_block}
use Rattle.grammar.proofs.Takes.{numbered}
use Rattle.grammar.proofs.Codes as Codes
use Rattle.grammar.proofs.Listed.{skip}
use Rattle.grammar.proofs.Kept.{here, all, take_taken, expect_taken}
use Rattle.render.specs.Spelt as Spelt
use Rattle.render.specs.Plain.{Plain}
use Rattle.render.specs.Says as Says
use Rattle.render.specs.Says.{holds_all, gives_all}
use Rattle.render.specs.Forms.{Form, form, forms_of, row_forms, forms_in, is_of, Close, close_of, nobody}
use Rattle.render.specs.Lines.{on_line, form_in}
use Rattle.render.specs.Fit.{alike, emptied, suits, takes, has_room, is_back, closes, ends_before, last_word}
use Rattle.render.proofs.Tested.{or_left}
use Rattle.render.proofs.All.{all_member}
use Rattle.render.proofs.Every.{every_suf}
use Rattle.render.proofs.Forms.{act_passes}
use Rattle.render.proofs.Stands.{Good, plain_rec, is_some, has_last, StatementRead, LastRead, OptionsRead, BeforeRead}
use Rattle.render.proofs.Fields as Fields
use Rattle.render.proofs.ItemRead.{plain, ready}
use Rattle.render.proofs.OmittedRead.{proves, proven, fades, optional}
use Rattle.render.proofs.ItemsRead.{writable, kind_kept, statement_items}
use Rattle.render.proofs.FormsRead.{leading, of_code_lem, differ, distinct, its_form, unasking, holds_nobody}
use Rattle.render.proofs.RowsRead as Rows
use Rattle.render.proofs.RowsRead.{inner, shut, orderly, no_last, Ran, Came, runs, Gave, by_cond, held, Closed, RowsAct, rows_act, judged_act}

-- A TEST OF THE TABLE

-- the items of a form can be written where they were read
unfoldable fit : Form → Bool
fit m = writable m.kind 0 [] m.items

-- last words ask nothing of a record
unfoldable last_fit : Maybe Close → Bool
last_fit none = true
last_fit (some c) = writable 0 0 [] c.items && unasking c.items

-- no row gives what is ahead back to the block around, where the block has last words
unfoldable stays : Bool → Act → Bool
stays last act = not (is_back act) || not last

abbrev all_stay : Bool → List Row → Bool
all_stay last rows = Spelt.all (λ w. stays last w.act) rows

unfoldable rows_fit : Body → Bool
rows_fit (keyed n rows) = (orderly rows && all_stay (is_some (close_of rows)) rows) && last_fit (close_of rows)
rows_fit (worded rows) = (orderly rows && all_stay true rows) && last_fit (close_of rows)
rows_fit (options rows b) = (orderly rows && all_stay true rows) && not (is_some (close_of rows))
rows_fit (parts k is) = true
rows_fit (counted k is) = true

unfoldable proper : Body → Bool
proper b = (distinct (forms_in b) && Spelt.all fit (forms_in b)) && rows_fit b

all_proper : (b : Block) → proper (body b) ≡ true
unfolding proper rows_fit stays last_fit fit writable unasking distinct differ leading Says.gives forms_in row_forms forms_of close_of Spelt.all orderly Rows.plain inner shut numbered ready optional skip proven proves fades Says.shows Fields.given Fields.asked Fields.untouched Codes.keyed_seconds Codes.goes goes_on keys values words raised upper same first_where word_of kind_values values_in values_of place_of code_of empty
all_proper = at_block proper refl

-- WHAT A STEP SAYS

module _ (v : ℕ) (f : Frame ℕ) (a : Ahead ℕ Mark) where
  -- what a step of a block with this body makes of what is ahead can be written
  abbrev Writes : Body → Step ℕ Mark (Rec ℕ) → Type 0
  Writes body (gives mv q b) = (u : ℕ) × Gave v f a (forms_in body) u mv q b × (has_room f body ≡ true) × (on_line body ≡ false → u ≡ held v f a)
  Writes body (ends b) = Every Good (all a) → (has_last body ≡ true) × ((u : ℕ) → ends_before u f body ≡ true) × (on_line body ≡ false → last_word body ≡ held v f a)
  Writes body (goes c b) = (rows : List Row) × (body ≡ options rows c)
  Writes body backs = (has_last body ≡ false) × (on_line body ≡ false) × (ends_before (held v f a) f body ≡ true)
  Writes body (halts n p) = Unit {0}

  -- last words that were read are the block's
  last_holds : (rows : List Row) (b : Ahead ℕ Mark) → last_fit (close_of rows) ≡ true → Closed v f a rows b → Every Good (all a)
      → (c : Close) × (close_of rows ≡ some c) × (last_word (worded rows) ≡ held v f a) × (holds_all 0 f.label f.lacks c.items nobody ≡ true)
  unfolding last_fit
  last_holds rows b l h g =
      let (c, e, u, d, r) = h in
      let l : last_fit (some c) ≡ true = rw e at l in
      let (s, t) = both (writable 0 0 [] c.items) (unasking c.items) l in
      let i = statement_items f 0 c.items a r.ahead b d s (every_suf Good r.suffix g) r.was in
      (c, e, rw e u, holds_nobody f.label f.lacks (plain d) (kind_kept f i) c.items t i.holds)

  no_back : (n : ℕ) (rows : List Row) (last : Bool) → all_stay last rows ≡ true → is_back (act_for n (held v f a) rows) ≡ true → last ≡ false
  unfolding stays
  no_back n rows last s b = not-true last (or_left (is_back (act_for n (held v f a) rows)) b (act_passes (λ u act. stays last act) n (held v f a) rows refl s))

  keyed_writes : (n : ℕ) (rows : List Row) → all_stay (is_some (close_of rows)) rows ≡ true → last_fit (close_of rows) ≡ true
      → (s : Step ℕ Mark (Rec ℕ)) → RowsAct v f a rows (act_for n (held v f a) rows) s → Writes (keyed n rows) s
  unfolding forms_in on_line
  keyed_writes n rows t l (gives mv q b) h = (held v f a, h, refl, λ o. refl)
  keyed_writes n rows t l (ends b) h = λ g. let (c, e, u, k) = last_holds rows b l h g in (rw e, λ u. rw e k, λ o. u)
  keyed_writes n rows t l (goes c b) h = absurd h
  keyed_writes n rows t l backs h = let e = no_back n rows (is_some (close_of rows)) t h in (e, refl, none_closes (close_of rows) e (act_for n (held v f a) rows) h)
    where
      none_closes : (m : Maybe Close) → is_some m ≡ false → (act : Act) → is_back act ≡ true → closes f m act ≡ true
      none_closes none e act h = h
      none_closes (some c) e act h = clash e
  keyed_writes n rows t l (halts k p) h = tt

  worded_writes : (rows : List Row) → all_stay true rows ≡ true → last_fit (close_of rows) ≡ true
      → (s : Step ℕ Mark (Rec ℕ)) → RowsAct v f a rows (act_for 5 (held v f a) rows) s → Writes (worded rows) s
  unfolding forms_in on_line
  worded_writes rows t l (gives mv q b) h = (held v f a, h, refl, λ o. refl)
  worded_writes rows t l (ends b) h = λ g. let (c, e, u, k) = last_holds rows b l h g in (rw e, λ u. rw e k, λ o. u)
  worded_writes rows t l (goes c b) h = absurd h
  worded_writes rows t l backs h = clash (no_back 5 rows true t h)
  worded_writes rows t l (halts k p) h = tt

  options_write : (rows : List Row) (c : Block) → all_stay true rows ≡ true → is_some (close_of rows) ≡ false
      → (s : Step ℕ Mark (Rec ℕ)) → RowsAct v f a rows (act_for 5 (held v f a) rows) s → Writes (options rows c) s
  unfolding forms_in on_line
  options_write rows c t l (gives mv q b) h = (held v f a, h, refl, λ o. refl)
  options_write rows c t l (ends b) h = absurd (let (m, e, u, d, r) = h in no_last rows m l e)
  options_write rows c t l (goes d b) h = absurd h
  options_write rows c t l backs h = clash (no_back 5 rows true t h)
  options_write rows c t l (halts k p) h = tt

  gone_writes : (rows : List Row) (c : Block) (taken : Answer ℕ Mark (Tok ℕ Mark)) → Writes (options rows c) (gone c taken)
  gone_writes rows c (ok t b) = (rows, refl)
  gone_writes rows c (refused n p) = tt

  -- a part of a block that is made of parts
  part_gave : (k : ℕ) (is : List Item) (d : Draft ℕ) (b : Ahead ℕ Mark) → Ran v f a k is d b → Gave v f a (form k [] is stay false ∷ []) 0 stay d.rec b
  part_gave k is d b r =
      record { form = form k [] is stay false; member = Memᴰ.head refl; move = refl; allowed = refl; begins = refl; draft = d; ran = r; rec = refl }

  parts_give : (k : ℕ) (is : List Item) (t : Answer ℕ Mark (Draft ℕ)) → Came v f a (Ran v f a k is) t → Writes (parts k is) (given stay t)
  unfolding forms_in on_line
  parts_give k is (ok d b) r = (0, part_gave k is d b r, refl, λ o. clash o)
  parts_give k is (refused n p) r = tt

  counted_give : (k : ℕ) (is : List Item) → empty f.lacks ≡ false → (t : Answer ℕ Mark (Draft ℕ)) → Came v f a (Ran v f a k is) t → Writes (counted k is) (given stay t)
  unfolding forms_in on_line
  counted_give k is e (ok d b) r = (0, part_gave k is d b r, rw e, λ o. clash o)
  counted_give k is e (refused n p) r = tt

  parts_end : (k : ℕ) (is : List Item) (t : Answer ℕ Mark (Draft ℕ)) → Came v f a (Ran v f a 0 (whole 6 ∷ semi ∷ [])) t → Writes (parts k is) (ended t)
  unfolding on_line writable numbered ready optional skip Fields.asked Fields.untouched Fields.given holds_all Says.holds Says.omitted
  parts_end k is (ok d b) r = λ g.
      let i = statement_items f 0 (whole 6 ∷ semi ∷ []) a r.ahead b d refl (every_suf Good r.suffix g) r.was in
      (refl, λ u. (both (empty f.lacks) true i.holds).0, λ o. clash o)
  parts_end k is (refused n p) r = tt

  counted_end : (k : ℕ) (is : List Item) → empty f.lacks ≡ true → (t : Answer ℕ Mark (Draft ℕ)) → Writes (counted k is) (ended t)
  unfolding on_line
  counted_end k is e (ok d b) = λ g. (refl, λ u. e, λ o. clash o)
  counted_end k is e (refused n p) = tt

  step_writes : (b : Body) → rows_fit b ≡ true → Writes b (step v f a b)
  unfolding step peek_key rows_fit
  step_writes (keyed n rows) e =
      let (u, l) = both (orderly rows && all_stay (is_some (close_of rows)) rows) (last_fit (close_of rows)) e in
      let (o, s) = both (orderly rows) (all_stay (is_some (close_of rows)) rows) u in
      let p = a.held.mark in
      let t = perform v f a (next_token a) p (act_for n (held v f a) rows) in
      by_cond v f a (Writes (keyed n rows)) (matches Kind.name a) _ (halts 4 p)
      (λ q. by_cond v f a (Writes (keyed n rows)) (is_key (held v f a)) t (halts 5 p)
      (λ q. keyed_writes n rows s l t (rows_act v f a n p (next_token a) (take_taken a) rows o)) (λ q. tt)) (λ q. tt)
  step_writes (worded rows) e =
      let (u, l) = both (orderly rows && all_stay true rows) (last_fit (close_of rows)) e in
      let (o, s) = both (orderly rows) (all_stay true rows) u in
      worded_writes rows s l (judged v f a rows (get_name a)) (judged_act v f a rows o (get_name a) (expect_taken Kind.name a))
  step_writes (options rows c) e =
      let (u, l) = both (orderly rows && all_stay true rows) (not (is_some (close_of rows))) e in
      let (o, s) = both (orderly rows) (all_stay true rows) u in
      by_cond v f a (Writes (options rows c)) (matches Kind.semicolon a) (gone c (next_token a)) (judged v f a rows (get_name a)) (λ p. gone_writes rows c (next_token a))
      (λ p. options_write rows c s (not-true _ l) (judged v f a rows (get_name a)) (judged_act v f a rows o (get_name a) (expect_taken Kind.name a)))
  step_writes (parts k is) e =
      let t = items 0 f (whole 6 ∷ semi ∷ []) (blank 0 f a) a in
      let u = items 0 f is (blank k f a) a in
      by_cond v f a (Writes (parts k is)) (matches Kind.semicolon a) (ended t) (given stay u)
      (λ p. parts_end k is t (runs v f a 0 (whole 6 ∷ semi ∷ []) a here)) (λ p. parts_give k is u (runs v f a k is a here))
  step_writes (counted k is) e =
      let t = items 0 f (semi ∷ []) (blank 0 f a) a in
      let u = items 0 f is (blank k f a) a in
      by_cond v f a (Writes (counted k is)) (empty f.lacks) (ended t) (given stay u)
      (λ p. counted_end k is p t) (λ p. counted_give k is p u (runs v f a k is a here))

  -- the step of the block
  writes : (s : Step ℕ Mark (Rec ℕ)) → step v f a (body f.block) ≡ s → Writes (body f.block) s
  unfolding proper
  writes s h =
      let b = body f.block in
      subst (Writes b) h (step_writes b (both (distinct (forms_in b) && Spelt.all fit (forms_in b)) (rows_fit b) (all_proper f.block)).1)

-- WHAT IS READ CAN BE WRITTEN

alike_self : (r : Plain) → alike r r ≡ true
alike_self r = rw (eq-eqb r.code r.code refl, same_refl r.name, eq-eqb r.x r.x refl, eq-eqb r.y r.y refl)

-- a record that was read in a form suits it
read_suits : (f : Frame ℕ) (a b c : Ahead ℕ Mark) (m : Form) (d : Draft ℕ) → fit m ≡ true → Every Good (all c) → items 0 f m.items (blank m.kind f a) c ≡ ok d b
    → (is_of (plain d) m ≡ true) × (suits f m (plain d) ≡ true)
unfolding fit is_of suits
read_suits f a b c m d e g h =
    let i = statement_items f m.kind m.items a c b d e g h in
    let r = plain d in
    let same : gives_all 0 m.items r (emptied r) ≡ r = ap (gives_all 0 m.items r) i.keeps ∙ i.given in (
      rw (eq-eqb m.kind r.kind (sym (kind_kept f i))) (of_code_lem f.label f.lacks r m.items i.holds),
      rw i.holds (subst (λ q. alike q r ≡ true) (sym same) (alike_self r)),
    )

pub statement_read : StatementRead
unfolding proper
statement_read v f a mv q b h g =
    let (u, w, room, line) = writes v f a (gives mv q b) h in
    let m = w.form in
    let forms = forms_in (body f.block) in
    let (differs, fits) = both (distinct forms) (Spelt.all fit forms) (both (distinct forms && Spelt.all fit forms) (rows_fit (body f.block)) (all_proper f.block)).0 in
    let (its, suit) = read_suits f a b w.ran.ahead m w.draft (all_member fit w.member fits) (every_suf Good w.ran.suffix g) w.ran.was in (
      m,
      subst (λ q. form_in f (plain_rec q) ≡ some m) w.rec (its_form (plain w.draft) w.member differs its),
      w.move,
      subst (λ q. takes v f (plain_rec q) (some m) ≡ true) w.rec (rw (w.allowed, room) suit),
      λ o. w.begins ∙ line o,
    )

pub last_read : LastRead
last_read v f a b h g = writes v f a (ends b) h g

pub options_read : OptionsRead
options_read v f a b c h = writes v f a (goes c b) h

pub before_read : BeforeRead
before_read v f a h = writes v f a backs h
