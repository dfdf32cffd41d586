-- WHERE A BLOCK IS WRITTEN TO END, ITS READING ENDS: by its last words, by a `;`, or before a word of the block around.
use Prim.Native.Nat.{ℕ}
use mathlib.Core.Path.{◌≡◌, refl, sym}
use mathlib.Core.Bool.{true, false, not, false≢true}
use mathlib.Core.List.{List, [], ◌∷◌, ◌++◌}
use borrow.Author.Tests.{not-true}
use Rattle.text.specs.Text.{bytes}
use Rattle.lexer.specs.Kinds as Kind
use Rattle.word.specs.Words.{word_of, is_key}
use Rattle.word.proofs.Words.{both}
use Rattle.grammar.specs.Tokens.{Tok, Ahead, Answer, ok, refused, then, next_token, matches}
use Rattle.grammar.specs.Grammar.{Block, Item, semi, whole, Act, statement, close, refuse, back, up_to54, Row, Body, keyed, worded, options, parts, counted}
use Rattle.grammar.specs.Table.{body}
use Rattle.grammar.specs.Engine.{Maybe, none, some, Rec, Draft, Frame, blank, get_name, items}
use Rattle.grammar.specs.Turns.{Step, ends, goes, backs, ended, gone, act_for, perform, peek_key, judged, step}
use Rattle.grammar.specs.Reading.{Mark}
use Rattle.render.specs.Pieces.{Said, said}
use Rattle.render.specs.Says.{semicolon, says, omitted, says_all, holds, holds_all, gives_all}
use Rattle.render.specs.Forms.{Close, close_of, nobody, last_words}
use Rattle.render.specs.Fit.{is_back, closes, ends_before}
use Rattle.render.proofs.Stands.{standing, ends_no_name, is_some, has_last, last_of, LastBack, OptionsBack, BeforeBack}
use Rattle.render.proofs.TakersBack.{starts, held_kind, Back, back_then, take_back, expect_back}
use Rattle.render.proofs.LineTokens.{says_start}
use Rattle.render.proofs.Legible.{legible}
use Rattle.render.proofs.ItemsBack.{Same, items_back}
use Rattle.render.proofs.RowsBack.{legible_act, legible_rows, legible_body, all_legible, closed}
use Rattle.render.proofs.StepsBack.{follows_start, keyed_row, judged_row}

semi_held : (a : Ahead ℕ Mark) (us : List Said) → standing a ≡ semicolon ∷ us → matches Kind.semicolon a ≡ true
semi_held a us z = rw (held_kind a semicolon us z)

module _ (v : ℕ) (f : Frame ℕ) (a : Ahead ℕ Mark) (us : List Said) (g : starts us ≡ true) where
  abbrev Ends : Step ℕ Mark (Rec ℕ) → Type 0
  Ends s = (b : Ahead ℕ Mark) × (s ≡ ends b) × (standing b ≡ us)

  -- LAST ITEMS, which have no record

  abbrev Read : List Item → Draft ℕ → Type 0
  Read is d = Same 0 a.held.at f.at d (gives_all 0 is nobody nobody)

  abbrev asked : List Item → Type 0
  asked is = holds_all 0 f.label f.lacks is nobody ≡ true

  read : (is : List Item) → legible 0 0 false false is ≡ true → ends_no_name is ≡ false → asked is → (b : Ahead ℕ Mark) → standing b ≡ says_all 0 f.label is nobody ++ us
      → Back (Read is) us (items 0 f is (blank 0 f a) b)
  read is s n h b z =
      items_back f nobody a.held.at f.at us g 0 is false false s (blank 0 f a) nobody
      (record { kind = refl; at = refl; owned = refl; code = refl; name = refl; x = refl; y = refl })
      (λ e. absurd (false≢true e)) (λ e. absurd (false≢true e)) h (λ e. absurd (false≢true (rw n at e))) b z

  done : (P : Draft ℕ → Type 0) (t : Answer ℕ Mark (Draft ℕ)) → Back P us t → Ends (ended t)
  done P (ok d b) h = (b, refl, h.1)
  done P (refused n p) h = absurd h

  -- LAST WORDS

  module _ (c : Close) (s : legible_act (close c.items) ≡ true) (h : asked c.items) where
    abbrev rest : List Said
    rest = says_all 0 f.label c.items nobody ++ us

    rest_start : starts rest ≡ true
    rest_start = says_start f.label nobody us g 0 c.items

    performed : (P : Tok ℕ Mark → Type 0) (taken : Answer ℕ Mark (Tok ℕ Mark)) (p : Mark) → Back P rest taken → Ends (perform v f a taken p (close c.items))
    unfolding perform legible_act
    performed P taken p k =
        let (o, n) = both (legible 0 0 false false c.items) (not (ends_no_name c.items)) s in
        done (Read c.items) (then taken (λ t b. items 0 f c.items (blank 0 f a) b))
        (back_then P (Read c.items) rest us taken (λ t b. items 0 f c.items (blank 0 f a) b) k (λ t b e z. read c.items o (not-true _ n) h b z))

  keyed_ends : (n : ℕ) (rows : List Row) (act : Act) → legible_rows true rows ≡ true → (c : Maybe Close) → close_of rows ≡ c → is_some c ≡ true → closes f c act ≡ true
      → standing a ≡ last_words f.label c ++ us → Ends (step v f a (keyed n rows))
  unfolding last_words
  keyed_ends n rows act s none e i h z = absurd (false≢true i)
  keyed_ends n rows act s (some c) e i h z =
      let b = closed true rows c s e in
      rw (keyed_row v f a true rows c.word (close c.items) b (rest c b.legible h) n refl z)
      (performed c b.legible h (λ u. u ≡ a.held) (next_token a) a.held.mark (take_back a (said Kind.name (bytes c.word)) (rest c b.legible h) z (rest_start c b.legible h)))

  judged_ends : (rows : List Row) (act : Act) → legible_rows false rows ≡ true → (c : Maybe Close) → close_of rows ≡ c → is_some c ≡ true → closes f c act ≡ true
      → standing a ≡ last_words f.label c ++ us → Ends (judged v f a rows (get_name a))
  unfolding last_words
  judged_ends rows act s none e i h z = absurd (false≢true i)
  judged_ends rows act s (some c) e i h z =
      let b = closed false rows c s e in
      let k = expect_back a (said Kind.name (bytes c.word)) (rest c b.legible h) z (rest_start c b.legible h) Kind.name refl in
      let (p, q) = judged_row v f a false rows c.word (close c.items) b (rest c b.legible h) (get_name a) k in
      rw q (performed c b.legible h (λ u. u.bytes ≡ bytes c.word) (get_name a) p k)

  -- ANY BODY

  body_ends : (w : ℕ) (b : Body) → legible_body b ≡ true → has_last b ≡ true → ends_before w f b ≡ true → standing a ≡ last_of f.label b ++ us → Ends (step v f a b)
  unfolding legible_body step legible ends_no_name says_all says omitted holds_all holds
  body_ends w (keyed n rows) s i h z = keyed_ends n rows (act_for n w rows) s (close_of rows) refl i h z
  body_ends w (worded rows) s i h z = judged_ends rows (refuse 0) s (close_of rows) refl i h z
  body_ends w (options rows c) s i h z = absurd (false≢true i)
  body_ends w (parts k is) s i h z =
      let l : List Item = whole 6 ∷ semi ∷ [] in
      rw (semi_held a us z) (done (Read l) (items 0 f l (blank 0 f a) a) (read l refl refl (rw h) a z))
  body_ends w (counted k is) s i h z =
      let l : List Item = semi ∷ [] in
      rw h (done (Read l) (items 0 f l (blank 0 f a) a) (read l refl refl refl a z))

  gone_goes : (c : Block) (t : Answer ℕ Mark (Tok ℕ Mark)) → Back (λ u. u ≡ a.held) us t → (b : Ahead ℕ Mark) × (◌≡◌ {A = Step ℕ Mark (Rec ℕ)} (gone c t) (goes c b)) × (standing b ≡ us)
  gone_goes c (ok t b) h = (b, refl, h.1)
  gone_goes c (refused n p) h = absurd h

-- LAST WORDS ARE READ AS THE END OF THEIR BLOCK
pub last_back : LastBack
last_back v w f a us i h z g = body_ends v f a us (follows_start [] us g) w (body f.block) (all_legible f.block) i h z

-- A `;` AFTER OPTIONS IS READ AS THEIR END
pub options_back : OptionsBack
unfolding step
options_back v f rows c a us e z g =
    rw (e, semi_held a us z) (gone_goes v f a us (follows_start [] us g) c (next_token a) (take_back a semicolon us z (follows_start [] us g)))

-- A WORD OF THE BLOCK AROUND IS READ AS THE END OF A BLOCK WITHOUT LAST WORDS
acts_back : (act : Act) → is_back act ≡ true → act ≡ back
acts_back (statement k is m) e = absurd (false≢true e)
acts_back (close is) e = absurd (false≢true e)
acts_back (refuse n) e = absurd (false≢true e)
acts_back back e = refl
acts_back (up_to54 act) e = absurd (false≢true e)

module _ (v : ℕ) (f : Frame ℕ) (a : Ahead ℕ Mark) (n : a.held.kind ≡ Kind.name) (k : is_key (word_of a.held.bytes) ≡ true) where
  closes_back : (c : Maybe Close) (act : Act) → is_some c ≡ false → closes f c act ≡ true → is_back act ≡ true
  closes_back none act i h = h
  closes_back (some c) act i h = absurd (false≢true (sym i))

  body_backs : (b : Body) → has_last b ≡ false → ends_before (word_of a.held.bytes) f b ≡ true → step v f a b ≡ backs
  unfolding step peek_key perform
  body_backs (keyed m rows) i h = rw (n, k, acts_back (act_for m (word_of a.held.bytes) rows) (closes_back (close_of rows) (act_for m (word_of a.held.bytes) rows) i h))
  body_backs (worded rows) i h = absurd (false≢true (closes_back (close_of rows) (refuse 0) i h))
  body_backs (options rows c) i h = absurd (false≢true h)
  body_backs (parts m is) i h = absurd (false≢true (sym i))
  body_backs (counted m is) i h = absurd (false≢true (sym i))

pub before_back : BeforeBack
before_back v f a i n k h = body_backs v f a n k (body f.block) i h
