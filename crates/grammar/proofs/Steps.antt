-- What every step of a block gives, by the cases of its body: what the items of a statement or of a part gave, and a token taken.
use Prim.Native.Nat.{ℕ}
use mathlib.Core.Path.{◌≡◌, refl}
use mathlib.Core.Bool.{Bool, true, false, cond, ◌&&◌}
use mathlib.Core.List.{List, [], ◌∷◌}
use lib.Dec.{leb, eqb}
use Rattle.lexer.specs.Kinds as Kind
use Rattle.word.specs.Words.{word_of, word, is_key}
use Rattle.word.proofs.Words.{both}
use Rattle.grammar.specs.Tokens.{Tok, Ahead, Answer, ok, refused, then, next_token, matches}
use Rattle.grammar.specs.Grammar.{Block, Item, semi, whole, Move, stay, Act, statement, close, refuse, back, up_to54, Row, Body, keyed, worded, options, parts, counted}
use Rattle.grammar.specs.Engine.{Rec, Draft, Frame, blank, get_name, items, empty}
use Rattle.grammar.specs.Turns.{Step, gives, ends, goes, backs, halts, given, ended, gone, act_for, perform, peek_key, judged, step}
use Rattle.grammar.proofs.Answers.{ranged, complains, complains_ranged, Ok, Holds}
use Rattle.grammar.proofs.Takes.{all_numbered, eager}
use Rattle.grammar.proofs.Kept.{Suf, here, there, suf_trans, all, Named, Taken, take_taken, expect_taken, Kept, worded_kept, eager_kept, semi_kept, whole_kept}

-- A TEST OF THE TABLE: what gives a record passes the test `fit` of kind and items, each part begins with an item that takes,
-- and each number is one of a complaint

module _ (fit : ℕ → List Item → Bool) where
  unfoldable pub fit_act : Act → Bool
  fit_act (statement k is m) = fit k is && all_numbered is
  fit_act (close is) = all_numbered is
  fit_act (refuse n) = complains n
  fit_act back = true
  fit_act (up_to54 act) = fit_act act

  unfoldable pub fit_rows : List Row → Bool
  fit_rows [] = true
  fit_rows (w ∷ ws) = fit_act w.act && fit_rows ws

  abbrev fit_part : ℕ → List Item → Bool
  fit_part k is = fit k is && (eager is && all_numbered is)

  unfoldable pub fit_body : Body → Bool
  fit_body (keyed n rows) = complains n && fit_rows rows
  fit_body (worded rows) = fit_rows rows
  fit_body (options rows b) = fit_rows rows
  fit_body (parts k is) = fit_part k is
  fit_body (counted k is) = fit_part k is

  pub act_fits : (n k : ℕ) (rows : List Row) → complains n ≡ true → fit_rows rows ≡ true → fit_act (act_for n k rows) ≡ true
  unfolding act_for fit_rows fit_act
  act_fits n k [] r s = r
  act_fits n k (w ∷ ws) r s = let h = both (fit_act w.act) (fit_rows ws) s in go (eqb (word w.begin) k) h.0 (act_fits n k ws r h.1)
    where
      go : (c : Bool) → fit_act w.act ≡ true → fit_act (act_for n k ws) ≡ true → fit_act (cond c w.act (act_for n k ws)) ≡ true
      go true p q = p
      go false p q = q

-- what the items of a statement that passes the test give from tokens of the list ts
abbrev pub Given : {A M : Type 0} → List (Tok A M) → (ℕ → List Item → Bool) → (Rec A → Type 0) → Type 0
Given {A} {M} ts fit P =
    (k : ℕ) (is : List Item) → fit k is ≡ true → (f : Frame A) (a b : Ahead A M) → Suf (all b) ts → Holds (λ d. P d.rec) (items 0 f is (blank k f a) b)

-- A STEP

module _ {A M : Type 0} (P : Rec A → Type 0) where
  -- in the block f, with a ahead, the record r, of which P holds, and then b ahead
  pub record Gives (f : Frame A) (a : Ahead A M) (r : Rec A) (b : Ahead A M) : Type 0 where
    pub at : r.at ≡ a.held.at
    pub owner : r.owner ≡ f.at
    pub name : (ts : List (Tok A M)) → Suf (all a) ts → Named ts r.name
    pub ahead : Suf (all b) a.rest
    pub holds : P r

  -- a step that takes a token where it goes on, or halts with one of 3 to 10
  abbrev pub Stepped : Frame A → Ahead A M → Step A M (Rec A) → Type 0
  Stepped f a (gives m r b) = Gives f a r b
  Stepped f a (ends b) = Suf (all b) a.rest
  Stepped f a (goes c b) = Suf (all b) a.rest
  Stepped f a backs = Unit {0}
  Stepped f a (halts n p) = ranged n ≡ true

  module _ (f : Frame A) (a : Ahead A M) where
    stepped_cond : (c : Bool) (t u : Step A M (Rec A)) → Stepped f a t → Stepped f a u → Stepped f a (cond c t u)
    stepped_cond true t u p q = p
    stepped_cond false t u p q = q

    given_stepped : (k : ℕ) (m : Move) (t : Answer A M (Draft A)) → Ok (Kept (blank k f a) a a.rest) t → Holds (λ d. P d.rec) t → Stepped f a (given m t)
    given_stepped k m (ok d b) h p = record { at = h.at; owner = h.owner; name = λ ts s. h.name ts s tt; ahead = h.ahead; holds = p }
    given_stepped k m (refused n q) h p = h

    ended_stepped : (t : Answer A M (Draft A)) → Ok (Kept (blank 0 f a) a a.rest) t → Stepped f a (ended t)
    ended_stepped (ok d b) h = h.ahead
    ended_stepped (refused n p) h = h

    gone_stepped : (c : Block) (t : Answer A M (Tok A M)) → Ok (Taken a) t → Stepped f a (gone c t)
    gone_stepped c (ok t b) h = h.1
    gone_stepped c (refused n p) h = h

module _ {A M : Type 0} (ts : List (Tok A M)) (fit : ℕ → List Item → Bool) (P : Rec A → Type 0) (h : Given ts fit P) (v : ℕ) (f : Frame A) (a : Ahead A M)
    (within : Suf (all a) ts) where
  -- items after a word that was taken
  after_word : (k : ℕ) (is : List Item) → fit k is ≡ true → (taken : Answer A M (Tok A M)) → Ok (Taken a) taken
      → Holds (λ d. P d.rec) (then taken (λ t b. items 0 f is (blank k f a) b))
  after_word k is e (ok t b) g = h k is e f a b (suf_trans g.1 (suf_trans (there here) within))
  after_word k is e (refused n p) g = tt

  perform_stepped : (taken : Answer A M (Tok A M)) → Ok (Taken a) taken → (p : M) (act : Act) → fit_act fit act ≡ true → Stepped P f a (perform v f a taken p act)
  unfolding perform fit_act
  perform_stepped taken t p (statement k is m) s = let z = both (fit k is) (all_numbered is) s in
      given_stepped P f a k m (then taken (λ t b. items 0 f is (blank k f a) b)) (worded_kept f is z.1 (blank k f a) a taken t)
      (after_word k is z.0 taken t)
  perform_stepped taken t p (close is) s = ended_stepped P f a (then taken (λ t b. items 0 f is (blank 0 f a) b)) (worded_kept f is s (blank 0 f a) a taken t)
  perform_stepped taken t p (refuse n) s = complains_ranged n s
  perform_stepped taken t p back s = tt
  perform_stepped taken t p (up_to54 act) s = stepped_cond P f a (leb v 5400000) (perform v f a taken p act) (halts 5 p) (perform_stepped taken t p act s) refl

  judged_stepped : (rows : List Row) → fit_rows fit rows ≡ true → (taken : Answer A M (Tok A M)) → Ok (Taken a) taken → Stepped P f a (judged v f a rows taken)
  judged_stepped rows s (ok t b) g = perform_stepped (ok t b) g b.held.mark (act_for 5 (word_of t.bytes) rows) (act_fits fit 5 (word_of t.bytes) rows refl s)
  judged_stepped rows s (refused n p) g = g

  -- a block that ends where c, as t says, and else has one more record
  part_stepped : (c : Bool) (t : Answer A M (Draft A)) → Ok (Kept (blank 0 f a) a a.rest) t → (k : ℕ) (is : List Item) → fit_part fit k is ≡ true
      → Stepped P f a (cond c (ended t) (given stay (items 0 f is (blank k f a) a)))
  part_stepped c t g k is s = let z = both (fit k is) (eager is && all_numbered is) s in let n = both (eager is) (all_numbered is) z.1 in
      stepped_cond P f a c (ended t) (given stay (items 0 f is (blank k f a) a)) (ended_stepped P f a t g)
      (given_stepped P f a k stay (items 0 f is (blank k f a) a) (eager_kept f is n.0 n.1 (blank k f a) a) (h k is z.0 f a a within))

  pub step_stepped : (b : Body) → fit_body fit b ≡ true → Stepped P f a (step v f a b)
  unfolding step peek_key fit_body
  step_stepped (keyed n rows) s = let z = both (complains n) (fit_rows fit rows) s in let w = word_of a.held.bytes in
      stepped_cond P f a (matches Kind.name a) _ (halts 4 a.held.mark)
      (stepped_cond P f a (is_key w) (perform v f a (next_token a) a.held.mark (act_for n w rows)) (halts 5 a.held.mark)
      (perform_stepped (next_token a) (take_taken a) a.held.mark (act_for n w rows) (act_fits fit n w rows z.0 z.1)) refl) refl
  step_stepped (worded rows) s = judged_stepped rows s (get_name a) (expect_taken Kind.name a)
  step_stepped (options rows b) s =
      stepped_cond P f a (matches Kind.semicolon a) (gone b (next_token a)) (judged v f a rows (get_name a))
      (gone_stepped P f a b (next_token a) (take_taken a)) (judged_stepped rows s (get_name a) (expect_taken Kind.name a))
  step_stepped (parts k is) s = part_stepped (matches Kind.semicolon a) (items 0 f (whole 6 ∷ semi ∷ []) (blank 0 f a) a) (whole_kept 6 refl f (blank 0 f a) a) k is s
  step_stepped (counted k is) s = part_stepped (empty f.lacks) (items 0 f (semi ∷ []) (blank 0 f a) a) (semi_kept f (blank 0 f a) a) k is s
