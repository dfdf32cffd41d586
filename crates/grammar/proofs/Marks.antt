-- Whose mark a refusal has: 3 has that of a byte that starts no token, read while a token is taken, and a complaint that of the token
-- held. Marks are copied, so what holds of the tokens' marks holds of the refusal's, by the cases of each taker.
use Prim.Native.Nat.{ℕ, zero, suc, ◌+◌, ◌≤◌}
use mathlib.Core.Path.{◌≡◌, refl}
use mathlib.Core.Bool.{Bool, true, false, cond, not, ◌&&◌, ◌||◌}
use mathlib.Core.List.{List, [], ◌∷◌}
use native.Mathlib.Omega.{arith}
use lib.Dec.{leb, eqb}
use lib.ListN.{length}
use Rattle.lexer.specs.Kinds as Kind
use Rattle.numeral.specs.declared.Scaled.{Scaled}
use Rattle.std.specs.declared.option.Option.{Option}
use Rattle.std.specs.declared.option.Option.TheVariants.{Some, None}
use Rattle.numeral.specs.Numeral.{numeral_of}
use Rattle.word.specs.Words.{same, word_of, word, is_key}
use Rattle.word.specs.Codes.{code_of, values_of}
use Rattle.word.proofs.Words.{both}
use Rattle.grammar.specs.Tokens.{Tok, Ahead, Answer, ok, refused, then, next, next_token, matches, expect, bad}
use Rattle.grammar.specs.Grammar.{Block, Item, key, keyword, name, own, x, y, semi, value, first, first_key, second, string, code, if_more, no_name, among, whole, Move, stay, Act, statement, close, refuse, back, up_to54, Row, Body, keyed, worded, options, parts, counted}
use Rattle.grammar.specs.Table.{body}
use Rattle.grammar.specs.Engine.{Rec, Draft, Frame, blank, get_name, get_key, expect_key, expect_keyword, expect_ident, valued, parse_number, parse_enum, begins, parse_second, empty, member, item, passed, items}
use Rattle.grammar.specs.Second.{goes_on, second_key}
use Rattle.grammar.proofs.Second.{second_is_listed}
use Rattle.grammar.specs.Turns.{Step, gives, ends, goes, backs, halts, given, ended, gone, act_for, perform, peek_key, judged, step, State, Turn, emit, moved, done, halted, applied, Outcome, read, stopped, more, turn, turns}
use Rattle.grammar.specs.Standing.{Every}
use Rattle.grammar.proofs.Answers.{complains}
use Rattle.grammar.proofs.Takes.{numbered, all_numbered, eager}
use Rattle.grammar.proofs.Steps.{fit_act, fit_rows, fit_body, act_fits}
use Rattle.grammar.proofs.Turned.{any_fits}

-- the test of the table that asks nothing of a record: its numbers are those of complaints
abbrev free : ℕ → List Item → Bool
free k is = true

-- R holds of every complaint with the mark m
abbrev Held : {M : Type 0} → (ℕ → M → Type 0) → M → Type 0
Held R m = (n : ℕ) → complains n ≡ true → R n m

-- R n m is to hold of every refusal n with the mark m
module _ {A M : Type 0} (R : ℕ → M → Type 0) where
  -- it holds of a token that is yet to be read: of a bad one as refusal 3, of another as the token held
  abbrev pub Coming : Tok A M → Type 0
  Coming t = (eqb t.kind bad ≡ true → R 3 t.mark) × (eqb t.kind bad ≡ false → Held R t.mark)

  -- and of all that is ahead
  abbrev pub Marked : Ahead A M → Type 0
  Marked a = Held R a.held.mark × Every Coming a.rest

  -- TAKERS

  abbrev Sound : {B : Type 0} → Answer A M B → Type 0
  Sound (ok v b) = Marked b
  Sound (refused n m) = R n m

  sound_then : {B C : Type 0} (t : Answer A M B) (k : B → Ahead A M → Answer A M C) → Sound t → ((v : B) (b : Ahead A M) → Marked b → Sound (k v b)) → Sound (then t k)
  sound_then (ok v b) k h f = f v b h
  sound_then (refused n m) k h f = h

  sound_cond : {B : Type 0} (c : Bool) (t u : Answer A M B) → Sound t → Sound u → Sound (cond c t u)
  sound_cond true t u h k = h
  sound_cond false t u h k = k

  next_sound : (t : Tok A M) (l : List (Tok A M)) → Held R t.mark → Every Coming l → Sound (next t l)
  unfolding next
  next_sound t [] h e = h 4 refl
  next_sound t (n ∷ r) h e = go (eqb n.kind bad) e.0.0 e.0.1
    where
      go : (c : Bool) → (c ≡ true → R 3 n.mark) → (c ≡ false → Held R n.mark) → Sound (cond c (refused 3 n.mark) (ok t (record { held = n; rest = r })))
      go true p q = p refl
      go false p q = (q refl, e.1)

  module _ (a : Ahead A M) (h : Marked a) where
    take_sound : Sound (next_token a)
    take_sound = next_sound a.held a.rest h.0 h.1

    expect_sound : (k : ℕ) → Sound (expect k a)
    unfolding expect
    expect_sound k = sound_then (next_token a) _ take_sound (λ t b g. sound_cond (eqb t.kind k) _ _ g (g.0 4 refl))

    key_sound : Sound (get_key a)
    unfolding get_key
    key_sound = sound_then (get_name a) _ (expect_sound Kind.name) (λ t b g. sound_cond (is_key (word_of t.bytes)) _ _ g (g.0 5 refl))

    this_key_sound : (k : ℕ) → Sound (expect_key k a)
    unfolding expect_key
    this_key_sound k = sound_then (get_key a) _ key_sound (λ w b g. sound_cond (eqb w k) _ _ g (g.0 7 refl))

    keyword_sound : (k : ℕ) → Sound (expect_keyword k a)
    unfolding expect_keyword
    keyword_sound k = sound_then (get_name a) _ (expect_sound Kind.name) (λ t b g. sound_cond (eqb (word_of t.bytes) k) _ _ g (g.0 7 refl))

    ident_sound : (l : List ℕ) → Sound (expect_ident l a)
    unfolding expect_ident
    ident_sound l = sound_then (get_name a) _ (expect_sound Kind.name) (λ t b g. sound_cond (same t.bytes l) _ _ g (g.0 7 refl))

    valued_sound : (v : Option Scaled) → Sound (valued v a)
    valued_sound (Some v) = h
    valued_sound None = h.0 9 refl

    enum_sound : (f : ℕ → ℕ) → Sound (parse_enum f a)
    unfolding parse_enum
    enum_sound f = sound_then (get_name a) _ (expect_sound Kind.name) (λ t b g. sound_cond (eqb (f (word_of t.bytes)) 0) _ _ (g.0 6 refl) g)

    second_sound : (k w : ℕ) → Sound (parse_second k w a)
    second_sound k w = rw (second_is_listed k w a)
        (sound_cond (not (goes_on (values_of k) w) || (matches Kind.semicolon a && not (eqb (code_of k w 0) 0))) _ _ h
        (sound_cond (eqb (second_key w) 0) _ _ (enum_sound _) (sound_then (expect_key (second_key w) a) _ (this_key_sound (second_key w)) (λ v b g. g))))

  number_sound : (a : Ahead A M) → Marked a → Sound (parse_number a)
  unfolding parse_number
  number_sound a h = sound_then (expect Kind.number a) _ (expect_sound a h Kind.number) (λ t b g. valued_sound b g (numeral_of t.bytes))

  -- ITEMS

  item_sound : (f : Frame A) (d : Draft A) (a : Ahead A M) → Marked a → (i : Item) → numbered i ≡ true → Sound (item f i d a)
  unfolding item numbered
  item_sound f d a h (key w) e = sound_then (expect_key (word w) a) _ (this_key_sound a h (word w)) (λ v b g. g)
  item_sound f d a h (keyword w) e = sound_then (expect_keyword (word w) a) _ (keyword_sound a h (word w)) (λ v b g. g)
  item_sound f d a h name e = sound_then (get_name a) _ (expect_sound a h Kind.name) (λ t b g. g)
  item_sound f d a h own e = sound_then (expect_ident f.label a) _ (ident_sound a h f.label) (λ t b g. g)
  item_sound f d a h x e = sound_then (parse_number a) _ (number_sound a h) (λ v b g. g)
  item_sound f d a h y e = sound_then (parse_number a) _ (number_sound a h) (λ v b g. g)
  item_sound f d a h semi e = sound_then (expect Kind.semicolon a) _ (expect_sound a h Kind.semicolon) (λ t b g. g)
  item_sound f d a h value e = sound_then (parse_enum (λ w. code_of d.rec.kind w 0) a) _ (enum_sound a h (λ w. code_of d.rec.kind w 0)) (λ c b g. g)
  item_sound f d a h first e = sound_then (get_name a) _ (expect_sound a h Kind.name)
      (λ t b g. sound_cond (begins (values_of d.rec.kind) (word_of t.bytes)) _ _ g (g.0 6 refl))
  item_sound f d a h first_key e = sound_then (get_key a) _ (key_sound a h) (λ w b g. sound_cond (begins (values_of d.rec.kind) w) _ _ g (g.0 6 refl))
  item_sound f d a h second e = sound_then (parse_second d.rec.kind d.first a) _ (second_sound a h d.rec.kind d.first) (λ c b g. g)
  item_sound f d a h (string n) e = sound_then (expect Kind.string_literal a) _ (expect_sound a h Kind.string_literal)
      (λ t b g. sound_cond (eqb (length t.bytes) (n + 2)) _ _ g (g.0 6 refl))
  item_sound f d a h (code c) e = h
  item_sound f d a h (if_more n) e = h
  item_sound f d a h no_name e = sound_cond (matches Kind.name a) _ _ (h.0 8 refl) h
  item_sound f d a h (among vs) e = sound_cond (member vs d.rec.x) _ _ h (h.0 6 refl)
  item_sound f d a h (whole n) e = sound_cond (empty f.lacks) _ _ h (h.0 n e)

  items_sound : (m : ℕ) (f : Frame A) (is : List Item) → all_numbered is ≡ true → (d : Draft A) (a : Ahead A M) → Marked a → Sound (items m f is d a)
  unfolding items all_numbered
  items_sound m f [] n d a h = h
  items_sound (suc m) f (i ∷ is) n d a h = items_sound m f is (both (numbered i) (all_numbered is) n).1 d a h
  items_sound zero f (i ∷ is) n d a h = let s = both (numbered i) (all_numbered is) n in
      sound_then (item f i d a) (λ e b. items (passed i b) f is e b) (item_sound f d a h i s.0) (λ e b g. items_sound (passed i b) f is s.1 e b g)

  -- A STEP

  abbrev Stepped : Step A M (Rec A) → Type 0
  Stepped (gives m r b) = Marked b
  Stepped (ends b) = Marked b
  Stepped (goes c b) = Marked b
  Stepped backs = Unit {0}
  Stepped (halts n p) = R n p

  stepped_cond : (c : Bool) (t u : Step A M (Rec A)) → Stepped t → Stepped u → Stepped (cond c t u)
  stepped_cond true t u p q = p
  stepped_cond false t u p q = q

  given_stepped : (m : Move) (t : Answer A M (Draft A)) → Sound t → Stepped (given m t)
  given_stepped m (ok d b) h = h
  given_stepped m (refused n p) h = h

  ended_stepped : (t : Answer A M (Draft A)) → Sound t → Stepped (ended t)
  ended_stepped (ok d b) h = h
  ended_stepped (refused n p) h = h

  gone_stepped : (c : Block) (t : Answer A M (Tok A M)) → Sound t → Stepped (gone c t)
  gone_stepped c (ok t b) h = h
  gone_stepped c (refused n p) h = h

  module _ (v : ℕ) (f : Frame A) (a : Ahead A M) where
    perform_stepped : (taken : Answer A M (Tok A M)) → Sound taken → (p : M) → Held R p → (act : Act) → fit_act free act ≡ true → Stepped (perform v f a taken p act)
    unfolding perform fit_act
    perform_stepped taken t p h (statement k is m) s =
        given_stepped m (then taken (λ t b. items 0 f is (blank k f a) b)) (sound_then taken (λ t b. items 0 f is (blank k f a) b) t (λ t b g. items_sound 0 f is s (blank k f a) b g))
    perform_stepped taken t p h (close is) s =
        ended_stepped (then taken (λ t b. items 0 f is (blank 0 f a) b)) (sound_then taken (λ t b. items 0 f is (blank 0 f a) b) t (λ t b g. items_sound 0 f is s (blank 0 f a) b g))
    perform_stepped taken t p h (refuse n) s = h n s
    perform_stepped taken t p h back s = tt
    perform_stepped taken t p h (up_to54 act) s = stepped_cond (leb v 5400000) (perform v f a taken p act) (halts 5 p) (perform_stepped taken t p h act s) (h 5 refl)

    judged_stepped : (rows : List Row) → fit_rows free rows ≡ true → (taken : Answer A M (Tok A M)) → Sound taken → Stepped (judged v f a rows taken)
    judged_stepped rows s (ok t b) g = perform_stepped (ok t b) g b.held.mark g.0 (act_for 5 (word_of t.bytes) rows) (act_fits free 5 (word_of t.bytes) rows refl s)
    judged_stepped rows s (refused n p) g = g

    module _ (h : Marked a) where
      -- a block that ends where c, with these items, and else has one more record
      part_stepped : (c : Bool) (k : ℕ) (is js : List Item) → all_numbered is ≡ true → all_numbered js ≡ true
          → Stepped (cond c (ended (items 0 f js (blank 0 f a) a)) (given stay (items 0 f is (blank k f a) a)))
      part_stepped c k is js n o = stepped_cond c (ended (items 0 f js (blank 0 f a) a)) (given stay (items 0 f is (blank k f a) a))
          (ended_stepped (items 0 f js (blank 0 f a) a) (items_sound 0 f js o (blank 0 f a) a h))
          (given_stepped stay (items 0 f is (blank k f a) a) (items_sound 0 f is n (blank k f a) a h))

      step_stepped : (b : Body) → fit_body free b ≡ true → Stepped (step v f a b)
      unfolding step peek_key fit_body all_numbered numbered
      step_stepped (keyed n rows) s = let z = both (complains n) (fit_rows free rows) s in let w = word_of a.held.bytes in
          stepped_cond (matches Kind.name a) _ (halts 4 a.held.mark)
          (stepped_cond (is_key w) (perform v f a (next_token a) a.held.mark (act_for n w rows)) (halts 5 a.held.mark)
          (perform_stepped (next_token a) (take_sound a h) a.held.mark h.0 (act_for n w rows) (act_fits free n w rows z.0 z.1)) (h.0 5 refl)) (h.0 4 refl)
      step_stepped (worded rows) s = judged_stepped rows s (get_name a) (expect_sound a h Kind.name)
      step_stepped (options rows b) s =
          stepped_cond (matches Kind.semicolon a) (gone b (next_token a)) (judged v f a rows (get_name a))
          (gone_stepped b (next_token a) (take_sound a h)) (judged_stepped rows s (get_name a) (expect_sound a h Kind.name))
      step_stepped (parts k is) s = part_stepped (matches Kind.semicolon a) k is (whole 6 ∷ semi ∷ []) (both (eager is) (all_numbered is) s).1 refl
      step_stepped (counted k is) s = part_stepped (empty f.lacks) k is (semi ∷ []) (both (eager is) (all_numbered is) s).1 refl

  -- A TURN, AND ALL TURNS

  abbrev Turned : Turn A M (Rec A) → Type 0
  Turned (emit r s b) = Marked b
  Turned (moved s b) = Marked b
  Turned done = Unit {0}
  Turned (halted n p) = R n p

  applied_turned : (v : ℕ) (f : Frame A) (fs : List (Frame A)) (outer : Turn A M (Rec A)) → Turned outer → (s : Step A M (Rec A)) → Stepped s → Turned (applied v f fs outer s)
  applied_turned v f fs outer o (gives m r b) h = h
  applied_turned v f [] outer o (ends b) h = tt
  applied_turned v f (g ∷ fs) outer o (ends b) h = h
  applied_turned v f fs outer o (goes c b) h = h
  applied_turned v f fs outer o backs h = o
  applied_turned v f fs outer o (halts n p) h = h

  turn_turned : (v : ℕ) (fs : List (Frame A)) (a : Ahead A M) → Marked a → Turned (turn body v fs a)
  unfolding turn
  turn_turned v [] a h = tt
  turn_turned v (f ∷ fs) a h =
      applied_turned v f fs (turn body v fs a) (turn_turned v fs a h) (step v f a (body f.block)) (step_stepped v f a h (body f.block) (any_fits f.block))

  -- R holds of the refusal of an outcome; 0 is none (`never_short`)
  abbrev pub Stops : Outcome M (Rec A) → Type 0
  Stops (read rs) = Unit {0}
  Stops (stopped n m) = 3 ≤ n → R n m

  stops_more : (r : Rec A) (o : Outcome M (Rec A)) → Stops o → Stops (more r o)
  stops_more r (read rs) h = tt
  stops_more r (stopped n m) h = h

  pub turns_stop : (n : ℕ) (s : State A) (a : Ahead A M) → Marked a → Stops (turns body n s a)
  unfolding turns
  turns_stop zero s a h = λ l. absurd (let z : ⊥ = omega arith in z)
  turns_stop (suc n) s a h = go (turn body s.version s.blocks a) (turn_turned s.version s.blocks a h) (turns_stop n)
    where
      go : (t : Turn A M (Rec A)) → Turned t → ((s : State A) (a : Ahead A M) → Marked a → Stops (turns body n s a))
          → Stops (elim t [
            | emit r t b ↦ more r (turns body n t b)
            | moved t b ↦ turns body n t b
            | done ↦ read []
            | halted k p ↦ stopped k p
          ])
      go (emit r t b) h g = stops_more r (turns body n t b) (g t b h)
      go (moved t b) h g = g t b h
      go done h g = tt
      go (halted k p) h g = λ l. h
