-- Every record of a reading is one that the rules list, and its numbers are stored values of numerals: each item keeps the
-- numbers so, and where the items of a statement end its code is settled, which the table is tested for.
use Prim.Native.Nat.{ℕ, zero, suc, ◌+◌, ◌^◌, ◌<◌}
use mathlib.Core.Path.{◌≡◌, refl}
use mathlib.Core.Bool.{Bool, true, false, cond, ◌&&◌, false≢true}
use mathlib.Core.List.{List, [], ◌∷◌}
use native.Mathlib.Omega.{arith}
use lib.Dec.{eqb}
use lib.ListN.{length}
use Rattle.lexer.specs.Kinds as Kind
use Rattle.std.specs.Option.{IfSome}
use Rattle.numeral.specs.declared.Scaled.{Scaled}
use Rattle.std.specs.declared.option.Option.{Option}
use Rattle.std.specs.declared.option.Option.TheVariants.{Some, None}
use Rattle.numeral.specs.Numeral.{scaled, numeral_of, Good}
use Rattle.numeral.specs.Stored.{stored_of}
use Rattle.numeral.proofs.Good.{good}
use Rattle.record.specs.declared.Record.{Record}
use Rattle.word.specs.Words.{keys, values, words, raised, upper, same, first_where, word_of, word}
use Rattle.word.specs.Codes.{kind_values, values_in, values_of, place_of, code_of}
use Rattle.word.proofs.Words.{both}
use Rattle.grammar.specs.Tokens.{Tok, Ahead, Answer, ok, then, complain, matches, expect}
use Rattle.grammar.specs.Grammar.{Block, Item, key, keyword, name, own, x, y, semi, value, first, first_key, second, string, code, if_more, no_name, among, whole}
use Rattle.grammar.specs.Table.{body}
use Rattle.grammar.specs.Engine.{Rec, Draft, Frame, blank, set_code, set_first, get_name, get_key, expect_key, expect_keyword, expect_ident, valued, parse_number, parse_enum, begins, parse_second, empty, member, item, passed, items}
use Rattle.grammar.specs.Second.{goes_on}
use Rattle.grammar.specs.Reading.{records, reading}
use Rattle.grammar.specs.Listed.{kind_codes, allows, listed, Stored}
use Rattle.grammar.specs.Standing.{Every}
use Rattle.grammar.proofs.Blocks.{at_block}
use Rattle.grammar.proofs.Answers.{Holds, holds_then, holds_after, holds_cond}
use Rattle.grammar.proofs.Takes.{takes, numbered, all_numbered, eager}
use Rattle.grammar.proofs.Steps.{fit_act, fit_rows, fit_body, Given}
use Rattle.grammar.proofs.Every.{read_from, every}
use Rattle.grammar.proofs.Codes.{pairs, Coded, goes, keyed_seconds, value_coded, second_coded, valuable, coded_listed}

-- NUMBERS

nought : Stored 0
nought = record { negative = false; magnitude = 0; within = (omega arith, λ z. refl); is = refl }

pub number_stored : {A M : Type 0} (a : Ahead A M) → Holds Stored (parse_number a)
unfolding parse_number
number_stored {A} {M} a = holds_after Stored (expect Kind.number a) _ (λ t b. go b (numeral_of t.bytes) (good t.bytes))
  where
    go : (b : Ahead A M) (v : Option Scaled) → IfSome v Good → Holds Stored (valued v b)
    go b (Some v) h = record { negative = v.negative; magnitude = v.millionths; within = h; is = refl }
    go b None h = tt

-- THE CODE, ITEM BY ITEM

-- how far the code is: nothing is known, the first word of a value is given, or the code is one that is listed
data Stage : Type 0 where
  lacking begun settled : Stage

abbrev stage : Bool → Stage
stage t = cond t settled lacking

-- a second word settles the code only after a first one
unfoldable closed : ℕ → Stage → Stage
closed k lacking = lacking
closed k begun = stage (valuable k && keyed_seconds k)
closed k settled = lacking

-- the stage after an item, for a record of the kind k
unfoldable after : ℕ → Stage → Item → Stage
after k s (key w) = s
after k s (keyword w) = s
after k s name = s
after k s own = s
after k s x = s
after k s y = s
after k s semi = s
after k s value = stage (valuable k)
after k s first = begun
after k s first_key = begun
after k s second = closed k s
after k s (string n) = s
after k s (code c) = stage (listed k c)
after k s (if_more n) = s
after k s no_name = s
after k s (among vs) = s
after k s (whole n) = s

-- how many items may be passed over after an item
unfoldable pub skip : Item → ℕ
skip (key w) = 0
skip (keyword w) = 0
skip name = 0
skip own = 0
skip x = 0
skip y = 0
skip semi = 0
skip value = 0
skip first = 0
skip first_key = 0
skip second = 0
skip (string n) = 0
skip (code c) = 0
skip (if_more n) = n
skip no_name = 0
skip (among vs) = 0
skip (whole n) = 0

abbrev is_settled : Stage → Bool
is_settled lacking = false
is_settled begun = false
is_settled settled = true

-- do the items settle the code, the first m of them passed over, whether or not more are passed over?
unfoldable settles : ℕ → ℕ → Stage → List Item → Bool
settles k m s [] = is_settled s
settles k (suc m) s (i ∷ is) = settles k m s is
settles k zero s (i ∷ is) = settles k 0 (after k s i) is && settles k (skip i) (after k s i) is

unfoldable fit : ℕ → List Item → Bool
fit k is = settles k 0 (stage (listed k 0)) is

all_fit : (b : Block) → fit_body fit (body b) ≡ true
unfolding fit_body fit_rows fit_act all_numbered numbered eager takes fit settles skip after closed valuable pairs keyed_seconds goes listed kind_codes allows keys values words raised upper same first_where word_of kind_values values_in values_of place_of code_of goes_on
all_fit = at_block (fit_body fit) refl

pub passed_either : {A M : Type 0} (i : Item) (a : Ahead A M) (Q : ℕ → Type 0) → Q 0 → Q (skip i) → Q (passed i a)
unfolding skip
passed_either (key w) a Q p q = p
passed_either (keyword w) a Q p q = p
passed_either name a Q p q = p
passed_either own a Q p q = p
passed_either x a Q p q = p
passed_either y a Q p q = p
passed_either semi a Q p q = p
passed_either value a Q p q = p
passed_either first a Q p q = p
passed_either first_key a Q p q = p
passed_either second a Q p q = p
passed_either (string n) a Q p q = p
passed_either (code c) a Q p q = p
passed_either (if_more n) a Q p q = go (matches Kind.semicolon a)
  where
    go : (c : Bool) → Q (cond c n 0)
    go true = q
    go false = p
passed_either no_name a Q p q = p
passed_either (among vs) a Q p q = p
passed_either (whole n) a Q p q = p

-- what a stage says of the code and the first word
abbrev At : ℕ → Stage → ℕ → ℕ → Type 0
At k lacking c w = Unit {0}
At k begun c w = begins (values_of k) w ≡ true
At k settled c w = listed k c ≡ true

at_stage : (k c w : ℕ) (t : Bool) → (t ≡ true → listed k c ≡ true) → At k (stage t) c w
at_stage k c w true h = h refl
at_stage k c w false h = tt

-- a draft of the kind k at a stage
abbrev Fit : {A : Type 0} → ℕ → Stage → Draft A → Type 0
Fit k s d = record { kind-is : d.rec.kind ≡ k; x-is : Stored d.rec.x; y-is : Stored d.rec.y; code_is : At k s d.rec.code d.first }

-- what holds of a record's kind, code, x and y
abbrev Sound : ℕ → ℕ → ℕ → ℕ → Type 0
Sound k c v w = record { is-listed : listed k c ≡ true; x-stored : Stored v; y-stored : Stored w }

abbrev SoundRec : {A : Type 0} → Rec A → Type 0
SoundRec r = Sound r.kind r.code r.x r.y

module _ {A : Type 0} (k : ℕ) where
  recode : (s : Stage) (d : Draft A) (t : Bool) (c : ℕ) → Fit k s d → (t ≡ true → listed k c ≡ true) → Fit k (stage t) (set_code c d)
  recode s d t c h g = record { kind-is = h.kind-is; x-is = h.x-is; y-is = h.y-is; code_is = at_stage k c d.first t g }

  end_fits : (s : Stage) (d : Draft A) → is_settled s ≡ true → Fit k s d → SoundRec d.rec
  end_fits lacking d e h = absurd (false≢true e)
  end_fits begun d e h = absurd (false≢true e)
  end_fits settled d e h = record { is-listed = rw h.kind-is h.code_is; x-stored = h.x-is; y-stored = h.y-is }

module _ {A M : Type 0} (f : Frame A) (k : ℕ) where
  -- the code becomes one of the kind, where t
  coding : (s : Stage) (d : Draft A) (t : Bool) (p : Answer A M ℕ) → Fit k s d → (t ≡ true → valuable k ≡ true) → (t ≡ true → Holds (Coded k) p)
      → Holds (Fit k (stage t)) (then p (λ c b. ok (set_code c d) b))
  coding s d true p h v q = holds_then (Fit k settled) (Coded k) p (λ c b. ok (set_code c d) b) (q refl) (λ c b z. recode k s d true c h (λ e. coded_listed k c (v refl) z))
  coding s d false p h v q = holds_after (Fit k lacking) p (λ c b. ok (set_code c d) b) (λ c b. recode k s d false c h (λ e. absurd (false≢true e)))

  beginning : (s : Stage) (d : Draft A) (w : ℕ) (b : Ahead A M) → Fit k s d
      → Holds (Fit k begun) (cond (begins (values_of d.rec.kind) w) (ok (set_first w d) b) (complain 6 b))
  beginning s d w b h = holds_cond (Fit k begun) (begins (values_of d.rec.kind) w) (ok (set_first w d) b) (complain 6 b)
      (λ e. record { kind-is = h.kind-is; x-is = h.x-is; y-is = h.y-is; code_is = rw h.kind-is at e }) (λ e. tt)

  second_fits : (s : Stage) (d : Draft A) (a : Ahead A M) → Fit k s d → Holds (Fit k (closed k s)) (item f second d a)
  unfolding item closed
  second_fits lacking d a h = coding lacking d false (parse_second d.rec.kind d.first a) h (λ e. absurd (false≢true e)) (λ e. absurd (false≢true e))
  second_fits settled d a h = coding settled d false (parse_second d.rec.kind d.first a) h (λ e. absurd (false≢true e)) (λ e. absurd (false≢true e))
  second_fits begun d a h = coding begun d (valuable k && keyed_seconds k) (parse_second d.rec.kind d.first a) h
      (λ e. (both (valuable k) (keyed_seconds k) e).0)
      (λ e. rw h.kind-is (second_coded k d.first h.code_is (both (valuable k) (keyed_seconds k) e).1 a))

  item_fits : (i : Item) (s : Stage) (d : Draft A) (a : Ahead A M) → Fit k s d → Holds (Fit k (after k s i)) (item f i d a)
  unfolding item after
  item_fits (key w) s d a h = holds_after (Fit k s) (expect_key (word w) a) _ (λ t b. h)
  item_fits (keyword w) s d a h = holds_after (Fit k s) (expect_keyword (word w) a) _ (λ t b. h)
  item_fits name s d a h = holds_after (Fit k s) (get_name a) _ (λ t b. h)
  item_fits own s d a h = holds_after (Fit k s) (expect_ident f.label a) _ (λ t b. h)
  item_fits x s d a h = holds_then (Fit k s) Stored (parse_number a) _ (number_stored a)
      (λ v b n. record { kind-is = h.kind-is; x-is = n; y-is = h.y-is; code_is = h.code_is })
  item_fits y s d a h = holds_then (Fit k s) Stored (parse_number a) _ (number_stored a)
      (λ v b n. record { kind-is = h.kind-is; x-is = h.x-is; y-is = n; code_is = h.code_is })
  item_fits semi s d a h = holds_after (Fit k s) (expect Kind.semicolon a) _ (λ t b. h)
  item_fits value s d a h = coding s d (valuable k) (parse_enum _ a) h (λ e. e) (λ e. rw h.kind-is (value_coded k a))
  item_fits first s d a h = holds_after (Fit k begun) (get_name a) _ (λ t b. beginning s d (word_of t.bytes) b h)
  item_fits first_key s d a h = holds_after (Fit k begun) (get_key a) _ (λ w b. beginning s d w b h)
  item_fits second s d a h = second_fits s d a h
  item_fits (string n) s d a h = holds_after (Fit k s) (expect Kind.string_literal a) _
      (λ t b. holds_cond (Fit k s) (eqb (length t.bytes) (n + 2)) _ (complain 6 b) (λ e. h) (λ e. tt))
  item_fits (code c) s d a h = recode k s d (listed k c) c h (λ e. e)
  item_fits (if_more n) s d a h = h
  item_fits no_name s d a h = holds_cond (Fit k s) (matches Kind.name a) (complain 8 a) (ok d a) (λ e. tt) (λ e. h)
  item_fits (among vs) s d a h = holds_cond (Fit k s) (member vs d.rec.x) (ok d a) (complain 6 a) (λ e. h) (λ e. tt)
  item_fits (whole n) s d a h = holds_cond (Fit k s) (empty f.lacks) (ok d a) (complain n a) (λ e. h) (λ e. tt)

  items_fit : (m : ℕ) (is : List Item) (s : Stage) → settles k m s is ≡ true → (d : Draft A) (a : Ahead A M) → Fit k s d → Holds (λ d. SoundRec d.rec) (items m f is d a)
  unfolding items settles
  items_fit m [] s e d a h = end_fits k s d e h
  items_fit (suc m) (i ∷ is) s e d a h = items_fit m is s e d a h
  items_fit zero (i ∷ is) s e d a h = let z = both (settles k 0 (after k s i) is) (settles k (skip i) (after k s i) is) e in
      holds_then (λ d. SoundRec d.rec) (Fit k (after k s i)) (item f i d a) (λ q b. items (passed i b) f is q b) (item_fits i s d a h)
      (λ q b g. passed_either i b (λ m. Holds (λ d. SoundRec d.rec) (items m f is q b)) (items_fit 0 is (after k s i) z.0 q b g) (items_fit (skip i) is (after k s i) z.1 q b g))

-- THE READING

given : {A M : Type 0} (ts : List (Tok A M)) → Given ts fit SoundRec
unfolding fit
given ts k is e f a b s = items_fit f k 0 is (stage (listed k 0)) e (blank k f a) b
    (record { kind-is = refl; x-is = nought; y-is = nought; code_is = at_stage k 0 0 (listed k 0) (λ z. z) })

all_sound : (s : List ℕ) (rs : List Record) → reading s ≡ records rs → Every (λ r. Sound r.kind r.code r.x r.y) rs
all_sound s rs = every fit all_fit (λ r. Sound r.kind r.code r.x r.y) s rs (given (read_from s))

-- what follows from P for each follows for every element
pub every_so : (P Q : Record → Type 0) → ((r : Record) → P r → Q r) → (rs : List Record) → Every P rs → Every Q rs
every_so P Q f [] h = tt
every_so P Q f (r ∷ rs) h = (f r h.0, every_so P Q f rs h.1)

pub all_listed : (s : List ℕ) (rs : List Record) → reading s ≡ records rs → Every (λ r. listed r.kind r.code ≡ true) rs
all_listed s rs e = every_so _ _ (λ r h. h.is-listed) rs (all_sound s rs e)

pub stored_fits : (v : ℕ) → Stored v → v < 2 ^ 64
stored_fits v n = rw n.is (go n.negative n.magnitude n.within)
  where
    go : (g : Bool) (m : ℕ) → Good (scaled g m) → stored_of g m < 2 ^ 64
    go true m h = omega arith
    go false m h = omega arith

pub all_numbers : (s : List ℕ) (rs : List Record) → reading s ≡ records rs → Every (λ r. Stored r.x × Stored r.y × (r.x < 2 ^ 64) × (r.y < 2 ^ 64)) rs
all_numbers s rs e = every_so _ _ (λ r h. (h.x-stored, h.y-stored, stored_fits r.x h.x-stored, stored_fits r.y h.y-stored)) rs (all_sound s rs e)
