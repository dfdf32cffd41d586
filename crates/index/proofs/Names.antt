-- No SITE block, MACRO or PIN of a reading has an empty name: the one item of its statement takes a name, and a token has a byte at least.
use Prim.Native.Nat.{ℕ, ◌+◌, ◌≤◌, ◌<◌}
use native.Mathlib.Omega.{arith}
use mathlib.Core.Path.{◌≡◌, refl, sym, ap, ◌∙◌}
use mathlib.Core.Logic.{⊎_elim}
use mathlib.Core.Bool.{Bool, true, false, cond, false≢true}
use mathlib.Core.List.Memᴰ
use mathlib.Core.List.{List, [], ◌∷◌, map, Memᴰ}
use borrow.Author.Tests.{eqb-true, le-leb}
use lib.Dec.{eqb}
use lib.ListN.{length, take, drop, length-take, length-drop}
use Rattle.ordered.proofs.Members.{get_mem}
use Rattle.refusal.specs.Table.{refused, done}
use Rattle.record.specs.declared.Record.{Record}
use Rattle.lookup.specs.Name.{part}
use Rattle.lexer.specs.declared.Lexed.{Lexed}
use Rattle.lexer.specs.declared.Lexed.TheVariants.{Found, End, Bad}
use Rattle.lexer.specs.Kinds as Kind
use Rattle.lexer.specs.Lex.{from}
use Rattle.lexer.specs.Places.{Within}
use Rattle.lexer.proofs.Places.{within_all}
use Rattle.grammar.specs.Tokens.{Tok, Ahead, Answer, ok, then, complain, next_token, expect}
use Rattle.grammar.specs.Tokens.{refused as stops}
use Rattle.grammar.specs.Grammar.{Block, Item, key, keyword, name, own, x, y, semi, value, first, first_key, second, string, code, if_more, no_name, among, whole}
use Rattle.grammar.specs.Table.{body}
use Rattle.grammar.specs.Engine.{Rec, Draft, Frame, blank, set_name, get_name, name_of, item, items}
use Rattle.grammar.specs.Reading.{Mark, tok, ahead, name_length, reading}
use Rattle.grammar.specs.Standing.{Every, NameWithin}
use Rattle.grammar.proofs.Blocks.{at_block}
use Rattle.grammar.proofs.Answers.{Ok, Holds, holds_then, holds_cond}
use Rattle.grammar.proofs.Takes.{takes, numbered, all_numbered, eager}
use Rattle.grammar.proofs.Kept.{Suf, here, there, all, Taken, take_taken, Kept, items_kept}
use Rattle.grammar.proofs.Steps.{fit_act, fit_rows, fit_body, Given}
use Rattle.grammar.proofs.Places.{names_within}
use Rattle.grammar.proofs.Every.{read_from, every}
use Rattle.verdict.specs.Verdict.{blank as no_record}
use Rattle.verdict.specs.Meaning.{Reads}
use Rattle.verdict.proofs.Read.{every_member}
use Rattle.index.specs.declared.Query.{Query}
use Rattle.index.specs.Index.{entered}
use Rattle.index.specs.Answers.{consulted, no_place, sought}
use Rattle.index.specs.Queries.{name_in}
use Rattle.index.specs.Many.{answer}
use Rattle.index.specs.Meaning.{Entered, NoneCalled}
use Rattle.index.proofs.Least.{so_entered}
use Rattle.index.proofs.Theorems.{none_says}
use Rattle.index.proofs.Asked.{name_outside, answer_none}

-- A TEST OF THE TABLE: the only item of a statement that has an entry is the name

-- whether an item is the name
abbrev IsName : Item → Type 0
IsName i = (b : Bool) × (b ≡ true → i ≡ name)

abbrev other : (i : Item) → IsName i
other i = (false, λ e. absurd (false≢true e))

unfoldable is_name : (i : Item) → IsName i
is_name (key w) = other (key w)
is_name (keyword w) = other (keyword w)
is_name name = (true, λ e. refl)
is_name own = other own
is_name x = other x
is_name y = other y
is_name semi = other semi
is_name value = other value
is_name first = other first
is_name first_key = other first_key
is_name second = other second
is_name (string n) = other (string n)
is_name (code c) = other (code c)
is_name (if_more n) = other (if_more n)
is_name no_name = other no_name
is_name (among vs) = other (among vs)
is_name (whole n) = other (whole n)

unfoldable one_name : List Item → Bool
one_name [] = false
one_name (i ∷ []) = (is_name i).0
one_name (i ∷ j ∷ is) = false

the_name : (is : List Item) → one_name is ≡ true → is ≡ name ∷ []
unfolding one_name
the_name [] e = absurd (false≢true e)
the_name (i ∷ []) e = ap (λ j. j ∷ []) ((is_name i).1 e)
the_name (i ∷ j ∷ is) e = absurd (false≢true e)

unfoldable fit : ℕ → List Item → Bool
fit k is = cond (entered k) (one_name is) (all_numbered is)

all_fit : (b : Block) → fit_body fit (body b) ≡ true
unfolding fit_body fit_rows fit_act all_numbered numbered eager takes fit one_name is_name entered
all_fit = at_block (fit_body fit) refl

-- TOKENS: one of the kind of a name has a byte at least

abbrev Full : List (Tok ℕ Mark) → Type 0
Full ts = (t : Tok ℕ Mark) → Memᴰ t ts → t.kind ≡ Kind.name → 0 < length t.bytes

tok_full : (s : List ℕ) (r : Lexed) → Within s 0 r → (tok s r).kind ≡ Kind.name → 0 < length (tok s r).bytes
tok_full s (Found t) w e = simp (length-take, length-drop) (omega arith)
tok_full s (End n) w e = absurd (omega arith)
tok_full s (Bad i n) w e = absurd (omega arith)

map_full : (s : List ℕ) (l : List Lexed) → ((r : Lexed) → Memᴰ r l → Within s 0 r) → Full (map (tok s) l)
map_full s [] h t m e = absurd (Memᴰ.not-nil m)
map_full s (r ∷ l) h t m e =
    ⊎_elim (λ q. rw q (tok_full s r (h r (Memᴰ.head refl)) (rw q at e))) (λ n. map_full s l (λ p g. h p (Memᴰ.tail g)) t n e) (Memᴰ.cases_cons m)

ahead_full : (s : List ℕ) (l : List Lexed) → ((r : Lexed) → Memᴰ r l → Within s 0 r) → Full (all (ahead s l))
ahead_full s [] h t m e = ⊎_elim (λ q. absurd (omega (arith, ap (λ (u : Tok ℕ Mark). u.kind) q))) (λ n. absurd (Memᴰ.not-nil n)) (Memᴰ.cases_cons m)
ahead_full s (r ∷ l) h t m e = map_full s (r ∷ l) h t m e

held_full : (ts : List (Tok ℕ Mark)) (a : Ahead ℕ Mark) → Full ts → Suf (all a) ts → a.held.kind ≡ Kind.name → 0 < length a.held.bytes
held_full ts a h s = h a.held (member s)
  where
    member : {l : List (Tok ℕ Mark)} → Suf (all a) l → Memᴰ a.held l
    member here = Memᴰ.head refl
    member (there p) = Memᴰ.tail (member p)

-- ITEMS

-- a record that has an entry has a name of a byte at least
abbrev Filled : Rec ℕ → Type 0
Filled r = entered r.kind ≡ true → 0 < name_length r.name

ok_holds : {A M B : Type 0} (Q : B → Ahead A M → Type 0) (P : B → Type 0) → ((v : B) (b : Ahead A M) → Q v b → P v) → (t : Answer A M B) → Ok Q t → Holds P t
ok_holds Q P f (ok v b) h = f v b h
ok_holds Q P f (stops n m) h = tt

-- what is taken is the token held, of the kind
expect_held : {A M : Type 0} (k : ℕ) (a : Ahead A M) → Holds (λ t. (t ≡ a.held) × (t.kind ≡ k)) (expect k a)
unfolding expect
expect_held k a =
    holds_then _ (λ t. t ≡ a.held) (next_token a) _ (ok_holds (Taken a) (λ t. t ≡ a.held) (λ t b h. h.0) (next_token a) (take_taken a))
    (λ t b h. holds_cond _ (eqb t.kind k) (ok t b) (complain 4 b) (λ e. (h, eqb-true t.kind k e)) (λ e. tt))

name_filled : (ts : List (Tok ℕ Mark)) → Full ts → (f : Frame ℕ) (d : Draft ℕ) (a : Ahead ℕ Mark) → Suf (all a) ts
    → Holds (λ d. Filled d.rec) (items 0 f (name ∷ []) d a)
unfolding items item
name_filled ts h f d a s = go (get_name a) (expect_held Kind.name a)
  where
    go : (t : Answer ℕ Mark (Tok ℕ Mark)) → Holds (λ t. (t ≡ a.held) × (t.kind ≡ Kind.name)) t
        → Holds (λ d. Filled d.rec) (then (then t (λ t b. ok (set_name (name_of t) d) b)) (λ e b. ok e b))
    go (ok t b) (q, k) = λ z. rw q (held_full ts a h s (rw q at k))
    go (stops n m) g = tt

filled : (ts : List (Tok ℕ Mark)) → Full ts → Given ts fit Filled
unfolding fit
filled ts h k is e f a b s = go (entered k) refl e
  where
    go : (c : Bool) → entered k ≡ c → cond c (one_name is) (all_numbered is) ≡ true → Holds (λ d. Filled d.rec) (items 0 f is (blank k f a) b)
    go true c e = rw (the_name is e) (name_filled ts h f (blank k f a) b s)
    go false c e =
        ok_holds (Kept (blank k f a) b (all b)) (λ d. Filled d.rec) (λ d q g z. absurd (false≢true (sym c ∙ ap entered (sym g.kind) ∙ z)))
        (items 0 f is (blank k f a) b) (items_kept 0 f is e (blank k f a) b)

-- THE READING

all_filled : (s : List ℕ) (rs : List Record) → Reads s rs → Every (λ r. entered r.kind ≡ true → 0 < r.len) rs
all_filled s rs =
    every fit all_fit (λ r. entered r.kind ≡ true → 0 < r.len) s rs (filled (read_from s) (ahead_full s (from s 0 1) (within_all s 0 1)))

pub named : (s : List ℕ) (rs : List Record) → Reads s rs → (r : Record) → Memᴰ r rs → Entered r → 0 < r.len
named s rs e r m k = every_member _ rs (all_filled s rs e) r m (so_entered r k)

-- so none is called by the empty name
none_empty : (s : List ℕ) (rs : List Record) → Reads s rs → (owner : ℕ) → NoneCalled s owner [] rs
unfolding part
none_empty s rs e owner r (i, h, q) (k, o, n) =
    let m = Memᴰ.cast q (get_mem rs no_record i h) in
    let some = named s rs e r m k in
    let within : r.name + r.len ≤ length s = every_member (NameWithin s) rs (names_within s rs e) r m in
    let bytes : take r.len (drop r.name s) ≡ [] = rw (le-leb (r.name + r.len) (length s) within) at n in
    let none : length (take r.len (drop r.name s)) ≡ 0 = ap length bytes in
    omega (arith, length-take r.len (drop r.name s), length-drop r.name s)

pub empty_nowhere : (s : List ℕ) (rs : List Record) → Reads s rs → (owner : ℕ) → sought s owner [] (reading s) ≡ no_place
empty_nowhere s rs e owner = (none_says s rs e owner []).1 (none_empty s rs e owner)

-- and a query whose name reaches outside of the block of names has no answer
pub outside_nowhere : (s file index names : List ℕ) (rs : List Record) → Reads s rs → consulted s (reading s) file index ≡ refused done 0 0
    → (q : Query) → length names < q.start + q.len → answer s (reading s) file index names q ≡ no_place
outside_nowhere s file index names rs e fine q l =
    let nothing : name_in names q ≡ [] = name_outside names q l in
    (answer_none s file index names rs e fine q).1 (rw nothing (none_empty s rs e q.owner))
