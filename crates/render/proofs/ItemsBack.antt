-- What the items write is read item by item: each taker finds its token, and a test of the items tells it what stands next.
use Prim.Native.Nat.{ℕ, zero, suc, ◌+◌}
use mathlib.Core.Path.{◌≡◌, refl, sym, ap, ◌∙◌}
use mathlib.Core.Bool.{Bool, true, false, cond, ◌&&◌, false≢true}
use mathlib.Core.List.{List, [], ◌∷◌, ◌++◌}
use native.Mathlib.Omega.{arith}
use borrow.Author.Tests.{eqb-true, eq-eqb, not-true}
use lib.Dec.{eqb}
use lib.ListN.{length, take, length-append}
use lib.Seq.{take-append_seam}
use Rattle.text.specs.Text.{bytes}
use Rattle.lexer.specs.Kinds as Kind
use Rattle.numeral.specs.Stored.{value_of}
use Rattle.word.specs.Words.{word_of, word, is_key}
use Rattle.word.specs.Codes.{values_of, code_of}
use Rattle.word.specs.Spelling.{spelling, first_of, second_of}
use Rattle.word.proofs.Words.{both}
use Rattle.grammar.specs.Tokens.{Ahead, Answer, ok, refused, then, complain, matches, expect}
use Rattle.grammar.specs.Grammar.{Item, key, keyword, name, own, x, y, semi, value, first, first_key, second, string, code, if_more, no_name, among, whole}
use Rattle.grammar.specs.Engine.{Maybe, Name, Draft, Frame, set_code, set_name, set_x, set_y, set_first, get_name, get_key, expect_key, expect_keyword, expect_ident, parse_number, parse_enum, begins, parse_second, empty, member, name_of, inside_of, item, items}
use Rattle.grammar.specs.Turns.{label_of}
use Rattle.grammar.specs.Reading.{Mark}
use Rattle.render.specs.Pieces.{Said, said}
use Rattle.render.specs.Spelt.{is_spelt}
use Rattle.render.specs.Plain.{Plain}
use Rattle.render.specs.Says.{is_code, is_stored, word as named, semicolon, quoted, says, shows, any, omitted, says_all, holds, holds_all, with_name, with_code, with_x, with_y, gives, gives_all}
use Rattle.render.proofs.Stands.{standing, ends_no_name}
use Rattle.render.proofs.Codes.{code_some, code_alone, code_begins}
use Rattle.render.proofs.ItemsSpelt.{next_asks, next_code}
use Rattle.render.proofs.TakersBack.{headed, starts, Back, back_then, back_true, expect_back, get_key_back, expect_key_back, expect_keyword_back, expect_ident_back, parse_enum_back, parse_number_back}
use Rattle.render.proofs.LineTokens.{says_start}
use Rattle.render.proofs.WordsBack.{well_spelt, key_first, first_key_lem, first_again, second_none, second_some}
use Rattle.render.proofs.Legible.{leads, no_semi, is_semi, no_word, legible, led, ends_later}

-- WHAT IS BEING READ

-- a draft of the kind k that starts at a place and has an owner, and has what p says
pub record Same (k place : ℕ) (owner : Maybe ℕ) (d : Draft ℕ) (p : Plain) : Type 0 where
  pub kind : d.rec.kind ≡ k
  pub at : d.rec.at ≡ place
  pub owned : d.rec.owner ≡ owner
  pub code : d.rec.code ≡ p.code
  pub name : label_of d.rec.name ≡ p.name
  pub x : d.rec.x ≡ p.x
  pub y : d.rec.y ≡ p.y

-- an item that takes something and sets something, and the items after it
took : {B : Type 0} (P : B → Type 0) (Q : Draft ℕ → Type 0) (ts us : List Said) (t : Answer ℕ Mark B) (k : B → Draft ℕ) (c : Draft ℕ → Ahead ℕ Mark → Answer ℕ Mark (Draft ℕ))
    → Back P ts t → ((v : B) (b : Ahead ℕ Mark) → P v → standing b ≡ ts → Back Q us (c (k v) b)) → Back Q us (then (then t (λ v b. ok (k v) b)) c)
took P Q ts us (ok v b) k c h f = f v b h.0 h.1
took P Q ts us (refused n m) k c h f = absurd h

-- an item that takes nothing and looks at something
module _ (Q : Draft ℕ → Type 0) (us : List Said) (n : ℕ) (d : Draft ℕ) (a : Ahead ℕ Mark) (c : Draft ℕ → Ahead ℕ Mark → Answer ℕ Mark (Draft ℕ)) where
  passes : (t : Bool) → t ≡ true → Back Q us (c d a) → Back Q us (then (cond t (ok d a) (complain n a)) c)
  passes true e h = h
  passes false e h = absurd (false≢true e)

  spares : (t : Bool) → t ≡ false → Back Q us (c d a) → Back Q us (then (cond t (complain n a) (ok d a)) c)
  spares true e h = absurd (false≢true (sym e))
  spares false e h = h

-- what the test of what stands first tells of the token held
pub held_first : (p : ℕ → Bool) (a : Ahead ℕ Mark) (ts : List Said) → standing a ≡ ts → headed p ts ≡ true → p a.held.kind ≡ true
held_first p a ts z h = rw (← z) at h

-- THE ITEMS

module _ (f : Frame ℕ) (r : Plain) (place : ℕ) (owner : Maybe ℕ) (us : List Said) (s : starts us ≡ true) where
  abbrev Read : Plain → Draft ℕ → Type 0
  Read p d = Same r.kind place owner d p

  abbrev rest : ℕ → List Item → List Said
  rest m is = says_all m f.label is r ++ us

  abbrev asked : ℕ → List Item → Bool
  asked m is = holds_all m f.label f.lacks is r

  start : (m : ℕ) (is : List Item) → starts (rest m is) ≡ true
  start m is = says_start f.label r us s m is

  recoded : (c : ℕ) (d : Draft ℕ) (p : Plain) → Read p d → (b : ℕ) → b ≡ c → Read (with_code c p) (set_code b d)
  recoded c d p h b e = record { kind = h.kind; at = h.at; owned = h.owned; code = e; name = h.name; x = h.x; y = h.y }

  renamed : (n : List ℕ) (d : Draft ℕ) (p : Plain) → Read p d → (b : Name ℕ) → b.bytes ≡ n → Read (with_name n p) (set_name b d)
  renamed n d p h b e = record { kind = h.kind; at = h.at; owned = h.owned; code = h.code; name = e; x = h.x; y = h.y }

  refirst : (w : ℕ) (d : Draft ℕ) (p : Plain) → Read p d → Read p (set_first w d)
  refirst w d p h = record { kind = h.kind; at = h.at; owned = h.owned; code = h.code; name = h.name; x = h.x; y = h.y }

  -- an optional part, or none of it
  more : (n : ℕ) (is : List Item) (d : Draft ℕ) (p : Plain) (a : Ahead ℕ Mark) → leads no_semi 0 is ≡ true → leads is_semi n is ≡ true
      → (asked 0 is ≡ true → standing a ≡ rest 0 is → Back (Read (gives_all 0 is r p)) us (items 0 f is d a))
      → (asked n is ≡ true → standing a ≡ rest n is → Back (Read (gives_all n is r p)) us (items n f is d a))
      → (t : Bool) → asked (cond t 0 n) is ≡ true → standing a ≡ rest (cond t 0 n) is
      → Back (Read (gives_all (cond t 0 n) is r p)) us (items (cond (matches Kind.semicolon a) n 0) f is d a)
  more n is d p a b k with_it without true e z = rw (not-true (matches Kind.semicolon a) (held_first no_semi a (rest 0 is) z (led f.label r us no_semi 0 is b))) (with_it e z)
  more n is d p a b k with_it without false e z =
      let m : matches Kind.semicolon a ≡ true = held_first is_semi a (rest n is) z (led f.label r us is_semi n is k) in
      rw m (without e z)

  -- the second word, or none
  seconded : (is : List Item) → is_code r.kind r.code ≡ true → well_spelt r.kind ≡ true → leads is_semi 0 is ≡ true → (a : Ahead ℕ Mark) (t : Bool)
      → eqb (second_of r.kind r.code) 0 ≡ t → standing a ≡ (cond t [] (named (second_of r.kind r.code) ∷ []) ++ says_all 0 f.label is r) ++ us
      → Back (λ u. u ≡ r.code) (rest 0 is) (parse_second r.kind (first_of r.kind r.code) a)
  seconded is c w l a true e z = second_none r.kind r.code c w e a (rest 0 is) z (held_first is_semi a (rest 0 is) z (led f.label r us is_semi 0 is l))
  seconded is c w l a false e z = second_some r.kind r.code c w e a (rest 0 is) z (start 0 is)

  -- the first word
  firsted : (is : List Item) (d : Draft ℕ) (b : Ahead ℕ Mark) (w : ℕ) → d.rec.kind ≡ r.kind → is_code r.kind r.code ≡ true → w ≡ first_of r.kind r.code → standing b ≡ rest 0 is
      → Back (λ e. e ≡ set_first (first_of r.kind r.code) d) (rest 0 is) (cond (begins (values_of d.rec.kind) w) (ok (set_first w d) b) (complain 6 b))
  firsted is d b w k c e z =
      back_true (λ e. e ≡ set_first (first_of r.kind r.code) d) (rest 0 is) (begins (values_of d.rec.kind) w) (ok (set_first w d) b) (complain 6 b)
      (rw (k, e) (code_begins r.kind r.code c)) (ap (λ v. set_first v d) e, z)

  -- WHAT THE ITEMS WRITE IS READ, the first m of them left out: where g the first word of a value was read, and where h the number x
  pub items_back : (m : ℕ) (is : List Item) (g h : Bool) → legible r.kind m g h is ≡ true → (d : Draft ℕ) (p : Plain) → Read p d
      → (g ≡ true → d.first ≡ first_of r.kind r.code) → (h ≡ true → d.rec.x ≡ r.x)
      → asked m is ≡ true → (ends_no_name is ≡ true → headed no_word us ≡ true)
      → (a : Ahead ℕ Mark) → standing a ≡ rest m is → Back (Read (gives_all m is r p)) us (items m f is d a)
  unfolding items item legible says_all says omitted holds_all holds gives_all gives ends_no_name
  items_back m [] g h t d p l i j e q a z = (l, z)
  items_back (suc m) (v ∷ is) g h t d p l i j e q a z = items_back m is g h t d p l i j e (λ n. q (ends_later v is n)) a z
  items_back zero (key w ∷ is) g h t d p l i j e q a z =
      let (k, n) = both (is_key (word w)) (legible r.kind 0 g h is) t in
      took (λ v. v ≡ word w) (Read (gives_all 0 is r p)) (rest 0 is) us (expect_key (word w) a) (λ v. d) (λ e b. items 0 f is e b)
      (expect_key_back a (said Kind.name (bytes w)) (rest 0 is) z (start 0 is) refl (word w) refl k)
      (λ v b c o. items_back 0 is g h n d p l i j e q b o)
  items_back zero (keyword w ∷ is) g h t d p l i j e q a z =
      took (λ v. v ≡ word w) (Read (gives_all 0 is r p)) (rest 0 is) us (expect_keyword (word w) a) (λ v. d) (λ e b. items 0 f is e b)
      (expect_keyword_back a (said Kind.name (bytes w)) (rest 0 is) z (start 0 is) refl (word w) refl)
      (λ v b c o. items_back 0 is g h t d p l i j e q b o)
  items_back zero (name ∷ is) g h t d p l i j e q a z =
      took (λ u. u.bytes ≡ r.name) (Read (gives_all 0 is r (with_name r.name p))) (rest 0 is) us (get_name a) (λ u. set_name (name_of u) d) (λ e b. items 0 f is e b)
      (expect_back a (said Kind.name r.name) (rest 0 is) z (start 0 is) Kind.name refl)
      (λ u b c o. items_back 0 is g h t (set_name (name_of u) d) (with_name r.name p) (renamed r.name d p l (name_of u) c) i j (both (is_spelt (said Kind.name r.name)) (asked 0 is) e).1 q b o)
  items_back zero (own ∷ is) g h t d p l i j e q a z =
      took (λ u. u.bytes ≡ f.label) (Read (gives_all 0 is r p)) (rest 0 is) us (expect_ident f.label a) (λ u. d) (λ e b. items 0 f is e b)
      (expect_ident_back a (said Kind.name f.label) (rest 0 is) z (start 0 is) refl)
      (λ u b c o. items_back 0 is g h t d p l i j (both (is_spelt (said Kind.name f.label)) (asked 0 is) e).1 q b o)
  items_back zero (x ∷ is) g h t d p l i j e q a z =
      let (n, k) = both (is_stored r.x (value_of r.x)) (asked 0 is) e in
      took (λ v. v ≡ r.x) (Read (gives_all 0 is r (with_x r.x p))) (rest 0 is) us (parse_number a) (λ v. set_x v d) (λ e b. items 0 f is e b)
      (parse_number_back a r.x (rest 0 is) z (start 0 is) n)
      (λ v b c o. items_back 0 is g true t (set_x v d) (with_x r.x p) (record { kind = l.kind; at = l.at; owned = l.owned; code = l.code; name = l.name; x = c; y = l.y }) i (λ n. c) k q b o)
  items_back zero (y ∷ is) g h t d p l i j e q a z =
      let (n, k) = both (is_stored r.y (value_of r.y)) (asked 0 is) e in
      took (λ v. v ≡ r.y) (Read (gives_all 0 is r (with_y r.y p))) (rest 0 is) us (parse_number a) (λ v. set_y v d) (λ e b. items 0 f is e b)
      (parse_number_back a r.y (rest 0 is) z (start 0 is) n)
      (λ v b c o. items_back 0 is g h t (set_y v d) (with_y r.y p) (record { kind = l.kind; at = l.at; owned = l.owned; code = l.code; name = l.name; x = l.x; y = c }) i j k q b o)
  items_back zero (semi ∷ is) g h t d p l i j e q a z =
      took (λ u. u.bytes ≡ 59 ∷ []) (Read (gives_all 0 is r p)) (rest 0 is) us (expect Kind.semicolon a) (λ u. d) (λ e b. items 0 f is e b)
      (expect_back a semicolon (rest 0 is) z (start 0 is) Kind.semicolon refl)
      (λ u b c o. items_back 0 is g h t d p l i j e q b o)
  items_back zero (value ∷ is) g h t d p l i j e q a z =
      let (w, n) = both (well_spelt r.kind) (legible r.kind 0 g h is) t in
      let (u, k) = both (is_code r.kind r.code && eqb (second_of r.kind r.code) 0) (asked 0 is) e in
      let (c, v) = both (is_code r.kind r.code) (eqb (second_of r.kind r.code) 0) u in
      took (λ v. v ≡ r.code) (Read (gives_all 0 is r (with_code r.code p))) (rest 0 is) us (parse_enum (λ w. code_of d.rec.kind w 0) a) (λ v. set_code v d) (λ e b. items 0 f is e b)
      (parse_enum_back a (named (first_of r.kind r.code)) (rest 0 is) z (start 0 is) refl (λ w. code_of d.rec.kind w 0) r.code
      (rw (l.kind, first_again r.kind r.code c w) (code_alone r.kind r.code c v)) (code_some r.kind r.code c))
      (λ v b c o. items_back 0 is g h n (set_code v d) (with_code r.code p) (recoded r.code d p l v c) i j k q b o)
  items_back zero (first ∷ is) g h t d p l i j e q a z =
      let (w, n) = both (next_asks is) (well_spelt r.kind && legible r.kind 0 true h is) t in
      let (v, k) = both (well_spelt r.kind) (legible r.kind 0 true h is) n in
      let c = next_code f.label f.lacks r is w e in
      let u = first_of r.kind r.code in
      back_then (λ e. e ≡ set_first u d) (Read (gives_all 0 is r p)) (rest 0 is) us (item f first d a) (λ e b. items 0 f is e b)
      (back_then (λ t. t.bytes ≡ spelling u) (λ e. e ≡ set_first u d) (rest 0 is) (rest 0 is) (get_name a) _
      (expect_back a (named u) (rest 0 is) z (start 0 is) Kind.name refl)
      (λ t b y o. firsted is d b (word_of t.bytes) l.kind c (ap word_of y ∙ first_again r.kind r.code c v) o))
      (λ b o y z. rw y (items_back 0 is true h k (set_first u d) p (refirst u d p l) (λ n. refl) j e q o z))
  items_back zero (first_key ∷ is) g h t d p l i j e q a z =
      let (w, n) = both (next_asks is) (well_spelt r.kind && (key_first r.kind && legible r.kind 0 true h is)) t in
      let (v, m) = both (well_spelt r.kind) (key_first r.kind && legible r.kind 0 true h is) n in
      let (o, k) = both (key_first r.kind) (legible r.kind 0 true h is) m in
      let c = next_code f.label f.lacks r is w e in
      let u = first_of r.kind r.code in
      let y = first_again r.kind r.code c v in
      back_then (λ e. e ≡ set_first u d) (Read (gives_all 0 is r p)) (rest 0 is) us (item f first_key d a) (λ e b. items 0 f is e b)
      (back_then (λ w. w ≡ word_of (spelling u)) (λ e. e ≡ set_first u d) (rest 0 is) (rest 0 is) (get_key a) _
      (get_key_back a (named u) (rest 0 is) z (start 0 is) refl (rw y (first_key_lem r.kind r.code c o)))
      (λ w b x o. firsted is d b w l.kind c (x ∙ y) o))
      (λ b o y z. rw y (items_back 0 is true h k (set_first u d) p (refirst u d p l) (λ n. refl) j e q o z))
  items_back zero (second ∷ is) g h t d p l i j e q a z =
      let (b, n) = both g (well_spelt r.kind && (leads is_semi 0 is && legible r.kind 0 g h is)) t in
      let (w, m) = both (well_spelt r.kind) (leads is_semi 0 is && legible r.kind 0 g h is) n in
      let (u, k) = both (leads is_semi 0 is) (legible r.kind 0 g h is) m in
      let (c, v) = both (is_code r.kind r.code) (asked 0 is) e in
      took (λ v. v ≡ r.code) (Read (gives_all 0 is r (with_code r.code p))) (rest 0 is) us (parse_second d.rec.kind d.first a) (λ v. set_code v d) (λ e b. items 0 f is e b)
      (rw (l.kind, i b) (seconded is c w u a (eqb (second_of r.kind r.code) 0) refl z))
      (λ u b c o. items_back 0 is g h k (set_code u d) (with_code r.code p) (recoded r.code d p l u c) i j v q b o)
  items_back zero (string n ∷ is) g h t d p l i j e q a z =
      let (c, k) = both (eqb (length r.name) n && is_spelt (quoted r.name)) (asked 0 is) e in
      let m = eqb-true (length r.name) n (both (eqb (length r.name) n) (is_spelt (quoted r.name)) c).0 in
      back_then (λ e. Read (with_name r.name p) e × (e.first ≡ d.first) × (e.rec.x ≡ d.rec.x)) (Read (gives_all 0 is r (with_name r.name p))) (rest 0 is) us (item f (string n) d a) (λ e b. items 0 f is e b)
      (back_then (λ u. u.bytes ≡ (quoted r.name).bytes) (λ e. Read (with_name r.name p) e × (e.first ≡ d.first) × (e.rec.x ≡ d.rec.x)) (rest 0 is) (rest 0 is) (expect Kind.string_literal a) _
      (expect_back a (quoted r.name) (rest 0 is) z (start 0 is) Kind.string_literal refl)
      (λ u b y o. back_true _ (rest 0 is) (eqb (length u.bytes) (n + 2)) (ok (set_name (inside_of n u) d) b) (complain 6 b)
      (eq-eqb (length u.bytes) (n + 2) (rw y (omega (arith, m, length-append r.name (34 ∷ []))))) ((renamed r.name d p l (inside_of n u) (rw (y, ← m) (take-append_seam r.name (34 ∷ []))), refl, refl), o)))
      (λ u b y o. items_back 0 is g h t u (with_name r.name p) y.0 (λ n. y.1 ∙ i n) (λ n. y.2 ∙ j n) k q b o)
  items_back zero (code c ∷ is) g h t d p l i j e q a z =
      items_back 0 is g h t (set_code c d) (with_code c p) (recoded c d p l c refl) i j (both (eqb r.code c) (asked 0 is) e).1 q a z
  items_back zero (if_more n ∷ is) g h t d p l i j e q a z =
      let (v, w) = both (leads no_semi 0 is && legible r.kind 0 g h is) (leads is_semi n is && legible r.kind n g h is) t in
      let (b, c) = both (leads no_semi 0 is) (legible r.kind 0 g h is) v in
      let (k, m) = both (leads is_semi n is) (legible r.kind n g h is) w in
      more n is d p a b k (λ e z. items_back 0 is g h c d p l i j e q a z) (λ e z. items_back n is g h m d p l i j e q a z) (any (shows r) (take n is)) e z
  items_back zero (no_name ∷ []) g h t d p l i j e q a z = spares (Read p) us 8 d a (λ e b. items 0 f [] e b) (matches Kind.name a) (not-true _ (held_first no_word a us z (q refl))) (l, z)
  items_back zero (no_name ∷ v ∷ is) g h t d p l i j e q a z =
      let (n, k) = both (leads no_word 0 (v ∷ is)) (legible r.kind 0 g h (v ∷ is)) t in
      spares (Read (gives_all 0 (v ∷ is) r p)) us 8 d a (λ e b. items 0 f (v ∷ is) e b) (matches Kind.name a) (not-true _ (held_first no_word a (rest 0 (v ∷ is)) z (led f.label r us no_word 0 (v ∷ is) n)))
      (items_back 0 (v ∷ is) g h k d p l i j e q a z)
  items_back zero (among vs ∷ is) g h t d p l i j e q a z =
      let (b, n) = both h (legible r.kind 0 g h is) t in
      let (m, k) = both (member vs r.x) (asked 0 is) e in
      passes (Read (gives_all 0 is r p)) us 6 d a (λ e b. items 0 f is e b) (member vs d.rec.x) (rw (j b) m) (items_back 0 is g h n d p l i j k q a z)
  items_back zero (whole n ∷ is) g h t d p l i j e q a z =
      let (m, k) = both (empty f.lacks) (asked 0 is) e in
      passes (Read (gives_all 0 is r p)) us n d a (λ e b. items 0 f is e b) (empty f.lacks) m (items_back 0 is g h t d p l i j k q a z)
