-- What an item took can be written: names and string literals are good tokens, numbers are stored values of numerals and codes were found by their words.
use Prim.Native.Nat.{ℕ, ◌+◌}
use mathlib.Core.Path.{◌≡◌, refl, sym, subst}
use mathlib.Core.Bool.{Bool, true, false, cond, not, ◌&&◌, ◌||◌}
use mathlib.Core.List.{List, ◌∷◌}
use native.Mathlib.Omega.{arith}
use borrow.Author.Tests.{eqb-true, eqb-false, eq-eqb, not-true, le-leb}
use lib.Dec.{eqb}
use lib.ListN.{length, take, drop, length-take, length-drop}
use Rattle.lexer.specs.Kinds as Kind
use Rattle.numeral.specs.Numeral.{limit}
use Rattle.numeral.specs.Stored.{value_of}
use Rattle.numeral.proofs.Word.{restored}
use Rattle.word.specs.Words.{same, word_of, word}
use Rattle.word.specs.Codes.{values_of, code_of}
use Rattle.word.specs.Spelling.{second_of}
use Rattle.word.proofs.Words.{both, same_eq}
use Rattle.grammar.specs.Tokens.{Tok, Ahead, Answer, ok, refused, then, complain, matches, expect}
use Rattle.grammar.specs.Tokens as Tokens
use Rattle.grammar.specs.Grammar.{Item, key, keyword, name, own, x, y, semi, value, first, first_key, second, string, code, if_more, no_name, among, whole}
use Rattle.grammar.specs.Engine.{Draft, Frame, set_first, get_name, get_key, expect_key, expect_keyword, expect_ident, parse_number, parse_enum, begins, parse_second, empty, member, item}
use Rattle.grammar.specs.Second.{goes_on, second_key}
use Rattle.grammar.specs.Listed.{Stored}
use Rattle.grammar.specs.Standing.{Every}
use Rattle.grammar.specs.Reading.{Mark}
use Rattle.grammar.proofs.Answers.{Ok, Holds, holds_then, holds_after, holds_cond}
use Rattle.grammar.proofs.Kept.{all, Taken, take_taken}
use Rattle.grammar.proofs.Second.{second_is_listed}
use Rattle.grammar.proofs.Codes.{Coded, keyed_seconds, second_coded}
use Rattle.grammar.proofs.Listed.{number_stored}
use Rattle.render.specs.Pieces.{said}
use Rattle.render.specs.Spelt.{is_spelt}
use Rattle.render.specs.Plain.{Plain}
use Rattle.render.specs.Says.{is_code, is_stored, quoted, holds, gives}
use Rattle.render.proofs.Stands.{Good, plain_rec}
use Rattle.render.proofs.Codes.{second_back, code_back}
use Rattle.render.proofs.Fields.{given, untouched}

-- TAKERS

-- what follows from P and Q for each answer
holds_so : {B : Type 0} (P Q R : B → Type 0) (t : Answer ℕ Mark B) → ((v : B) → P v → Q v → R v) → Holds P t → Holds Q t → Holds R t
holds_so P Q R (ok v b) f p q = f v p q
holds_so P Q R (refused n m) f p q = tt

-- a token of a kind
abbrev Token : ℕ → Tok ℕ Mark → Type 0
Token k t = (t.kind ≡ k) × Good t

module _ (a : Ahead ℕ Mark) (g : Every Good (all a)) where
  good_token : (k : ℕ) → Holds (Token k) (expect k a)
  unfolding expect
  good_token k = go (Tokens.next_token a) (take_taken a)
    where
      go : (s : Answer ℕ Mark (Tok ℕ Mark)) → Ok (Taken a) s → Holds (Token k) (then s (λ t b. cond (eqb t.kind k) (ok t b) (complain 4 b)))
      go (ok t b) h =
          holds_cond (Token k) (eqb t.kind k) (ok t b) (complain 4 b) (λ e. (eqb-true t.kind k e, subst Good (sym h.0) g.0)) (λ e. tt)
      go (refused n p) h = tt

  -- a name that is given again can be written
  label_spelt : (l : List ℕ) → Holds (λ t. is_spelt (said Kind.name l) ≡ true) (expect_ident l a)
  unfolding expect_ident
  label_spelt l = holds_then _ (Token Kind.name) (get_name a) (λ t b. cond (same t.bytes l) (ok t b) (complain 7 b)) (good_token Kind.name)
      (λ t b h. holds_cond _ (same t.bytes l) (ok t b) (complain 7 b) (λ e. subst (λ s. is_spelt (said Kind.name s) ≡ true) (same_eq t.bytes l e) (h.1.0 h.0)) (λ e. tt))

-- what stands between the quotes
string_back : (n : ℕ) (t : Tok ℕ Mark) → Token Kind.string_literal t → length t.bytes ≡ n + 2
    → (eqb (length (take n (drop 1 t.bytes))) n && is_spelt (quoted (take n (drop 1 t.bytes)))) ≡ true
string_back n t h e =
    let l : length (take n (drop 1 t.bytes)) ≡ n = omega (arith, length-take n (drop 1 t.bytes), length-drop 1 t.bytes) in
    rw (eq-eqb _ n l, h.1.1 h.0 n e)

module _ (k : ℕ) (a : Ahead ℕ Mark) where
  -- a value of one word
  abbrev Alone : ℕ → Type 0
  Alone c = (is_code k c && eqb (second_of k c) 0) ≡ true

  value_alone : Holds Alone (parse_enum (λ w. code_of k w 0) a)
  unfolding parse_enum
  value_alone = holds_after Alone (get_name a) _ (λ t b.
      let w = word_of t.bytes in
      let c = code_of k w 0 in
      holds_cond Alone (eqb c 0) (complain 6 b) (ok c b) (λ e. tt)
      (λ e. let z = eqb-false c 0 e in rw (code_back k w 0 c refl z, eq-eqb _ 0 (second_back k w 0 c refl z))))

  module _ (w : ℕ) where
    -- a code that is that of a value with the first word w
    abbrev Begins : ℕ → Type 0
    Begins c = (c ≡ 0 → ⊥) → (u : ℕ) × (c ≡ code_of k w u)

    follow : (v : ℕ) → Begins (cond (eqb v 0) 0 (code_of k w v))
    follow v = go (eqb v 0)
      where
        go : (t : Bool) → Begins (cond t 0 (code_of k w v))
        go true z = absurd (z refl)
        go false z = (v, refl)

    second_begins : Holds Begins (parse_second k w a)
    unfolding parse_enum
    second_begins = rw (second_is_listed k w a)
        (holds_cond Begins (not (goes_on (values_of k) w) || (matches Kind.semicolon a && not (eqb (code_of k w 0) 0))) (ok (code_of k w 0) a) _ (λ e z. (0, refl))
        (λ e. holds_cond Begins (eqb (second_key w) 0) (parse_enum (λ v. cond (eqb v 0) 0 (code_of k w v)) a) (then (expect_key (second_key w) a) (λ v b. ok (code_of k w v) b))
        (λ q. holds_after Begins (get_name a) _ (λ t b.
        let v = word_of t.bytes in
        let c = cond (eqb v 0) 0 (code_of k w v) in
        holds_cond Begins (eqb c 0) (complain 6 b) (ok c b) (λ e. tt) (λ e. follow v)))
        (λ q. holds_after Begins (expect_key (second_key w) a) (λ v b. ok (code_of k w v) b) (λ v b z. (v, refl)))))

    second_coded_back : begins (values_of k) w ≡ true → keyed_seconds k ≡ true → Holds (λ c. is_code k c ≡ true) (parse_second k w a)
    second_coded_back b s = holds_so (Coded k) Begins (λ c. is_code k c ≡ true) (parse_second k w a)
        (λ c p q.
        let z : c ≡ 0 → ⊥ = λ e. omega (arith, p.0) in
        let (u, e) = q z in
        code_back k w u c e z)
        (second_coded k w b s a) second_begins

-- a number that is stored can be said
stored_back : (v : ℕ) → Stored v → is_stored v (value_of v) ≡ true
stored_back v s =
    rw (s.is, restored s.negative s.magnitude s.within, le-leb s.magnitude limit s.within.0, eq-eqb _ _ refl)

-- ITEMS

-- a draft's record with its places
abbrev pub plain : Draft ℕ → Plain
plain d = plain_rec d.rec

-- where the items so far have the first word of a value, it begins one
abbrev pub Begun : List Item → Draft ℕ → Type 0
Begun seen d = untouched 5 seen ≡ false → begins (values_of d.rec.kind) d.first ≡ true

-- a second word comes after a first
unfoldable pub ready : ℕ → List Item → Item → Bool
ready k seen (key w) = true
ready k seen (keyword w) = true
ready k seen name = true
ready k seen own = true
ready k seen x = true
ready k seen y = true
ready k seen semi = true
ready k seen value = true
ready k seen first = true
ready k seen first_key = true
ready k seen second = not (untouched 5 seen) && keyed_seconds k
ready k seen (string n) = true
ready k seen (code c) = true
ready k seen (if_more n) = true
ready k seen no_name = true
ready k seen (among vs) = true
ready k seen (whole n) = true

-- the draft e comes of d by the item: it has what the item gives and all else of d, and what the item asks
pub record Took (f : Frame ℕ) (seen : List Item) (d : Draft ℕ) (i : Item) (e : Draft ℕ) : Type 0 where
  pub given : plain e ≡ gives (plain e) i (plain d)
  pub holds : holds f.label f.lacks (plain e) i ≡ true
  pub begun : Begun (i ∷ seen) e

module _ (f : Frame ℕ) (seen : List Item) (d : Draft ℕ) (a : Ahead ℕ Mark) (s : Begun seen d) (g : Every Good (all a)) where
  abbrev Goes : Item → Draft ℕ → Type 0
  Goes i e = Took f seen d i e

  abbrev kind : ℕ
  kind = d.rec.kind

  pub item_took : (i : Item) → ready kind seen i ≡ true → Holds (Goes i) (item f i d a)
  unfolding item ready holds gives given untouched
  item_took (key w) e = holds_after (Goes (key w)) (expect_key (word w) a) _ (λ t b. record { given = refl; holds = refl; begun = s })
  item_took (keyword w) e = holds_after (Goes (keyword w)) (expect_keyword (word w) a) _ (λ t b. record { given = refl; holds = refl; begun = s })
  item_took name e = holds_then (Goes name) (Token Kind.name) (get_name a) _ (good_token a g Kind.name)
      (λ t b h. record { given = refl; holds = h.1.0 h.0; begun = s })
  item_took own e = holds_then (Goes own) (λ t. is_spelt (said Kind.name f.label) ≡ true) (expect_ident f.label a) _ (label_spelt a g f.label)
      (λ t b h. record { given = refl; holds = h; begun = s })
  item_took x e = holds_then (Goes x) Stored (parse_number a) _ (number_stored a) (λ v b h. record { given = refl; holds = stored_back v h; begun = s })
  item_took y e = holds_then (Goes y) Stored (parse_number a) _ (number_stored a) (λ v b h. record { given = refl; holds = stored_back v h; begun = s })
  item_took semi e = holds_after (Goes semi) (expect Kind.semicolon a) _ (λ t b. record { given = refl; holds = refl; begun = s })
  item_took value e = holds_then (Goes value) (Alone kind a) (parse_enum (λ w. code_of kind w 0) a) _ (value_alone kind a)
      (λ c b h. record { given = refl; holds = h; begun = s })
  item_took first e = holds_after (Goes first) (get_name a) _ (λ t b.
      let w = word_of t.bytes in
      holds_cond (Goes first) (begins (values_of kind) w) (ok (set_first w d) b) (complain 6 b) (λ q. record { given = refl; holds = refl; begun = λ u. q }) (λ q. tt))
  item_took first_key e = holds_after (Goes first_key) (get_key a) _ (λ w b.
      holds_cond (Goes first_key) (begins (values_of kind) w) (ok (set_first w d) b) (complain 6 b) (λ q. record { given = refl; holds = refl; begun = λ u. q }) (λ q. tt))
  item_took second e =
      let (u, v) = both (not (untouched 5 seen)) (keyed_seconds kind) e in
      holds_then (Goes second) (λ c. is_code kind c ≡ true) (parse_second kind d.first a) _
      (second_coded_back kind a d.first (s (not-true (untouched 5 seen) u)) v) (λ c b h. record { given = refl; holds = h; begun = s })
  item_took (string n) e = holds_then (Goes (string n)) (Token Kind.string_literal) (expect Kind.string_literal a) _ (good_token a g Kind.string_literal)
      (λ t b h. holds_cond (Goes (string n)) (eqb (length t.bytes) (n + 2)) _ (complain 6 b)
      (λ q. record { given = refl; holds = string_back n t h (eqb-true (length t.bytes) (n + 2) q); begun = s }) (λ q. tt))
  item_took (code c) e = record { given = refl; holds = eq-eqb c c refl; begun = s }
  item_took (if_more n) e = record { given = refl; holds = refl; begun = s }
  item_took no_name e = holds_cond (Goes no_name) (matches Kind.name a) (complain 8 a) (ok d a) (λ q. tt) (λ q. record { given = refl; holds = refl; begun = s })
  item_took (among vs) e = holds_cond (Goes (among vs)) (member vs d.rec.x) (ok d a) (complain 6 a) (λ q. record { given = refl; holds = q; begun = s }) (λ q. tt)
  item_took (whole n) e = holds_cond (Goes (whole n)) (empty f.lacks) (ok d a) (complain n a) (λ q. record { given = refl; holds = q; begun = s }) (λ q. tt)
