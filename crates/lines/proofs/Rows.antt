-- The row that the word of a record begins is the one that has the record's form: the words of a block are distinct, and the word that is
-- found for a row's records is the row's.
use Prim.Native.Nat.{ℕ, ◌≤◌, ◌<◌}
use Prim.Native.String.{String}
use mathlib.Core.Path.{◌≡◌, refl, sym, ap, ◌∙◌}
use mathlib.Core.Bool.{Bool, true, false, cond, not, ◌&&◌, ◌||◌}
use mathlib.Core.List.{List, [], ◌∷◌, ◌++◌, map}
use native.Mathlib.Omega.{arith}
use borrow.Author.Tests.{eqb-true, eqb-false, not-true}
use lib.Dec.{eqb}
use Rattle.word.specs.Words.{word}
use Rattle.word.proofs.Words.{clash, both}
use Rattle.grammar.specs.Grammar.{Item, key, keyword, name, own, x, y, semi, value, first, first_key, second, string, code, if_more, no_name, among, whole, Act, statement, close, refuse, back, up_to54, Row, Body, keyed, worded, options, parts, counted}
use Rattle.grammar.specs.Engine.{none, some, member}
use Rattle.grammar.specs.Turns.{act_for}
use Rattle.rows.specs.Packed.{look_up, form_of, part_of, rows_of, coded, word_of_kind}
use Rattle.rows.proofs.Laws.{words_in}
use Rattle.render.specs.Spelt.{all}
use Rattle.render.specs.Plain.{Plain}
use Rattle.render.specs.Forms.{Form, form, forms_of, row_forms, forms_in, of_code, is_of, form_for}
use Rattle.lines.specs.Formed.{begin_of, form_by, word_for}

-- THE TEST

-- the word of a kind whatever the code
unfoldable pub plainly : ℕ → ℕ → Bool
plainly w k = not (coded k) && eqb (word_of_kind k) w

-- the word w begins the records with these items
unfoldable pub begun : ℕ → ℕ → List Item → Bool
begun w k [] = plainly w k
begun w k (key v ∷ is) = plainly w k
begun w k (keyword v ∷ is) = plainly w k
begun w k (name ∷ is) = plainly w k
begun w k (own ∷ is) = plainly w k
begun w k (x ∷ is) = plainly w k
begun w k (y ∷ is) = plainly w k
begun w k (semi ∷ is) = plainly w k
begun w k (value ∷ is) = plainly w k
begun w k (first ∷ is) = plainly w k
begun w k (first_key ∷ is) = plainly w k
begun w k (second ∷ is) = plainly w k
begun w k (string n ∷ is) = plainly w k
begun w k (code c ∷ is) = eqb (word_for k c) w
begun w k (if_more n ∷ is) = plainly w k
begun w k (no_name ∷ is) = plainly w k
begun w k (among vs ∷ is) = plainly w k
begun w k (whole n ∷ is) = plainly w k

unfoldable pub suits : ℕ → Act → Bool
suits w (statement k is m) = begun w k is
suits w (close is) = true
suits w (refuse n) = true
suits w back = true
suits w (up_to54 a) = suits w a

unfoldable pub distinct : List ℕ → Bool
distinct [] = true
distinct (w ∷ ws) = not (member ws w) && distinct ws

pub record Tested (rows : List Row) : Type 0 where
  pub suit : all (λ w. suits (word w.begin) w.act) rows ≡ true
  pub differ : distinct (words_in rows) ≡ true
  pub spelt : map (λ w. begin_of (word w.begin)) rows ≡ map (λ w. w.begin ∷ []) rows

-- the word found for such a record is the row's
module _ (w k c : ℕ) where
  plain_word : plainly w k ≡ true → word_for k c ≡ w
  unfolding plainly word_for
  plain_word t =
      let (p, q) = both (not (coded k)) (eqb (word_of_kind k) w) t in
      rw (not-true (coded k) p) (eqb-true (word_of_kind k) w q)

  word_found : (is : List Item) → begun w k is ≡ true → of_code is c ≡ true → word_for k c ≡ w
  unfolding begun of_code
  word_found [] t e = plain_word t
  word_found (key v ∷ is) t e = plain_word t
  word_found (keyword v ∷ is) t e = plain_word t
  word_found (name ∷ is) t e = plain_word t
  word_found (own ∷ is) t e = plain_word t
  word_found (x ∷ is) t e = plain_word t
  word_found (y ∷ is) t e = plain_word t
  word_found (semi ∷ is) t e = plain_word t
  word_found (value ∷ is) t e = plain_word t
  word_found (first ∷ is) t e = plain_word t
  word_found (first_key ∷ is) t e = plain_word t
  word_found (second ∷ is) t e = plain_word t
  word_found (string n ∷ is) t e = plain_word t
  word_found (code b ∷ is) t e = rw (← eqb-true b c e) (eqb-true (word_for k b) w t)
  word_found (if_more n ∷ is) t e = plain_word t
  word_found (no_name ∷ is) t e = plain_word t
  word_found (among vs ∷ is) t e = plain_word t
  word_found (whole n ∷ is) t e = plain_word t

-- THE ROW

module _ (r : Plain) where
  abbrev found : ℕ
  found = word_for r.kind r.code

  -- a row of another word
  not_this : (s : String) (o : Bool) (a : Act) (ms : List Form) → suits (word s) a ≡ true → eqb (word s) found ≡ false → form_for r (forms_of s o a ++ ms) ≡ form_for r ms
  unfolding suits forms_of form_for is_of
  not_this s o (statement k is m) ms t n = go (eqb k r.kind) (of_code is r.code) refl refl
    where
      go : (p q : Bool) → eqb k r.kind ≡ p → of_code is r.code ≡ q → cond (p && q) (some (form k (s ∷ []) is m o)) (form_for r ms) ≡ form_for r ms
      go true true e f = absurd (eqb-false (word s) found n (sym (rw (eqb-true k r.kind e) at (word_found (word s) k r.code is t f))))
      go true false e f = refl
      go false q e f = refl
  not_this s o (close is) ms t n = refl
  not_this s o (refuse m) ms t n = refl
  not_this s o back ms t n = refl
  not_this s o (up_to54 a) ms t n = not_this s true a ms t n

  -- the row of the word, where no other has the record
  this : (s : String) (o : Bool) (a : Act) (ms : List Form) → begin_of (word s) ≡ s ∷ [] → form_for r ms ≡ none → form_for r (forms_of s o a ++ ms) ≡ form_by (word s) r.kind r.code o a
  unfolding forms_of form_for is_of form_by
  this s o (statement k is m) ms b n = rw (b, n)
  this s o (close is) ms b n = n
  this s o (refuse m) ms b n = n
  this s o back ms b n = n
  this s o (up_to54 a) ms b n = this s true a ms b n

  -- rows of other words
  elsewhere : (rows : List Row) → all (λ w. suits (word w.begin) w.act) rows ≡ true → member (words_in rows) found ≡ false → form_for r (row_forms rows) ≡ none
  unfolding all member row_forms form_for
  elsewhere [] t n = refl
  elsewhere (w ∷ ws) t n =
      let (p, q) = both (suits (word w.begin) w.act) (all (λ w. suits (word w.begin) w.act) ws) t in
      let (u, v) = neither (eqb (word w.begin) found) (member (words_in ws) found) n in
      not_this w.begin false w.act (row_forms ws) p u ∙ elsewhere ws q v
    where
      neither : (a b : Bool) → a || b ≡ false → (a ≡ false) × (b ≡ false)
      neither true b e = clash e
      neither false b e = (refl, e)

  form_found : (n : ℕ) (rows : List Row) → Tested rows → form_for r (row_forms rows) ≡ form_by found r.kind r.code false (act_for n found rows)
  unfolding all distinct row_forms form_for form_by act_for
  form_found n [] t = refl
  form_found n (w ∷ ws) t =
      let (p, q) = both (suits (word w.begin) w.act) (all (λ w. suits (word w.begin) w.act) ws) t.suit in
      let (u, v) = both (not (member (words_in ws) (word w.begin))) (distinct (words_in ws)) t.differ in
      let heads : begin_of (word w.begin) ≡ w.begin ∷ [] = cc t.spelt in
      let tails : map (λ w. begin_of (word w.begin)) ws ≡ map (λ w. w.begin ∷ []) ws = cc t.spelt in
      go (eqb (word w.begin) found) refl p q (not-true (member (words_in ws) (word w.begin)) u) heads
      (form_found n ws (record { suit = q; differ = v; spelt = tails }))
    where
      go : (b : Bool) → eqb (word w.begin) found ≡ b → suits (word w.begin) w.act ≡ true → all (λ w. suits (word w.begin) w.act) ws ≡ true
          → member (words_in ws) (word w.begin) ≡ false → begin_of (word w.begin) ≡ w.begin ∷ []
          → form_for r (row_forms ws) ≡ form_by found r.kind r.code false (act_for n found ws)
          → form_for r (row_forms (w ∷ ws)) ≡ form_by found r.kind r.code false (cond b w.act (act_for n found ws))
      go true e p q m h ih =
          let i = eqb-true (word w.begin) found e in
          this w.begin false w.act (row_forms ws) h (elsewhere ws q (rw i at m)) ∙ ap (λ u. form_by u r.kind r.code false w.act) i
      go false e p q m h ih = not_this w.begin false w.act (row_forms ws) p e ∙ ih

  -- THE FORM IN A BLOCK

  pub with_words : (b : Body) → Tested (rows_of b) → form_of b < 3 → form_for r (forms_in b) ≡ form_by found r.kind r.code false (look_up b found)
  unfolding form_of forms_in look_up
  with_words (keyed n rows) t h = form_found n rows t
  with_words (worded rows) t h = form_found 5 rows t
  with_words (options rows b) t h = form_found 5 rows t
  with_words (parts k is) t h = absurd (omega arith)
  with_words (counted k is) t h = absurd (omega arith)

  pub of_parts : (b : Body) → 3 ≤ form_of b → form_for r (forms_in b) ≡ form_by 0 r.kind r.code false (part_of b)
  unfolding form_of forms_in part_of form_for is_of form_by begin_of
  of_parts (keyed n rows) h = absurd (omega arith)
  of_parts (worded rows) h = absurd (omega arith)
  of_parts (options rows b) h = absurd (omega arith)
  of_parts (parts k is) h = refl
  of_parts (counted k is) h = refl
