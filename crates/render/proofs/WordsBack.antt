-- The words of a value are written so that they are read as its code: a value that has a code stands in its kind's list, and the list is tested.
use Prim.Native.Nat.{ℕ}
use mathlib.Core.Path.{◌≡◌, refl, ◌∙◌}
use mathlib.Core.Bool.{Bool, true, false, cond, not, ◌&&◌, ◌||◌}
use mathlib.Core.List.{List, ◌∷◌}
use borrow.Author.Tests.{eqb-true}
use lib.Dec.{eqb}
use Rattle.lexer.specs.Kinds as Kind
use Rattle.word.specs.Words.{word_of, is_key}
use Rattle.word.specs.Codes.{values_of, code_of}
use Rattle.word.specs.Spelling.{spelling, first_of, second_of}
use Rattle.word.proofs.Words.{both}
use Rattle.grammar.specs.Tokens.{Ahead, ok, then, matches}
use Rattle.grammar.specs.Engine.{expect_key, parse_enum, parse_second}
use Rattle.grammar.specs.Second.{goes_on, second_key}
use Rattle.grammar.specs.Reading.{Mark}
use Rattle.grammar.proofs.Second.{second_is_listed}
use Rattle.render.specs.Pieces.{Said}
use Rattle.render.specs.Says.{is_code, word}
use Rattle.render.proofs.Tested.{or_right}
use Rattle.render.proofs.Stands.{standing}
use Rattle.render.proofs.Codes.{each_value, code_some, code_again, code_alone, code_goes, code_passes}
use Rattle.render.proofs.TakersBack.{starts, held_kind, Back, back_then, back_true, back_false, expect_key_back, parse_enum_back}

-- A TEST OF VALUES

-- the words are read as what they are, and a second word that the reader takes as a key word is that key word
unfoldable pub tied : ℕ → ℕ → Bool
tied w v = eqb (word_of (spelling w)) w && (eqb (word_of (spelling v)) v && (eqb v 0 || (eqb (second_key w) 0 || (eqb v (second_key w) && is_key v))))

unfoldable pub well_spelt : ℕ → Bool
well_spelt k = each_value tied (values_of k)

unfoldable pub key_first : ℕ → Bool
key_first k = each_value (λ w v. is_key w) (values_of k)

module _ (k c : ℕ) (h : is_code k c ≡ true) where
  abbrev w : ℕ
  w = first_of k c

  abbrev v : ℕ
  v = second_of k c

  -- no second word is read
  abbrev alone : Ahead ℕ Mark → Bool
  alone a = not (goes_on (values_of k) w) || (matches Kind.semicolon a && not (eqb (code_of k w 0) 0))

  pub first_key_lem : key_first k ≡ true → is_key w ≡ true
  unfolding key_first
  first_key_lem t = code_passes k c h (λ w v. is_key w) t

  module _ (t : well_spelt k ≡ true) where
    is_tied : (word_of (spelling w) ≡ w) × (word_of (spelling v) ≡ v) × (eqb v 0 || (eqb (second_key w) 0 || (eqb v (second_key w) && is_key v)) ≡ true)
    unfolding well_spelt tied
    is_tied =
        let x = eqb (word_of (spelling w)) w in
        let y = eqb (word_of (spelling v)) v in
        let z = eqb v 0 || (eqb (second_key w) 0 || (eqb v (second_key w) && is_key v)) in
        let (p, q) = both x (y && z) (code_passes k c h tied t) in
        let (r, s) = both y z q in
        (eqb-true _ w p, eqb-true _ v r, s)

    pub first_again : word_of (spelling w) ≡ w
    first_again = is_tied.0

    -- where there is no second word and `;` is held
    pub second_none : eqb v 0 ≡ true → (a : Ahead ℕ Mark) (ts : List Said) → standing a ≡ ts → matches Kind.semicolon a ≡ true → Back (λ u. u ≡ c) ts (parse_second k w a)
    second_none e a ts z m =
        let i = code_alone k c h e in
        rw (second_is_listed k w a)
        (back_true (λ u. u ≡ c) ts (alone a) (ok (code_of k w 0) a) _ (rw (m, i, code_some k c h) (or_right (not (goes_on (values_of k) w)) refl)) (i, z))

    -- where there is one
    module _ (e : eqb v 0 ≡ false) (a : Ahead ℕ Mark) (ts : List Said) (z : standing a ≡ word v ∷ ts) (s : starts ts ≡ true) where
      abbrev follow : ℕ → ℕ
      follow v = cond (eqb v 0) 0 (code_of k w v)

      taken : (d : Bool) → eqb (second_key w) 0 ≡ d → Back (λ u. u ≡ c) ts (cond d (parse_enum follow a) (then (expect_key (second_key w) a) (λ v b. ok (code_of k w v) b)))
      taken true q = parse_enum_back a (word v) ts z s refl follow c (rw (is_tied.1, e) (code_again k c h)) (code_some k c h)
      taken false q =
          let (x, y) = both (eqb v (second_key w)) (is_key v) (rw (e, q) at is_tied).2 in
          let i = eqb-true v (second_key w) x in
          back_then (λ u. u ≡ second_key w) (λ u. u ≡ c) ts ts (expect_key (second_key w) a) (λ v b. ok (code_of k w v) b)
          (expect_key_back a (word v) ts z s refl (second_key w) (is_tied.1 ∙ i) (rw (← i) y))
          (λ u b q y. (rw (q, ← i) (code_again k c h), y))

      pub second_some : Back (λ u. u ≡ c) ts (parse_second k w a)
      second_some = rw (second_is_listed k w a)
          (back_false (λ u. u ≡ c) ts (alone a) (ok (code_of k w 0) a) _ (rw (code_goes k c h e, held_kind a (word v) ts z)) (taken (eqb (second_key w) 0) refl))
