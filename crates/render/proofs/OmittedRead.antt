-- The writer leaves out of a record what the reader passed over: an optional part that was read shows in the record, and one that was not
-- leaves its fields empty.
use Prim.Native.Nat.{ℕ, zero, suc}
use mathlib.Core.Path.{◌≡◌, refl, sym, subst, ◌∙◌}
use mathlib.Core.Bool.{Bool, true, false, cond, not, ◌&&◌, ◌||◌, false≢true}
use mathlib.Core.List.{List, [], ◌∷◌}
use borrow.Author.Tests.{eqb-true, not-true}
use lib.Dec.{eqb}
use lib.ListN.{take, drop}
use Rattle.lexer.specs.Kinds as Kind
use Rattle.word.proofs.Words.{both}
use Rattle.grammar.specs.Tokens.{Ahead, matches}
use Rattle.grammar.specs.Grammar.{Item, key, keyword, name, own, x, y, semi, value, first, first_key, second, string, code, if_more, no_name, among, whole}
use Rattle.grammar.specs.Engine.{empty, passed}
use Rattle.grammar.specs.Reading.{Mark}
use Rattle.grammar.proofs.Listed.{skip}
use Rattle.render.specs.Pieces.{said}
use Rattle.render.specs.Spelt.{is_name, is_token, is_spelt}
use Rattle.render.specs.Plain.{Plain}
use Rattle.render.specs.Says.{holds, holds_all, shows, any, omitted}
use Rattle.render.specs.Forms.{nobody}
use Rattle.render.proofs.Tested.{or_right}
use Rattle.render.proofs.Fields.{part, asked, untouched, alike}

-- an item begins an optional part, or passes over nothing
pub by_part : (P : Item → Type 0) → ((n : ℕ) → P (if_more n)) → ((i : Item) → ((r : Plain) (is : List Item) → omitted r i is ≡ 0) → ((b : Ahead ℕ Mark) → passed i b ≡ 0) → P i)
    → (i : Item) → P i
unfolding omitted
by_part P p q (key w) = q (key w) (λ r is. refl) (λ b. refl)
by_part P p q (keyword w) = q (keyword w) (λ r is. refl) (λ b. refl)
by_part P p q name = q name (λ r is. refl) (λ b. refl)
by_part P p q own = q own (λ r is. refl) (λ b. refl)
by_part P p q x = q x (λ r is. refl) (λ b. refl)
by_part P p q y = q y (λ r is. refl) (λ b. refl)
by_part P p q semi = q semi (λ r is. refl) (λ b. refl)
by_part P p q value = q value (λ r is. refl) (λ b. refl)
by_part P p q first = q first (λ r is. refl) (λ b. refl)
by_part P p q first_key = q first_key (λ r is. refl) (λ b. refl)
by_part P p q second = q second (λ r is. refl) (λ b. refl)
by_part P p q (string n) = q (string n) (λ r is. refl) (λ b. refl)
by_part P p q (code c) = q (code c) (λ r is. refl) (λ b. refl)
by_part P p q (if_more n) = p n
by_part P p q no_name = q no_name (λ r is. refl) (λ b. refl)
by_part P p q (among vs) = q (among vs) (λ r is. refl) (λ b. refl)
by_part P p q (whole n) = q (whole n) (λ r is. refl) (λ b. refl)

-- what is not passed over by `;` is not left out
pub none_omitted : (i : Item) → eqb (skip i) 0 ≡ true → (r : Plain) (is : List Item) → omitted r i is ≡ 0
unfolding omitted any skip
none_omitted = by_part (λ i. eqb (skip i) 0 ≡ true → (r : Plain) (is : List Item) → omitted r i is ≡ 0) (λ n e r is. rw (eqb-true n 0 e)) (λ i o z e. o)

-- an item that the record shows wherever it was read
unfoldable pub proves : Item → Bool
proves (key w) = false
proves (keyword w) = false
proves name = true
proves own = false
proves x = false
proves y = false
proves semi = false
proves value = false
proves first = false
proves first_key = false
proves second = false
proves (string n) = false
proves (code c) = true
proves (if_more n) = false
proves no_name = false
proves (among vs) = false
proves (whole n) = false

name_shown : (s : List ℕ) → is_spelt (said Kind.name s) ≡ true → not (empty s) ≡ true
unfolding is_spelt is_token is_name empty
name_shown [] e = absurd (false≢true e)
name_shown (b ∷ s) e = refl

module _ (label lacks : List ℕ) (r : Plain) where
  proves_shows : (i : Item) → proves i ≡ true → holds label lacks r i ≡ true → shows r i ≡ true
  unfolding proves holds shows
  proves_shows (key w) e h = absurd (false≢true e)
  proves_shows (keyword w) e h = absurd (false≢true e)
  proves_shows name e h = name_shown r.name h
  proves_shows own e h = absurd (false≢true e)
  proves_shows x e h = absurd (false≢true e)
  proves_shows y e h = absurd (false≢true e)
  proves_shows semi e h = absurd (false≢true e)
  proves_shows value e h = absurd (false≢true e)
  proves_shows first e h = absurd (false≢true e)
  proves_shows first_key e h = absurd (false≢true e)
  proves_shows second e h = absurd (false≢true e)
  proves_shows (string n) e h = absurd (false≢true e)
  proves_shows (code c) e h = h
  proves_shows (if_more n) e h = absurd (false≢true e)
  proves_shows no_name e h = absurd (false≢true e)
  proves_shows (among vs) e h = absurd (false≢true e)
  proves_shows (whole n) e h = absurd (false≢true e)

-- one of the first n items proves that they were read
unfoldable pub proven : ℕ → List Item → Bool
proven zero is = false
proven (suc n) [] = false
proven (suc n) (i ∷ is) = proves i || (eqb (skip i) 0 && proven n is)

module _ (label lacks : List ℕ) (r : Plain) where
  shown : (n : ℕ) (is : List Item) → proven n is ≡ true → holds_all 0 label lacks is r ≡ true → any (shows r) (take n is) ≡ true
  unfolding proven holds_all any
  shown zero is e h = absurd (false≢true e)
  shown (suc n) [] e h = absurd (false≢true e)
  shown (suc n) (i ∷ is) e h =
      let (p, q) = both (holds label lacks r i) (holds_all (omitted r i is) label lacks is r) h in
      go (proves i) refl e p q (shown n is)
    where
      go : (t : Bool) → proves i ≡ t → (t || (eqb (skip i) 0 && proven n is)) ≡ true → holds label lacks r i ≡ true → holds_all (omitted r i is) label lacks is r ≡ true
          → (proven n is ≡ true → holds_all 0 label lacks is r ≡ true → any (shows r) (take n is) ≡ true) → (shows r i || any (shows r) (take n is)) ≡ true
      go true s e p q f = rw (proves_shows label lacks r i s p)
      go false s e p q f =
          let (u, v) = both (eqb (skip i) 0) (proven n is) e in
          let w = f v (subst (λ m. holds_all m label lacks is r ≡ true) (none_omitted i u r is) q) in
          or_right (shows r i) w

-- items that show nothing where no other item, of those before and of those after, gives their fields
unfoldable pub fades : List Item → List Item → List Item → Bool
fades seen [] rest = true
fades seen (i ∷ is) rest = (untouched (asked i) seen && untouched (asked i) rest) && (not (shows nobody i) && fades seen is rest)

none_shows : (seen is rest : List Item) (r : Plain) → fades seen is rest ≡ true
    → ((g : ℕ) → untouched g seen ≡ true → untouched g rest ≡ true → part g r ≡ part g nobody) → any (shows r) is ≡ false
unfolding fades any
none_shows seen [] rest r e f = refl
none_shows seen (i ∷ is) rest r e f =
    let (p, q) = both (untouched (asked i) seen && untouched (asked i) rest) (not (shows nobody i) && fades seen is rest) e in
    let (u, v) = both (untouched (asked i) seen) (untouched (asked i) rest) p in
    let (s, t) = both (not (shows nobody i)) (fades seen is rest) q in
    rw ((alike [] [] r nobody nobody i (f (asked i) u v)).shows, not-true (shows nobody i) s) (none_shows seen is rest r t f)

-- the record tells whether the first n items were read
abbrev told : List Item → ℕ → List Item → Bool
told seen zero is = true
told seen (suc n) is = proven (suc n) is && fades seen (take (suc n) is) (drop (suc n) is)

unfoldable pub optional : List Item → Item → List Item → Bool
optional seen i is = told seen (skip i) is

module _ (label lacks : List ℕ) (r : Plain) (seen is : List Item) where
  -- what is asked of the record where m items are passed over
  abbrev Passing : ℕ → Type 0
  Passing m = (holds_all m label lacks is r ≡ true) × ((g : ℕ) → untouched g seen ≡ true → untouched g (drop m is) ≡ true → part g r ≡ part g nobody)

  more_omits : (n : ℕ) (t : Bool) → optional seen (if_more n) is ≡ true → Passing (cond t n 0) → omitted r (if_more n) is ≡ cond t n 0
  unfolding omitted any optional skip
  more_omits zero true e h = refl
  more_omits zero false e h = refl
  more_omits (suc n) true e h =
      rw (none_shows seen (take (suc n) is) (drop (suc n) is) r (both (proven (suc n) is) (fades seen (take (suc n) is) (drop (suc n) is)) e).1 h.1)
  more_omits (suc n) false e h =
      rw (shown label lacks r (suc n) is (both (proven (suc n) is) (fades seen (take (suc n) is) (drop (suc n) is)) e).0 h.0)

  -- the writer leaves out what the reader passed over
  pub omits : (i : Item) (b : Ahead ℕ Mark) → optional seen i is ≡ true → Passing (passed i b) → omitted r i is ≡ passed i b
  omits = by_part (λ i. (b : Ahead ℕ Mark) → optional seen i is ≡ true → Passing (passed i b) → omitted r i is ≡ passed i b)
      (λ n b e h. more_omits n (matches Kind.semicolon b) e h) (λ i o z b e h. o r is ∙ sym (z b))
