-- An item changes the one field that it gives, and is judged by one field at most: by the cases of the items.
use Prim.Native.Nat.{ℕ, zero, suc}
use mathlib.Core.Path.{◌≡◌, refl}
use mathlib.Core.Bool.{Bool, true, false, cond, not, ◌&&◌}
use mathlib.Core.List.{List, [], ◌∷◌}
use lib.Dec.{eqb}
use lib.ListN.{drop}
use Rattle.word.proofs.Words.{both}
use Rattle.grammar.specs.Grammar.{Item, key, keyword, name, own, x, y, semi, value, first, first_key, second, string, code, if_more, no_name, among, whole}
use Rattle.render.specs.Plain.{Plain}
use Rattle.render.specs.Says.{holds, shows, gives}

-- fields by number: 1 the code, 2 the name, 3 and 4 the numbers
unfoldable pub part : ℕ → Plain → List ℕ
part g r = cond (eqb g 1) (r.code ∷ []) (cond (eqb g 2) r.name (cond (eqb g 3) (r.x ∷ []) (cond (eqb g 4) (r.y ∷ []) [])))

-- the field that an item gives: 5 the first word of a value, which no record has, 6 where it gives none
unfoldable pub given : Item → ℕ
given (key w) = 6
given (keyword w) = 6
given name = 2
given own = 6
given x = 3
given y = 4
given semi = 6
given value = 1
given first = 5
given first_key = 5
given second = 1
given (string n) = 2
given (code c) = 1
given (if_more n) = 6
given no_name = 6
given (among vs) = 6
given (whole n) = 6

-- the field that an item is judged by: 0 where there is none
unfoldable pub asked : Item → ℕ
asked (key w) = 0
asked (keyword w) = 0
asked name = 2
asked own = 0
asked x = 3
asked y = 4
asked semi = 0
asked value = 1
asked first = 0
asked first_key = 0
asked second = 1
asked (string n) = 2
asked (code c) = 1
asked (if_more n) = 0
asked no_name = 0
asked (among vs) = 3
asked (whole n) = 0

-- no item gives the field
unfoldable pub untouched : ℕ → List Item → Bool
untouched g [] = true
untouched g (i ∷ is) = not (eqb g (given i)) && untouched g is

pub untouched_drop : (g n : ℕ) (is : List Item) → untouched g is ≡ true → untouched g (drop n is) ≡ true
unfolding untouched
untouched_drop g zero is e = e
untouched_drop g (suc n) [] e = refl
untouched_drop g (suc n) (i ∷ is) e = untouched_drop g n is (both (not (eqb g (given i))) (untouched g is) e).1

-- the other fields stay
pub others_stay : (g : ℕ) (i : Item) → eqb g (given i) ≡ false → (r d : Plain) → part g (gives r i d) ≡ part g d
unfolding given gives part
others_stay g (key w) e r d = refl
others_stay g (keyword w) e r d = refl
others_stay g name e r d = rw e
others_stay g own e r d = refl
others_stay g x e r d = rw e
others_stay g y e r d = rw e
others_stay g semi e r d = refl
others_stay g value e r d = rw e
others_stay g first e r d = refl
others_stay g first_key e r d = refl
others_stay g second e r d = rw e
others_stay g (string n) e r d = rw e
others_stay g (code c) e r d = rw e
others_stay g (if_more n) e r d = refl
others_stay g no_name e r d = refl
others_stay g (among vs) e r d = refl
others_stay g (whole n) e r d = refl

-- an item is shown alike, gives alike and, in records of one kind, judges alike where its field is the same
pub record Judged (label lacks : List ℕ) (r q d : Plain) (i : Item) : Type 0 where
  pub holds : r.kind ≡ q.kind → holds label lacks r i ≡ holds label lacks q i
  pub shows : shows r i ≡ shows q i
  pub gives : gives r i d ≡ gives q i d

one : {m n : ℕ} → m ∷ [] ≡ n ∷ [] → m ≡ n
one e = cc

module _ (label lacks : List ℕ) (r q d : Plain) where
  pub alike : (i : Item) → part (asked i) r ≡ part (asked i) q → Judged label lacks r q d i
  unfolding asked part holds shows gives
  alike (key w) e = record { holds = λ k. refl; shows = refl; gives = refl }
  alike (keyword w) e = record { holds = λ k. refl; shows = refl; gives = refl }
  alike name e = record { holds = λ k. rw e; shows = rw e; gives = rw e }
  alike own e = record { holds = λ k. refl; shows = refl; gives = refl }
  alike x e = record { holds = λ k. rw (one e); shows = rw (one e); gives = rw (one e) }
  alike y e = record { holds = λ k. rw (one e); shows = rw (one e); gives = rw (one e) }
  alike semi e = record { holds = λ k. refl; shows = refl; gives = refl }
  alike value e = record { holds = λ k. rw (k, one e); shows = refl; gives = rw (one e) }
  alike first e = record { holds = λ k. refl; shows = refl; gives = refl }
  alike first_key e = record { holds = λ k. refl; shows = refl; gives = refl }
  alike second e = record { holds = λ k. rw (k, one e); shows = refl; gives = rw (one e) }
  alike (string n) e = record { holds = λ k. rw e; shows = refl; gives = rw e }
  alike (code c) e = record { holds = λ k. rw (one e); shows = rw (one e); gives = refl }
  alike (if_more n) e = record { holds = λ k. refl; shows = refl; gives = refl }
  alike no_name e = record { holds = λ k. refl; shows = refl; gives = refl }
  alike (among vs) e = record { holds = λ k. rw (one e); shows = refl; gives = refl }
  alike (whole n) e = record { holds = λ k. refl; shows = refl; gives = refl }
