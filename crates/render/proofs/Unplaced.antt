-- What a record says and what its items ask does not depend on where it stands or whose it is: no item looks at either.
use Prim.Native.Nat.{ℕ, zero, suc}
use mathlib.Core.Path.{◌≡◌, refl, sym, ◌∙◌}
use mathlib.Core.List.{List, [], ◌∷◌}
use Rattle.grammar.specs.Grammar.{Item, key, keyword, name, own, x, y, semi, value, first, first_key, second, string, code, if_more, no_name, among, whole}
use Rattle.render.specs.Plain.{Plain, renamed}
use Rattle.render.specs.Says.{says, shows, any, omitted, says_all, holds_all, gives, gives_all}
use Rattle.render.specs.Forms.{Form, is_of, form_for, said_in}
use Rattle.render.proofs.Fields.{part, Judged, alike}
use Rattle.render.proofs.OmittedRead.{by_part}

module _ (ρ : ℕ → ℕ) (r : Plain) where
  -- ITEM BY ITEM

  judged_alike : (label lacks : List ℕ) (i : Item) → Judged label lacks (renamed ρ r) r r i
  unfolding part
  judged_alike label lacks i = alike label lacks (renamed ρ r) r r i refl

  any_alike : (is : List Item) → any (shows (renamed ρ r)) is ≡ any (shows r) is
  unfolding any
  any_alike [] = refl
  any_alike (i ∷ is) = rw ((judged_alike [] [] i).shows, any_alike is)

  omitted_alike : (i : Item) (is : List Item) → omitted (renamed ρ r) i is ≡ omitted r i is
  unfolding omitted
  omitted_alike = by_part (λ i. (is : List Item) → omitted (renamed ρ r) i is ≡ omitted r i is) (λ n is. rw any_alike) (λ i o z is. o (renamed ρ r) is ∙ sym (o r is))

  item_alike : (label : List ℕ) (d : Plain) (i : Item) → (says label (renamed ρ r) i ≡ says label r i) × (gives (renamed ρ r) i (renamed ρ d) ≡ renamed ρ (gives r i d))
  unfolding says gives
  item_alike label d (key w) = (refl, refl)
  item_alike label d (keyword w) = (refl, refl)
  item_alike label d name = (refl, refl)
  item_alike label d own = (refl, refl)
  item_alike label d x = (refl, refl)
  item_alike label d y = (refl, refl)
  item_alike label d semi = (refl, refl)
  item_alike label d value = (refl, refl)
  item_alike label d first = (refl, refl)
  item_alike label d first_key = (refl, refl)
  item_alike label d second = (refl, refl)
  item_alike label d (string n) = (refl, refl)
  item_alike label d (code c) = (refl, refl)
  item_alike label d (if_more n) = (refl, refl)
  item_alike label d no_name = (refl, refl)
  item_alike label d (among vs) = (refl, refl)
  item_alike label d (whole n) = (refl, refl)

  -- ALL ITEMS

  says_alike : (m : ℕ) (label : List ℕ) (is : List Item) → says_all m label is (renamed ρ r) ≡ says_all m label is r
  unfolding says_all
  says_alike m label [] = refl
  says_alike (suc m) label (i ∷ is) = says_alike m label is
  says_alike zero label (i ∷ is) = rw ((item_alike label r i).0, omitted_alike i is, says_alike (omitted r i is) label is)

  pub holds_alike : (m : ℕ) (label lacks : List ℕ) (is : List Item) → holds_all m label lacks is (renamed ρ r) ≡ holds_all m label lacks is r
  unfolding holds_all
  holds_alike m label lacks [] = refl
  holds_alike (suc m) label lacks (i ∷ is) = holds_alike m label lacks is
  holds_alike zero label lacks (i ∷ is) = rw ((judged_alike label lacks i).holds refl, omitted_alike i is, holds_alike (omitted r i is) label lacks is)

  pub gives_alike : (m : ℕ) (is : List Item) (d : Plain) → gives_all m is (renamed ρ r) (renamed ρ d) ≡ renamed ρ (gives_all m is r d)
  unfolding gives_all
  gives_alike m [] d = refl
  gives_alike (suc m) (i ∷ is) d = gives_alike m is d
  gives_alike zero (i ∷ is) d = rw ((item_alike [] d i).1, omitted_alike i is) (gives_alike (omitted r i is) is (gives r i d))

  -- FORMS

  pub form_alike : (ms : List Form) → form_for (renamed ρ r) ms ≡ form_for r ms
  unfolding form_for is_of
  form_alike [] = refl
  form_alike (m ∷ ms) = rw (form_alike ms)

  pub said_alike : (label : List ℕ) (m : Form) → said_in label m (renamed ρ r) ≡ said_in label m r
  unfolding said_in
  said_alike label m = rw (says_alike 0 label m.items)
