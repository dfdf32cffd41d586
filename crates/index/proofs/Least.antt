-- The least `at` of those that have an owner and a name, by going through the entries: it is that of one of them, or there is none.
use Prim.Native.Nat.{ℕ, min, ◌≤◌, ◌<◌}
use native.Mathlib.Decide.{dec_le}
use native.Mathlib.Omega.{arith}
use mathlib.Core.Path.{◌≡◌, refl, sym, ap, ◌∙◌}
use mathlib.Core.Logic.{◌↔◌, ◌⊎◌, inl, inr, ⊎_elim}
use mathlib.Core.Bool.{Bool, true, false, cond, ◌||◌}
use mathlib.Core.List.Memᴰ
use mathlib.Core.List.{List, [], ◌∷◌, Memᴰ}
use lib.Dec.{eqb}
use borrow.Author.Tests.{eq-eqb, eqb-true}
use Rattle.ordered.proofs.Members.{get_mem, mem_get}
use Rattle.record.specs.declared.Record.{Record}
use Rattle.record.specs.Kinds.{SITE, MACRO, PIN}
use Rattle.entry.specs.declared.Entry.{Entry}
use Rattle.entry.specs.Order.{alike, name_of}
use Rattle.entry.proofs.Ordered.{alike_same, same_alike}
use Rattle.verdict.specs.Verdict.{blank}
use Rattle.verdict.specs.Meaning.{In, Reads}
use Rattle.index.specs.Index.{entered, entry_of, entries}
use Rattle.index.specs.Answers.{bears, no_place, least}
use Rattle.index.specs.Meaning.{Entered, Called, LeastAt, NoneCalled}
use Rattle.index.proofs.Entered.{entries_mem, mem_entries}
use Rattle.index.proofs.Compared.{both}
use Rattle.index.proofs.Within.{at_below}

-- THE KINDS THAT HAVE AN ENTRY

either : (a b : Bool) → (a || b) ≡ true → (a ≡ true) ⊎ (b ≡ true)
either true b h = inl refl
either false b h = inr h

pub entered_so : (r : Record) → entered r.kind ≡ true → Entered r
unfolding entered
entered_so r h =
    ⊎_elim (λ t. ⊎_elim (λ u. inl (eqb-true _ _ u)) (λ u. inr (inl (eqb-true _ _ u))) (either (eqb r.kind SITE) (eqb r.kind MACRO) t))
    (λ t. inr (inr (eqb-true _ _ t))) (either (eqb r.kind SITE || eqb r.kind MACRO) (eqb r.kind PIN) h)

pub so_entered : (r : Record) → Entered r → entered r.kind ≡ true
unfolding entered
so_entered r (inl e) = rw e
so_entered r (inr (inl e)) = rw e
so_entered r (inr (inr e)) = rw e

module _ (s : List ℕ) (owner : ℕ) (name : List ℕ) where
  -- ENTRIES

  pub bears_so : (e : Entry) → bears s owner name e ≡ true → (e.owner ≡ owner) × (name_of s e ≡ name)
  unfolding bears
  bears_so e h = let t = both (eqb e.owner owner) (alike (name_of s e) name) h in (eqb-true _ _ t.0, alike_same _ _ t.1)

  pub so_bears : (e : Entry) → e.owner ≡ owner → name_of s e ≡ name → bears s owner name e ≡ true
  unfolding bears
  so_bears e p q = rw (eq-eqb e.owner owner p, q, same_alike name)

  pub least_most : (l : List Entry) → least s owner name l ≤ no_place
  unfolding least
  least_most [] = omega arith
  least_most (f ∷ l) = go (bears s owner name f) (least_most l)
    where
      go : (b : Bool) → least s owner name l ≤ no_place → cond b (min f.at (least s owner name l)) (least s owner name l) ≤ no_place
      go true h = omega arith
      go false h = h

  -- none that has them is less
  pub least_low : (l : List Entry) (e : Entry) → Memᴰ e l → bears s owner name e ≡ true → least s owner name l ≤ e.at
  unfolding least
  least_low [] e m h = absurd (Memᴰ.not-nil m)
  least_low (f ∷ l) e m h = ⊎_elim here (λ n. there (bears s owner name f) (least_low l e n h)) (Memᴰ.cases_cons m)
    where
      here : e ≡ f → cond (bears s owner name f) (min f.at (least s owner name l)) (least s owner name l) ≤ e.at
      here q = let t : bears s owner name f ≡ true = rw q at h in rw t (omega (arith, ap (λ (g : Entry). g.at) q))

      there : (b : Bool) → least s owner name l ≤ e.at → cond b (min f.at (least s owner name l)) (least s owner name l) ≤ e.at
      there true k = omega arith
      there false k = k

  -- it is that of one of them, or there is none
  abbrev pub One : List Entry → ℕ → Type 0
  One l a = (e : Entry) × Memᴰ e l × (bears s owner name e ≡ true) × (a ≡ e.at)

  later : (f : Entry) (l : List Entry) (a : ℕ) → One l a → One (f ∷ l) a
  later f l a (e, m, b, q) = (e, Memᴰ.tail m, b, q)

  pub least_of : (l : List Entry) → (least s owner name l ≡ no_place) ⊎ One l (least s owner name l)
  unfolding least
  least_of [] = inl refl
  least_of (f ∷ l) = go (bears s owner name f) refl (least_of l)
    where
      go : (b : Bool) → bears s owner name f ≡ b → (least s owner name l ≡ no_place) ⊎ One l (least s owner name l)
          → (cond b (min f.at (least s owner name l)) (least s owner name l) ≡ no_place) ⊎ One (f ∷ l) (cond b (min f.at (least s owner name l)) (least s owner name l))
      go false t (inl e) = inl e
      go false t (inr o) = inr (later f l (least s owner name l) o)
      go true t r = elim (dec_le f.at (least s owner name l)) [
        | yes h ↦ inr (f, Memᴰ.head refl, t, omega arith)
        | no h ↦
            let z : min f.at (least s owner name l) ≡ least s owner name l = omega arith in
            ⊎_elim (λ e. inl (z ∙ e)) (λ o. inr (let (e, m, b, q) = o in (e, Memᴰ.tail m, b, z ∙ q))) r
      ]

  -- RECORDS

  module _ (rs : List Record) where
    -- a record that is called so has an entry that has the owner and the name
    called_low : (r : Record) → In r rs → Called s owner name r → least s owner name (entries rs) ≤ r.at
    called_low r (i, h, e) (k, o, n) =
        least_low (entries rs) (entry_of r) (entries_mem r rs (Memᴰ.cast e (get_mem rs blank i h)) (so_entered r k)) (so_bears (entry_of r) o n)

    one_called : (a : ℕ) → One (entries rs) a → (r : Record) × Memᴰ r rs × Called s owner name r × (r.at ≡ a)
    one_called a (e, m, b, q) =
        let (r, n, t, h) = mem_entries e rs m in
        let (o, p) = bears_so e b in
        (r, n, (entered_so r t, sym (ap (λ (g : Entry). g.owner) h) ∙ o, sym (ap (name_of s) h) ∙ p), sym (q ∙ ap (λ (g : Entry). g.at) h))

    module _ (reads : Reads s rs) where
      pub least_says : (a : ℕ) → a < no_place → (least s owner name (entries rs) ≡ a) ↔ LeastAt s owner name rs a
      least_says a l = (
        λ e. (
          ⊎_elim (λ z. absurd (omega arith)) (λ o.
              let (r, m, c, q) = one_called (least s owner name (entries rs)) o in
              (r, mem_get rs blank r m, c, q ∙ e)) (least_of (entries rs)),
          λ r i c. rw e at (called_low r i c),
        ),
        λ ((r, i, c, q), f). ⊎_elim (λ z. absurd (omega (arith, called_low r i c))) (λ o.
            let (t, m, d, h) = one_called (least s owner name (entries rs)) o in
            omega (arith, called_low r i c, f t (mem_get rs blank t m) d)) (least_of (entries rs)),
      )

      pub nowhere_says : (least s owner name (entries rs) ≡ no_place) ↔ NoneCalled s owner name rs
      nowhere_says = (
        λ e r (i, h, q) c. omega (arith, called_low r (i, h, q) c, at_below s rs reads r (Memᴰ.cast q (get_mem rs blank i h))),
        λ f. ⊎_elim (λ z. z) (λ o.
            let (r, m, c, q) = one_called (least s owner name (entries rs)) o in
            absurd (f r (mem_get rs blank r m) c)) (least_of (entries rs)),
      )
