-- What the items of a number say, one after the other, and which of them are left out.
use Prim.Native.Nat.{ℕ, zero, suc, ◌-◌, ◌/◌, ◌%◌, ◌^◌, ◌≤◌, ◌<◌}
use mathlib.Core.Path.{◌≡◌, refl, sym, ap, ◌∙◌}
use mathlib.Core.Bool.{Bool, true, false, cond, ◌||◌}
use mathlib.Core.List.{List, [], ◌∷◌, ◌++◌}
use native.Mathlib.Decide.{dec_lt}
use native.Mathlib.Omega.{arith}
use borrow.Author.Tests.{ne_eqb, ltb-false, leb-true, leb-false, le-ltb}
use lib.Dec.{eqb, leb, ltb}
use Rattle.word.proofs.Words.{clash}
use lib.ListN.{take, drop}
use Rattle.record.specs.declared.Record.{Record}
use Rattle.grammar.specs.Grammar.{Item, among}
use Rattle.grammar.specs.Table.{versions, microns}
use Rattle.rows.specs.Packed.{item_at, items_of}
use Rattle.rows.proofs.Unpack.{split, no_items}
use Rattle.rows.proofs.Ranges.{at_code, at_more, at_whole, at_among, at_low, choose, all_low, all_high}
use Rattle.render.specs.Pieces.{Said, text}
use Rattle.render.specs.Plain.{Plain, bare}
use Rattle.render.specs.Says.{says, shows, any, omitted, says_all}
use Rattle.render.specs.Lines.{spaced}
use Rattle.lines.specs.declared.page.Page.{Page}
use Rattle.lines.specs.Put.{Puts}
use Rattle.lines.proofs.Laws.{puts_none, puts_as}
use Rattle.lines.proofs.Pieced.{pieces_then}

-- WHAT THEY SAY

pub spaced_append : (ts us : List Said) → spaced (ts ++ us) ≡ spaced ts ++ spaced us
unfolding spaced
spaced_append [] us = refl
spaced_append (t ∷ ts) us = rw (spaced_append ts us)

pub put_said : {p q : Page} {ts us : List Said} → ts ≡ us → Puts p q (text (spaced us)) → Puts p q (text (spaced ts))
put_said e w = puts_as (ap (λ l. text (spaced l)) (sym e)) w

pub put_nothing : (p : Page) → Puts p p (text (spaced []))
unfolding text spaced
put_nothing p = puts_none p

-- items that are left out are dropped
left_out : (m : ℕ) (label : List ℕ) (is : List Item) (r : Plain) → says_all m label is r ≡ says_all 0 label (drop m is) r
unfolding says_all
left_out zero label is r = refl
left_out (suc m) label [] r = refl
left_out (suc m) label (i ∷ is) r = left_out m label is r

-- one item, and those after it
one_said : (label : List ℕ) (r : Plain) (s t : ℕ) → s < 2 ^ 64 → (s ≡ 0 → ⊥) → items_of t ≡ drop (omitted r (item_at (s % 256)) (items_of (s / 256))) (items_of (s / 256))
    → spaced (says_all 0 label (items_of s) r) ≡ spaced (says label r (item_at (s % 256))) ++ spaced (says_all 0 label (items_of t) r)
unfolding says_all
one_said label r s t h n e =
    ap (λ is. spaced (says_all 0 label is r)) (split s h n)
    ∙ spaced_append (says label r (item_at (s % 256))) (says_all (omitted r (item_at (s % 256)) (items_of (s / 256))) label (items_of (s / 256)) r)
    ∙ ap (λ us. spaced (says label r (item_at (s % 256))) ++ spaced us)
    (left_out (omitted r (item_at (s % 256)) (items_of (s / 256))) label (items_of (s / 256)) r ∙ ap (λ is. says_all 0 label is r) (sym e))

-- the first item is put, and then the others
pub turn : (label : List ℕ) (r : Plain) (s t : ℕ) → s < 2 ^ 64 → (s ≡ 0 → ⊥) → items_of t ≡ drop (omitted r (item_at (s % 256)) (items_of (s / 256))) (items_of (s / 256))
    → {p q : Page} → Puts p q (text (spaced (says label r (item_at (s % 256)))))
    → (e : Page) → Puts q e (text (spaced (says_all 0 label (items_of t) r))) → Puts p e (text (spaced (says_all 0 label (items_of s) r)))
turn label r s t h n d v e w = puts_as (ap text (sym (one_said label r s t h n d))) (pieces_then _ _ v w)

-- what is left of the items is told by the record's text, under whatever name it goes
pub left_of : (r : Record) (s t : ℕ) {u v : List ℕ} → u ≡ v → items_of t ≡ drop (omitted (bare u r) (item_at (s % 256)) (items_of (s / 256))) (items_of (s / 256))
    → items_of t ≡ drop (omitted (bare v r) (item_at (s % 256)) (items_of (s / 256))) (items_of (s / 256))
left_of r s t e h = rw e at h

pub none_said : (label : List ℕ) (r : Plain) {s : ℕ} → s ≡ 0 → [] ≡ text (spaced (says_all 0 label (items_of s) r))
unfolding says_all spaced text
none_said label r e = rw (e, no_items)

-- items that say nothing
pub silent : (label : List ℕ) (r : Plain) (b : ℕ) → 32 ≤ b → b < 96 → says label r (item_at b) ≡ []
unfolding says
silent label r b h l = elim (dec_lt b 48) [
  | yes p ↦ rw (at_code b h p)
  | no p ↦ elim (dec_lt b 64) [
    | yes q ↦ rw (at_more b (omega arith) q)
    | no q ↦ elim (dec_lt b 80) [
      | yes t ↦ rw (at_whole b (omega arith) t)
      | no t ↦ rw (at_among b (omega arith) l) (either (eqb b 80) versions microns)
    ]
  ]
]
  where
    either : (t : Bool) (v u : List ℕ) → says label r (cond t (among v) (among u)) ≡ []
    either true v u = refl
    either false v u = refl

-- WHAT IS LEFT OUT

-- only an optional part leaves items out
pub nothing_left : (r : Plain) (is : List Item) (b : ℕ) → (48 ≤ b → 64 ≤ b) → omitted r (item_at b) is ≡ 0
unfolding omitted
nothing_left r is b h = elim (dec_lt b 32) [
  | yes p ↦ all_low (λ i. omitted r i is ≡ 0) refl refl refl refl refl refl refl refl refl refl b p
  | no p ↦ elim (dec_lt b 48) [
    | yes q ↦ rw (at_code b (omega arith) q)
    | no q ↦ all_high (λ i. omitted r i is ≡ 0) (λ n. refl) refl refl refl refl (λ n. refl) (λ n. refl) b (h (omega arith))
  ]
]

pub part_left : (r : Plain) (is : List Item) (b : ℕ) (t : Bool) → 48 ≤ b → b < 64 → t ≡ any (shows r) (take (b - 48) is) → omitted r (item_at b) is ≡ cond t 0 (b - 48)
unfolding omitted
part_left r is b t h l e = rw (at_more b h l, e)

-- an item that no record shows
abbrev Unshown : Plain → Item → Type 0
Unshown r i = shows r i ≡ false

pub not_shown : (r : Plain) (b : ℕ) → (b ≡ 1 → ⊥) → (b ≡ 2 → ⊥) → (b ≡ 5 → ⊥) → (32 ≤ b → 48 ≤ b) → shows r (item_at b) ≡ false
unfolding shows
not_shown r b nx ny nn h = elim (dec_lt b 32) [
  | yes p ↦
      rw (at_low b p, ne_eqb b 1 nx, ne_eqb b 2 ny, ne_eqb b 5 nn)
      (choose (Unshown r) (leb 16 b) (choose (Unshown r) (eqb b 16) refl refl) (choose (Unshown r) (eqb b 6) refl (choose (Unshown r) (eqb b 7) refl (choose (Unshown r) (eqb b 8) refl (choose (Unshown r) (eqb b 9) refl refl)))))
  | no p ↦ elim (dec_lt b 64) [
    | yes q ↦ rw (at_more b (h (omega arith)) q)
    | no q ↦ all_high (Unshown r) (λ n. refl) refl refl refl refl (λ n. refl) (λ n. refl) b (omega arith)
  ]
]

-- whether one of the items is shown: the first, or one of the others
pub one_shown : (r : Plain) (m s : ℕ) → s < 2 ^ 64 → (m ≡ 0 → ⊥) → any (shows r) (take m (items_of s)) ≡ shows r (item_at (s % 256)) || any (shows r) (take (m - 1) (items_of (s / 256)))
unfolding any shows item_at
one_shown r zero s h n = absurd (n refl)
one_shown r (suc m) s h n = let e : suc m - 1 ≡ m = omega arith in rw e (elim (dec_lt 0 s) [
  | yes p ↦ ap (λ is. any (shows r) (take (suc m) is)) (split s h (λ e. omega arith))
  | no q ↦ let z : s ≡ 0 = omega arith in rw (z, no_items) (nothing m)
])
  where
    nothing : (m : ℕ) → false ≡ shows r (item_at 0) || any (shows r) (take m [])
    nothing zero = refl
    nothing (suc m) = refl

-- the bytes of an optional part
pub outside : (b : ℕ) → ltb b 48 || leb 64 b ≡ true → 48 ≤ b → 64 ≤ b
outside b t h = leb-true 64 b (rw (le-ltb b 48 h) at t)

pub inside : (b : ℕ) → ltb b 48 || leb 64 b ≡ false → (48 ≤ b) × (b < 64)
inside b t = go (ltb b 48) (leb 64 b) refl refl t
  where
    go : (p q : Bool) → ltb b 48 ≡ p → leb 64 b ≡ q → p || q ≡ false → (48 ≤ b) × (b < 64)
    go true q e f t = clash t
    go false true e f t = clash t
    go false false e f t = (ltb-false b 48 e, leb-false 64 b f)
