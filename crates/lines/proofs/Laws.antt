-- Laws of what a function that writes does: what is stored or finds no room, nothing, one after another, and all from the front.
use Prim.Native.Nat.{ℕ, ◌+◌, ◌-◌, ◌≤◌, ◌<◌}
use mathlib.Core.Path.{◌≡◌, refl, sym, ap, ◌∙◌, subst}
use mathlib.Core.List.{List, [], ◌++◌}
use native.Mathlib.Omega.{arith}
use borrow.Rule.Slice.PartMut.{put_mid}
use lib.ListN.{length, drop, length-append, length-take, length-drop}
use lib.Seq.{sets, length-sets, sets-eq}
use Rattle.rowfile.proofs.Stored.{sets_copied}
use Rattle.numeral.proofs.Parts.{sets_append}
use Rattle.lines.specs.declared.page.Page.{Page}
use Rattle.lines.specs.Put.{greatest, reach, Put, Puts}

-- bytes that are stored
pub put_laid : {o o' : List ℕ} {at m : ℕ} {xs : List ℕ} → m ≡ reach at (length xs) → o' ≡ sets o at xs → Put o at xs m o'
put_laid {o} {o'} {at} {m} {xs} r e = record { reached = r; room = ap length e ∙ length-sets o at xs; laid = λ f g. e }

-- bytes that find no room
pub put_no_room : {o o' : List ℕ} {at m : ℕ} {xs : List ℕ} → m ≡ reach at (length xs) → length o < at + length xs → o' ≡ o → Put o at xs m o'
put_no_room r h e = record { reached = r; room = ap length e; laid = λ f g. absurd (omega (arith, f, h)) }

pub put_none : {out : List ℕ} {at : ℕ} → at ≤ greatest → Put out at [] at out
put_none h = record { reached = omega arith; room = refl; laid = λ f g. refl }

pub put_as : {o o' : List ℕ} {at m : ℕ} {xs ys : List ℕ} → xs ≡ ys → Put o at xs m o' → Put o at ys m o'
put_as {o} {o'} {at} {m} e p = subst (λ l. Put o at l m o') e p

pub put_then : {o o' o'' : List ℕ} {at m n : ℕ} {xs ys : List ℕ} → Put o at xs m o' → Put o' m ys n o'' → Put o at (xs ++ ys) n o''
put_then {o} {o'} {o''} {at} {m} {n} {xs} {ys} p q = record {
  reached = omega (arith, p.reached, q.reached, length-append xs ys);
  room = q.room ∙ p.room;
  laid = λ f g.
      let e : m ≡ at + length xs = omega (arith, f, g, p.reached, length-append xs ys) in
      let h : m + length ys ≤ length o' = omega (arith, f, e, p.room, length-append xs ys) in
      q.laid h (omega (arith, g, p.room))
      ∙ ap (λ l. sets l m ys) (p.laid (omega (arith, f, length-append xs ys)) g)
      ∙ ap (λ k. sets (sets o at xs) k ys) e
      ∙ sym (sets_append o at xs ys);
}

-- what is written from the front of a buffer that has room for it
pub put_whole : {out exit bytes : List ℕ} {n : ℕ} → Put out 0 bytes n exit → length bytes ≤ length out → length out ≤ greatest
    → (n ≡ length bytes) × (exit ≡ bytes ++ drop (length bytes) out)
put_whole {out} {exit} {bytes} {n} p h g =
    let z : 0 + length bytes ≡ length bytes = omega arith in
    let f : 0 + length bytes ≤ length out = omega arith in
    (omega (arith, p.reached), p.laid f g ∙ sets-eq bytes out 0 f ∙ ap (λ k. bytes ++ drop k out) z)

-- A PAGE

pub puts_none : (p : Page) → Puts p p []
puts_none p = record { of = refl; within = refl; put = put_none }

pub puts_as : {p q : Page} {xs ys : List ℕ} → xs ≡ ys → Puts p q xs → Puts p q ys
puts_as {p} {q} {xs} {ys} e w = subst (Puts p q) e w

pub puts_then : {p q r : Page} {xs ys : List ℕ} → Puts p q xs → Puts q r ys → Puts p r (xs ++ ys)
puts_then v w = record {
  of = w.of ∙ v.of;
  within = w.within ∙ v.within;
  put = λ h. let a = v.put h in put_then a (w.put (omega (arith, a.reached)));
}

-- a part of the buffer was laid over
over_length : (a k : ℕ) (out ys : List ℕ) → length ys ≡ k → a + k ≤ length out → length (put_mid a k out ys) ≡ length out
over_length a k out ys e h = omega (arith, length-append {A = ℕ}, length-take {A = ℕ}, length-drop {A = ℕ}, e, h)

pub puts_laid : {p q : Page} (ys xs : List ℕ) → q.text.now ≡ p.text.now → q.out.ghost_name ≡ p.out.ghost_name → q.at ≡ reach p.at (length xs)
    → q.out.now ≡ put_mid p.at (q.at - p.at) p.out.now ys → length ys ≡ q.at - p.at → q.at ≤ length p.out.now → (length ys ≡ length xs → ys ≡ xs) → Puts p q xs
puts_laid {p} {q} ys xs t g r o l h e = record {
  of = t;
  within = g;
  put = λ k. record {
    reached = r;
    room = ap length o ∙ over_length p.at (q.at - p.at) p.out.now ys l (omega (arith, r, h, k));
    laid = λ f m. let z : q.at ≡ p.at + length xs = omega (arith, r, f, m) in
        o ∙ sets_copied ys xs p.out.now p.at (q.at - p.at) (e (omega (arith, l, z))) (omega (arith, z)) f;
  };
}

pub puts_no_room : {p q : Page} {xs : List ℕ} → q.text.now ≡ p.text.now → q.out.ghost_name ≡ p.out.ghost_name → q.at ≡ reach p.at (length xs)
    → q.out.now ≡ p.out.now → length p.out.now < q.at → Puts p q xs
puts_no_room t g r o h = record { of = t; within = g; put = λ k. put_no_room r (omega (arith, r, h)) o }
