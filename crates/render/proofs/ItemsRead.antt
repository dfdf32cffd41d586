-- The items of a statement that were read get what they ask of the record, and the record has what they give it: each item does so when
-- it is read, and nothing after it gives its field again, which the table is tested for.
use Prim.Native.Nat.{ℕ, zero, suc}
use mathlib.Core.Path.{◌≡◌, refl, sym, ap, subst, ◌∙◌}
use mathlib.Core.Bool.{Bool, true, false, not, ◌&&◌, false≢true}
use mathlib.Core.List.{List, [], ◌∷◌}
use native.Mathlib.Omega.{arith}
use borrow.Author.Tests.{not-true}
use lib.Dec.{eqb}
use lib.ListN.{drop}
use Rattle.word.proofs.Words.{both}
use Rattle.grammar.specs.Tokens.{Ahead, Answer, ok, refused, then}
use Rattle.grammar.specs.Grammar.{Item}
use Rattle.grammar.specs.Engine.{Draft, Frame, blank, item, passed, items}
use Rattle.grammar.specs.Standing.{Every}
use Rattle.grammar.specs.Reading.{Mark}
use Rattle.grammar.proofs.Answers.{Ok, Holds}
use Rattle.grammar.proofs.Takes.{numbered, all_numbered}
use Rattle.grammar.proofs.Kept.{all, Kept, items_kept}
use Rattle.grammar.proofs.Listed.{skip, passed_either}
use Rattle.render.specs.Says.{holds_all, gives_all}
use Rattle.render.specs.Forms.{nobody}
use Rattle.render.specs.Fit.{emptied}
use Rattle.render.proofs.Every.{every_suf}
use Rattle.render.proofs.Stands.{Good}
use Rattle.render.proofs.Fields.{part, given, asked, untouched, untouched_drop, others_stay, alike}
use Rattle.render.proofs.ItemRead.{plain, Begun, ready, Took, item_took}
use Rattle.render.proofs.OmittedRead.{optional, omits}

-- A test of the items of a statement of the kind k, of which the first m are passed over and `seen` were read: nothing gives again the field
-- of an item, and where a part is optional the record tells whether it was read.
abbrev fits_here : ℕ → List Item → Item → List Item → Bool
fits_here k seen i is = (numbered i && ready k seen i) && (untouched (asked i) is && optional (i ∷ seen) i is)

unfoldable pub writable : ℕ → ℕ → List Item → List Item → Bool
writable k m seen [] = true
writable k (suc m) seen (i ∷ is) = writable k m seen is
writable k zero seen (i ∷ is) = fits_here k seen i is && (writable k 0 (i ∷ seen) is && writable k (skip i) (i ∷ seen) is)

then_ok : {B C : Type 0} (t : Answer ℕ Mark B) (k : B → Ahead ℕ Mark → Answer ℕ Mark C) {e : C} {c : Ahead ℕ Mark} → then t k ≡ ok e c
    → (v : B) × (b : Ahead ℕ Mark) × (t ≡ ok v b) × (k v b ≡ ok e c)
then_ok (ok v b) k h = (v, b, refl, h)
then_ok (refused n p) k h = absurd (let z : ◌≡◌ {A = ℕ} 0 1 = cc in omega arith)

-- fields that no item gave are empty
abbrev Fresh : List Item → Draft ℕ → Type 0
Fresh seen d = (g : ℕ) → untouched g seen ≡ true → part g (plain d) ≡ part g nobody

module _ (f : Frame ℕ) where
  -- one item alone keeps the kind and goes on in what is ahead
  item_kept : (i : Item) → numbered i ≡ true → (d e : Draft ℕ) (a b : Ahead ℕ Mark) → item f i d a ≡ ok e b → Kept d a (all a) e b
  unfolding items all_numbered
  item_kept i n d e a b q =
      let h : items 0 f (i ∷ []) d a ≡ ok e b = rw q in
      subst (Ok (Kept d a (all a))) h (items_kept 0 f (i ∷ []) (rw n) d a)

  -- the draft e comes of d by the items, of which the first m are passed over
  pub record ReadAs (m : ℕ) (is : List Item) (d e : Draft ℕ) : Type 0 where
    pub keeps : emptied (plain e) ≡ emptied (plain d)
    pub holds : holds_all m f.label f.lacks is (plain e) ≡ true
    pub given : gives_all m is (plain e) (plain d) ≡ plain e
    pub stays : (g : ℕ) → untouched g (drop m is) ≡ true → part g (plain e) ≡ part g (plain d)

  pub kind_kept : {m : ℕ} {is : List Item} {d e : Draft ℕ} → ReadAs m is d e → e.rec.kind ≡ d.rec.kind
  kind_kept r = ap (λ q. q.kind) r.keeps

  -- an item leaves the fields that it does not give
  left : {seen : List Item} {d e : Draft ℕ} {i : Item} → Took f seen d i e → (g : ℕ) → eqb g (given i) ≡ false → part g (plain e) ≡ part g (plain d)
  left {seen} {d} {e} {i} t g q = ap (part g) t.given ∙ others_stay g i q (plain e) (plain d)

  fresher : {seen : List Item} {d e : Draft ℕ} {i : Item} → Took f seen d i e → Fresh seen d → Fresh (i ∷ seen) e
  unfolding untouched
  fresher {seen} {d} {e} {i} t h g u =
      let (p, q) = both (not (eqb g (given i))) (untouched g seen) u in
      left t g (not-true (eqb g (given i)) p) ∙ h g q

  -- an item, and then the others
  further : {seen is : List Item} {d e h : Draft ℕ} {i : Item} (b : Ahead ℕ Mark) → untouched (asked i) is ≡ true → optional (i ∷ seen) i is ≡ true
      → Took f seen d i e → emptied (plain e) ≡ emptied (plain d) → Fresh (i ∷ seen) e → ReadAs (passed i b) is e h → ReadAs 0 (i ∷ is) d h
  unfolding holds_all gives_all untouched
  further {seen} {is} {d} {e} {h} {i} b u o t k s r =
      let m = passed i b in
      let a = alike f.label f.lacks (plain h) (plain e) (plain d) i (r.stays (asked i) (untouched_drop (asked i) m is u)) in
      let w = omits f.label f.lacks (plain h) (i ∷ seen) is i b o (r.holds, λ g p q. r.stays g q ∙ s g p) in
      record {
        keeps = r.keeps ∙ k;
        holds = rw (a.holds (kind_kept r), t.holds, w) r.holds;
        given = rw (w, a.gives, sym t.given) r.given;
        stays = λ g q.
            let (v, z) = both (not (eqb g (given i))) (untouched g is) q in
            r.stays g (untouched_drop g m is z) ∙ left t g (not-true (eqb g (given i)) v);
      }

  items_read : (k m : ℕ) (is seen : List Item) (d e : Draft ℕ) (a c : Ahead ℕ Mark) → writable k m seen is ≡ true → d.rec.kind ≡ k
      → Fresh seen d → Begun seen d → Every Good (all a) → items m f is d a ≡ ok e c → ReadAs m is d e
  unfolding items writable holds_all gives_all
  items_read k m [] seen d e a c z q s n g h =
      let p : d ≡ e = cc in
      subst (ReadAs m [] d) p (record { keeps = refl; holds = refl; given = refl; stays = λ g u. refl })
  items_read k (suc m) (i ∷ is) seen d e a c z q s n g h =
      let r = items_read k m is seen d e a c z q s n g h in
      record { keeps = r.keeps; holds = r.holds; given = r.given; stays = r.stays }
  items_read k zero (i ∷ is) seen d e a c z q s n g h =
      let (at, on-and-over) = both (fits_here k seen i is) (writable k 0 (i ∷ seen) is && writable k (skip i) (i ∷ seen) is) z in
      let (u, v) = both (numbered i && ready k seen i) (untouched (asked i) is && optional (i ∷ seen) i is) at in
      let (num, able) = both (numbered i) (ready k seen i) u in
      let (once, tells) = both (untouched (asked i) is) (optional (i ∷ seen) i is) v in
      let (on, over) = both (writable k 0 (i ∷ seen) is) (writable k (skip i) (i ∷ seen) is) on-and-over in
      let (j, b, r, l) = then_ok (item f i d a) (λ e b. items (passed i b) f is e b) h in
      let t : Took f seen d i j = subst (Holds (Took f seen d i)) r (item_took f seen d a n g i (rw q able)) in
      let kept = item_kept i num d j a b r in
      let fresh = fresher t s in
      further b once tells t (rw (kept.kind, kept.at, kept.owner)) fresh
      (items_read k (passed i b) is (i ∷ seen) j e b c (passed_either i b (λ m. writable k m (i ∷ seen) is ≡ true) on over) (kept.kind ∙ q) fresh t.begun (every_suf Good kept.ahead g) l)

  -- A STATEMENT THAT WAS READ CAN BE WRITTEN
  pub statement_items : (k : ℕ) (is : List Item) (a b c : Ahead ℕ Mark) (e : Draft ℕ) → writable k 0 [] is ≡ true → Every Good (all b)
      → items 0 f is (blank k f a) b ≡ ok e c → ReadAs 0 is (blank k f a) e
  unfolding part untouched
  statement_items k is a b c e z g h = items_read k 0 is [] (blank k f a) e b c z refl (λ g u. refl) (λ u. absurd (false≢true (sym u))) g h
