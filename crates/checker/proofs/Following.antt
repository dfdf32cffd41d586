-- Records in parts: those given so far, those of a stretch, and those still to come make up one reading.
use Prim.Native.Nat.{ℕ, ◌+◌, ◌-◌, ◌/◌, ◌≤◌, ◌<◌}
use native.Mathlib.Decide.{dec_lt}
use native.Mathlib.Nat.{not-suc-le-zero}
use native.Mathlib.Omega.{arith}
use mathlib.Core.Path.{◌≡◌, refl, sym, ap, ◌∙◌}
use mathlib.Core.Bool.{Bool, true, false, false≢true}
use mathlib.Core.List.{List, [], ◌++◌, append_assoc}
use borrow.Author.Tests.{eqb-true}
use lib.Dec.{eqb}
use lib.ListN.{length, length-append, get_or-append}
use lib.Seq.{get_or-append-add}
use Rattle.std.specs.Prelude.{Option, Some, None, Ok, IfSome}
use Rattle.std.specs.Option.{option_eq}
use Rattle.refusal.specs.declared.Refusal.{Refusal}
use Rattle.record.specs.declared.Record.{Record}
use Rattle.grammar.specs.Reading.{Reading, records, refusal_of}
use Rattle.reader.specs.declared.open.State.{State}
use Rattle.reader.specs.Passed.{Sound, read_from, follow, stored_all, Further}
use Rattle.verdict.specs.Verdict.{blank}
use Rattle.verdict.specs.Meaning.{nth}
use Rattle.file.specs.File.{record_in}
use Rattle.checker.specs.Passing.{Fit, Orders, Goes}
use Rattle.checker.proofs.Laying.{laid_at}

pub clash : (rs : List Record) (f : Refusal) → records rs ≡ refusal_of f → ⊥
clash rs f e = let z : ◌≡◌ {A = ℕ} 0 1 = cc in omega arith

pub same_records : (rs qs : List Record) → records rs ≡ records qs → rs ≡ qs
same_records rs qs e = cc

pub follow_none : (x : Reading) → x ≡ follow [] x
follow_none (records qs) = refl
follow_none (refusal_of r) = refl

pub follow_follow : (a b : List Record) (x : Reading) → follow a (follow b x) ≡ follow (a ++ b) x
follow_follow a b (records qs) = ap records (sym (append_assoc a b qs))
follow_follow a b (refusal_of r) = refl

-- where a reading gives these records, what follows the first of them gives the rest
pub parted : (g ds : List Record) (x : Reading) → records ds ≡ follow g x → (qs : List Record) × (x ≡ records qs) × (ds ≡ g ++ qs)
parted g ds (records qs) e = (qs, refl, same_records ds (g ++ qs) e)
parted g ds (refusal_of r) e = absurd (clash ds r e)

-- BY INDEX

nth_left : (a b : List Record) (k : ℕ) → k < length a → nth (a ++ b) k ≡ nth a k
nth_left a b k h = get_or-append a b blank k h

nth_right : (a b : List Record) (k : ℕ) → nth (a ++ b) (length a + k) ≡ nth b k
nth_right a b k = get_or-append-add a b k blank

pub fit_left : (a b : List Record) → Fit (a ++ b) → Fit a
fit_left a b h k l = rw (nth_left a b k l) at (h k (rw (length-append a b) (omega arith)))

pub fit_right : (a b : List Record) → Fit (a ++ b) → Fit b
fit_right a b h k l = rw (nth_right a b k) at (h (length a + k) (rw (length-append a b) (omega arith)))

-- THE FIRST PASS

-- what a run says of the records given: a file of which so many were found has them in its place
abbrev pub Says : List ℕ → List Record → Option ℕ → Type 0
Says file given None = Unit {0}
Says file given (Some n) = (length given ≡ n) × (n ≤ length file / 36) × (Fit given → (k : ℕ) → k < length given → record_in file k ≡ nth given k)

-- the records given so far, and the run
pub record So (s : List ℕ) (start : State) (file : List ℕ) (o : State) (run : Option ℕ) : Type 0 where
  pub sound : Sound s o
  pub given : List Record
  pub rest : read_from s start ≡ follow given (read_from s o)
  pub says : Says file given run

pub so_start : (s : List ℕ) (start : State) (file : List ℕ) → Sound s start → So s start file start (Some 0)
so_start s start file d =
    record { sound = d; given = []; rest = follow_none (read_from s start); says = (refl, omega arith, λ _ k h. absurd (not-suc-le-zero h)) }

says_within : (file : List ℕ) (given : List Record) (run : Option ℕ) → Says file given run → IfSome run (λ n. n ≤ length file / 36)
says_within file given None h = tt
says_within file given (Some n) h = h.1

-- c records more, as a stretch w of them is found
says_more : (file w : List ℕ) (given g : List Record) (c : ℕ) (run r : Option ℕ) → length g ≡ c → c ≤ length w / 36
    → Says file given run → Goes run c (record_in (stored_all 0 g w)) file r → Says file (given ++ g) r
says_more file w given g c run None count room h go = tt
says_more file w given g c None (Some n) count room h go = absurd go
says_more file w given g c (Some d) (Some n) count room h go = (omega (arith, length-append given g, h.0, go.0), go.1, each)
  where
    each : Fit (given ++ g) → (k : ℕ) → k < length (given ++ g) → record_in file k ≡ nth (given ++ g) k
    each fit k l = elim (dec_lt k (length given)) [
      | yes q ↦ h.2 (fit_left given g fit) k q ∙ sym (nth_left given g k q)
      | no q ↦
          let j = k - d in
          let i : d + j ≡ k = omega (arith, h.0) in
          let b : j < c = omega (arith, length-append given g, h.0) in
          let y : nth (given ++ g) (d + j) ≡ nth g j = rw h.0 at (nth_right given g j) in
          let e : record_in file (d + j) ≡ nth (given ++ g) (d + j) = go.2 j b ∙ laid_at g w (omega arith) (fit_right given g fit) j (omega arith) ∙ sym y in
          rw i at e
    ]

-- the test of a run against the file's count
pub run_is : (run : Option ℕ) (n : ℕ) → option_eq eqb run (Some n) ≡ true → run ≡ Some n
run_is None n h = absurd (false≢true h)
run_is (Some x) n h = ap Some (eqb-true x n h)

module _ (s : List ℕ) (start : State) (file : List ℕ) (o : State) (run : Option ℕ) (so : So s start file o run) where
  pub so_within : IfSome run (λ n. n ≤ length file / 36)
  so_within = says_within file so.given run so.says

  -- as a pass laid the stretch
  pub so_next : (w : List ℕ) (c : ℕ) → c ≤ length w / 36 → (to : State) (out : List ℕ) → Further s o w c to out → (r : Option ℕ) → Goes run c (record_in out) file r
      → So s start file to r
  so_next w c room to out f r go = record {
    sound = f.sound;
    given = so.given ++ f.given;
    rest = so.rest ∙ ap (follow so.given) f.rest ∙ follow_follow so.given f.given (read_from s to);
    says = says_more file w so.given f.given c run r f.count room so.says (rw f.laid at go);
  }

  pub so_last : (w out : List ℕ) (c : ℕ) (g : List Record) → read_from s o ≡ records g → length g ≡ c → out ≡ stored_all 0 g w → c ≤ length w / 36
      → (r : Option ℕ) → Goes run c (record_in out) file r → (same : Bool) → (same ≡ true → r ≡ Some (length file / 36)) → Orders s start file (Ok same)
  so_last w out c g e n laid room r go true h =
      let z : Says file (so.given ++ g) (Some (length file / 36)) = rw (h refl) at (says_more file w so.given g c run r n room so.says (rw laid at go)) in
      (so.given ++ g, so.rest ∙ ap (follow so.given) e, λ fit. (sym z.0, z.2 fit))
  so_last w out c g e n laid room r go false h = (so.given ++ g, so.rest ∙ ap (follow so.given) e)

  pub so_refused : (f : Refusal) → read_from s o ≡ refusal_of f → read_from s start ≡ refusal_of f
  so_refused f e = so.rest ∙ ap (follow so.given) e
