-- The windows one after the other: a pass fills a window with the next records of the reading, and the window adds what it shows.
use Prim.Native.Nat.{ℕ, ◌+◌, ◌-◌, ◌/◌, ◌≤◌, ◌<◌}
use native.Mathlib.Decide.{dec_lt}
use native.Mathlib.Omega.{arith}
use mathlib.Core.Path.{◌≡◌, sym, ap, ◌∙◌}
use mathlib.Core.List.{List, [], ◌++◌, append-nil}
use lib.ListN.{length, drop, length-append, length-drop, get_or-append}
use lib.Seq.{get_or-drop, drop-drop, drop_at}
use Rattle.std.specs.Prelude.{None, Result, ⊤}
use Rattle.refusal.specs.Table.{judgement}
use Rattle.refusal.specs.declared.Refusal.{Refusal}
use Rattle.record.specs.declared.Record.{Record}
use Rattle.file.specs.File.{held, record_in}
use Rattle.grammar.specs.Reading.{records, refusal_of}
use Rattle.reader.specs.declared.open.State.{State}
use Rattle.reader.specs.Passed.{Sound, read_from, stored_all, Further}
use Rattle.verdict.specs.Verdict.{blank, verdict}
use Rattle.verdict.specs.Meaning.{nth}
use Rattle.checker.specs.declared.windows.Seen.{Seen}
use Rattle.checker.specs.Windows.{Sorted, Inside}
use Rattle.checker.specs.Covered.{Covered, Fills}
use Rattle.checker.specs.Passing.{Reads}
use Rattle.checker.proofs.Covering.{covered_start}
use Rattle.checker.proofs.Following.{clash, same_records, parted}
use Rattle.checker.proofs.Laying.{laid_at}
use Rattle.checker.proofs.Scanning.{same_at}

-- the reading, how many of its records have been in a window, and what those windows show
pub record Under (s : List ℕ) (start : State) (file : List ℕ) (o : State) (seen : Seen) : Type 0 where
  pub rs : List Record
  pub reads : Reads s start rs
  pub sound : Sound s o
  pub a : ℕ
  pub rest : read_from s o ≡ records (drop a rs)
  pub covered : Covered (length rs) (length file / 36) (nth rs) (record_in file) a seen

pub under_start : (s : List ℕ) (start : State) (file : List ℕ) (seen : Seen) (rs : List Record) → Reads s start rs
    → seen.low ≡ 0 → seen.limit ≡ length file / 36 → seen.lack ≡ None → Under s start file start seen
under_start s start file seen rs r l e t = record {
  rs = rs;
  reads = r;
  sound = r.sound;
  a = 0;
  rest = r.gives;
  covered = covered_start (length rs) (length file / 36) (nth rs) (record_in file) seen l e t;
}

-- A WINDOW with the c records g from index a on, before the others
module _ (s : List ℕ) (start : State) (file : List ℕ) (o : State) (seen : Seen) (un : Under s start file o seen)
    (g qs : List Record) (split : drop un.a un.rs ≡ g ++ qs) (w : List ℕ) (c : ℕ) (count : length g ≡ c) (room : c ≤ length w / 36) where
  sum : un.a + c + length qs ≡ length un.rs
  sum = omega (arith, un.covered.a_le, length-drop un.a un.rs, ap length split, length-append g qs)

  nth_of : (k : ℕ) → k < c → nth g k ≡ nth un.rs (un.a + k)
  nth_of k h =
      sym (get_or-append g qs blank k (omega arith))
      ∙ sym (ap (λ l. nth l k) split)
      ∙ get_or-drop un.a un.rs k blank

  filled : (k : ℕ) → k < c → record_in (stored_all 0 g w) k ≡ nth un.rs (un.a + k)
  filled k h =
      laid_at g w (omega arith) (λ j l. rw (nth_of j (omega arith)) (un.reads.fit (un.a + j) (omega (arith, sum)))) k (omega arith) ∙ nth_of k h

  pub sorted : Sorted (record_in (stored_all 0 g w)) c
  sorted p q l h =
      omega (arith, same_at (filled p (omega arith)), same_at (filled q h), un.reads.rises (un.a + p) (un.a + q) (omega arith) (omega (arith, sum)))

  pub later : qs ≡ drop (un.a + c) un.rs
  later = sym (drop_at g qs c count) ∙ sym (ap (drop c) split) ∙ drop-drop c un.a un.rs

  -- hi is between the window's records and the later ones
  module _ (hi : ℕ) (last : (k : ℕ) → k < un.a + c → (nth un.rs k).at ≤ hi)
      (next : (k : ℕ) → un.a + c ≤ k → k < length un.rs → hi < (nth un.rs k).at) where
    pub fills : Fills (length un.rs) (nth un.rs) (record_in (stored_all 0 g w)) un.a c hi
    fills = record { fits = omega (arith, sum); filled = filled; last = last; later = next }

    pub inside : Inside (record_in (stored_all 0 g w)) c seen.low hi
    inside k h = (
      omega (arith, same_at (filled k h), un.covered.over (un.a + k) (omega arith) (omega (arith, sum))),
      omega (arith, same_at (filled k h), last (un.a + k) (omega arith)),
    )

    pub under_on : (to : State) (t : Seen) → Sound s to → read_from s to ≡ records qs
        → Covered (length un.rs) (length file / 36) (nth un.rs) (record_in file) (un.a + c) t → Under s start file to t
    under_on to t d e cov = record {
      rs = un.rs;
      reads = un.reads;
      sound = d;
      a = un.a + c;
      rest = e ∙ ap records later;
      covered = cov;
    }

  -- the window's last `at` is such a number
  module _ (some : 0 < c) where
    pub last_at : (k : ℕ) → k < un.a + c → (nth un.rs k).at ≤ (record_in (stored_all 0 g w) (c - 1)).at
    last_at k h =
        let e = same_at (filled (c - 1) (omega arith)) in
        elim (dec_lt k (un.a + (c - 1))) [
          | yes l ↦ omega (arith, e, un.reads.rises k (un.a + (c - 1)) l (omega (arith, sum)))
          | no l ↦ let y : k ≡ un.a + (c - 1) = omega arith in rw y (omega (arith, e))
        ]

    pub next_at : (k : ℕ) → un.a + c ≤ k → k < length un.rs → (record_in (stored_all 0 g w) (c - 1)).at < (nth un.rs k).at
    next_at k h l = omega (arith, same_at (filled (c - 1) (omega arith)), un.reads.rises (un.a + (c - 1)) k (omega arith) l)

-- what one window more ensures, as `seen_after` says it
abbrev Covers : List ℕ → List ℕ → Seen → ℕ → ℕ → Seen → Type 0
Covers file w seen c hi t =
    (m : ℕ) (r : ℕ → Record) (a : ℕ)
    → Covered m (length file / 36) r (record_in file) a seen → Fills m r (record_in w) a c hi → Covered m (length file / 36) r (record_in file) (a + c) t

-- A WINDOW THAT IS FULL, up to its last `at`
module _ (s : List ℕ) (start : State) (file : List ℕ) (o : State) (seen : Seen) (un : Under s start file o seen)
    (w out : List ℕ) (c : ℕ) (to : State) (f : Further s o w c to out) (room : c ≤ length w / 36) (some : 0 < c) where
  part : (qs : List Record) × (read_from s to ≡ records qs) × (drop un.a un.rs ≡ f.given ++ qs)
  part = parted f.given (drop un.a un.rs) (read_from s to) (sym un.rest ∙ f.rest)

  pub on_sorted : Sorted (record_in out) c
  on_sorted = rw f.laid (sorted s start file o seen un f.given part.0 part.2 w c f.count room)

  module _ (hi : ℕ) (top : hi ≡ (record_in out (c - 1)).at) where
    top_laid : hi ≡ (record_in (stored_all 0 f.given w) (c - 1)).at
    top_laid = top ∙ ap (λ l. (record_in l (c - 1)).at) f.laid

    last : (k : ℕ) → k < un.a + c → (nth un.rs k).at ≤ hi
    last k h = omega (arith, top_laid, last_at s start file o seen un f.given part.0 part.2 w c f.count room some k h)

    next : (k : ℕ) → un.a + c ≤ k → k < length un.rs → hi < (nth un.rs k).at
    next k h l = omega (arith, top_laid, next_at s start file o seen un f.given part.0 part.2 w c f.count room some k h l)

    pub on_inside : Inside (record_in out) c seen.low hi
    on_inside = rw f.laid (inside s start file o seen un f.given part.0 part.2 w c f.count room hi last next)

    pub on_under : (t : Seen) → Covers file out seen c hi t → Under s start file to t
    on_under t h =
        under_on s start file o seen un f.given part.0 part.2 w c f.count room hi last next to t f.sound part.1
        (h (length un.rs) (nth un.rs) un.a un.covered
        (rw f.laid (fills s start file o seen un f.given part.0 part.2 w c f.count room hi last next)))

-- THE LAST WINDOW, up to the end of numbers
module _ (s : List ℕ) (start : State) (file : List ℕ) (o : State) (seen : Seen) (un : Under s start file o seen)
    (w out : List ℕ) (c : ℕ) (g : List Record) (ends : read_from s o ≡ records g) (count : length g ≡ c) (laid : out ≡ stored_all 0 g w) (room : c ≤ length w / 36) where
  all : drop un.a un.rs ≡ g ++ []
  all = same_records (drop un.a un.rs) g (sym un.rest ∙ ends) ∙ sym (append-nil g)

  whole : un.a + c ≡ length un.rs
  whole = omega (arith, sum s start file o seen un g [] all w c count room)

  last_of : (k : ℕ) → k < un.a + c → (nth un.rs k).at ≤ 4294967295
  last_of k h = omega (arith, (un.reads.fit k (omega (arith, whole))).at_fits)

  none_next : (k : ℕ) → un.a + c ≤ k → k < length un.rs → 4294967295 < (nth un.rs k).at
  none_next k h l = absurd (omega (arith, whole))

  pub over_sorted : Sorted (record_in out) c
  over_sorted = rw laid (sorted s start file o seen un g [] all w c count room)

  pub over_inside : Inside (record_in out) c seen.low 4294967295
  over_inside = rw laid (inside s start file o seen un g [] all w c count room 4294967295 last_of none_next)

  over_covered : (t : Seen) → Covers file out seen c 4294967295 t → Covered (length un.rs) (length file / 36) (nth un.rs) (record_in file) (length un.rs) t
  over_covered t h =
      rw whole at (h (length un.rs) (nth un.rs) un.a un.covered
      (rw laid (fills s start file o seen un g [] all w c count room 4294967295 last_of none_next)))

  pub over_verdict : (t : Seen) → Covers file out seen c 4294967295 t → (v : Result ⊤ Refusal)
      → ((qs : List Record) → Covered (length qs) (length file / 36) (nth qs) (record_in file) (length qs) t → v ≡ judgement (verdict qs (held file)))
      → (qs : List Record) → read_from s start ≡ records qs → v ≡ judgement (verdict qs (held file))
  over_verdict t h v judged qs e =
      judged un.rs (over_covered t h) ∙ ap (λ l. judgement (verdict l (held file))) (same_records un.rs qs (sym un.reads.gives ∙ e))

-- a reading that gives records is not refused on the way
pub never_refused : {s : List ℕ} {start : State} {file : List ℕ} {o : State} {seen : Seen} → Under s start file o seen → (f : Refusal) → read_from s o ≡ refusal_of f → ⊥
never_refused un f e = clash (drop un.a un.rs) f (sym un.rest ∙ e)
