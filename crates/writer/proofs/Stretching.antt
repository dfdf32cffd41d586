-- A stretch of records is written record by record: the first k of a file, and then the record at the index k.
use Prim.Native.Nat.{ℕ, suc, ◌+◌, ◌-◌, ◌*◌, ◌/◌, ◌≤◌, ◌<◌}
use native.Mathlib.Omega.{arith}
use mathlib.Core.Path.{◌≡◌, refl, sym, ap, subst, ◌∙◌}
use mathlib.Core.Bool.{true}
use mathlib.Core.List.{List, [], ◌∷◌, ◌++◌, map}
use lib.ListN.{length, drop}
use borrow.Author.Tests.{lt-ltb}
use Rattle.rowfile.specs.Rows.{front as rows_front}
use Rattle.rowfile.proofs.Held.{front_append, front_all}
use Rattle.std.specs.Prelude.{Option, Some, None}
use Rattle.record.specs.declared.Record.{Record}
use Rattle.record.specs.Bytes.{decoded}
use Rattle.file.specs.File.{front, record_at, record_in}
use Rattle.grammar.specs.Turns as T
use Rattle.parser.specs.declared.open.Frame.{Frame as Around}
use Rattle.reader.specs.declared.open.Open.{Open}
use Rattle.reader.specs.Open.{blocks_of, Ranked}
use Rattle.reader.specs.Passed.{stored_all}
use Rattle.verdict.specs.Verdict.{blank}
use Rattle.checker.specs.Passing.{Fit}
use Rattle.checker.proofs.Laying.{laid_at}
use Rattle.render.specs.Plain.{Plain, bare}
use Rattle.render.specs.Fit.{admits}
use Rattle.lines.specs.declared.page.Page.{Page}
use Rattle.writer.specs.Penned.{pieces_of, after_all, admits_all, frames_of, Wrote}
use Rattle.writer.proofs.Ending.{nothing_put}
use Rattle.writer.proofs.Writing.{admits_append, admits_first, wrote_then}

-- THE RECORDS OF A FILE

pub bared_append : (s : List ℕ) (rs qs : List Record) → map (bare s) (rs ++ qs) ≡ map (bare s) rs ++ map (bare s) qs
bared_append s [] qs = refl
bared_append s (r ∷ rs) qs = ap (◌∷◌ (bare s r)) (bared_append s rs qs)

front_more : (s : List ℕ) (k : ℕ) (w : List ℕ) → map (bare s) (front (k + 1) w) ≡ map (bare s) (front k w) ++ (bare s (record_in w k) ∷ [])
unfolding rows_front
front_more s k w = ap (map (bare s)) (front_append 36 decoded k 1 w) ∙ bared_append s (front k w) (front 1 (drop (36 * k) w))

-- the records after the first k
front_rest : (s : List ℕ) (k c : ℕ) (w : List ℕ) → k < c
    → (rest : List Plain) × (map (bare s) (front c w) ≡ map (bare s) (front k w) ++ (bare s (record_in w k) ∷ rest))
unfolding rows_front
front_rest s k c w h =
    let z : k + suc (c - k - 1) ≡ c = omega arith in
    let e : map (bare s) (front (k + suc (c - k - 1)) w) ≡ map (bare s) (front k w) ++ map (bare s) (front (suc (c - k - 1)) (drop (36 * k) w))
    = ap (map (bare s)) (front_append 36 decoded k (suc (c - k - 1)) w) ∙ bared_append s (front k w) (front (suc (c - k - 1)) (drop (36 * k) w)) in
    (map (bare s) (front (c - k - 1) (drop 36 (drop (36 * k) w))), rw z at e)

-- records that a pass has stored from the front on
pub front_stored : (rs : List Record) (w : List ℕ) (c : ℕ) → length rs ≡ c → c ≤ length w / 36 → Fit rs → front c (stored_all 0 rs w) ≡ rs
front_stored rs w c n h fit = rw (← n) (front_all 36 decoded blank rs (stored_all 0 rs w) (laid_at rs w (omega arith) fit))

-- WHAT STANDS AT AN INDEX

module _ (w : List ℕ) (k : ℕ) (h : k < length w / 36) (x : Option Record) (e : x ≡ record_at w k) where
  at_index : x ≡ Some (record_in w k)
  unfolding record_at
  at_index = e ∙ rw (lt-ltb k (length w / 36) h)

  pub the_record : (r : Record) → x ≡ Some r → r ≡ record_in w k
  the_record r q = let z : Some r ≡ Some (record_in w k) = sym q ∙ at_index in cc

  pub never_past : x ≡ None → ⊥
  never_past q = let a : Some (record_in w k) ≡ None = sym at_index ∙ q in let z : ◌≡◌ {A = ℕ} 0 1 = cc in omega arith

-- RECORD BY RECORD

module _ (s : List ℕ) (w : List ℕ) where
  pub wrote_none : (p : Page) (o : Open) (outer : List Around) → Ranked (frames_of s o outer) → Wrote s (blocks_of s o outer) (map (bare s) (front 0 w)) p o outer p
  unfolding rows_front pieces_of after_all
  wrote_none p o outer k = record { put = nothing_put p; state = refl; ranked = k }

  module _ (t : T.State ℕ) (k : ℕ) (p : Page) (o : Open) (outer : List Around) (mid : Page) (a : Wrote s t (map (bare s) (front k w)) p o outer mid)
      (r : Record) (e : r ≡ record_in w k) where
    pub next_admitted : (c : ℕ) → k < c → admits_all t (map (bare s) (front c w)) ≡ true → admits o.version (frames_of s o outer) (bare s r) ≡ true
    next_admitted c h d =
        let (rest, z) = front_rest s k c w h in
        let u = admits_append t (map (bare s) (front k w)) (bare s (record_in w k) ∷ rest) (rw z at d) in
        let v = admits_first (after_all t (map (bare s) (front k w))) (bare s (record_in w k)) rest u in
        rw e (subst (λ q. admits q.version q.blocks (bare s (record_in w k)) ≡ true) (sym a.state) v)

    pub wrote_next : (to : Open) (outer' : List Around) (q : Page) → Wrote s (blocks_of s o outer) (bare s r ∷ []) mid to outer' q
        → Wrote s t (map (bare s) (front (k + 1) w)) p to outer' q
    wrote_next to outer' q b = rw (front_more s k w) (wrote_then a (rw (a.state, e) at b))

  pub wrote_all : {t : T.State ℕ} (k c : ℕ) {p q : Page} {o : Open} {outer : List Around} → k ≡ c
      → Wrote s t (map (bare s) (front k w)) p o outer q → Wrote s t (map (bare s) (front c w)) p o outer q
  wrote_all k c e a = rw e at a
