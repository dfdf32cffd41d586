-- Stretches in a row: what is read and written so far, and what is still to come, make up one reading and its lines.
use Prim.Native.Nat.{ℕ, ◌/◌, ◌≤◌}
use mathlib.Core.Path.{◌≡◌, sym, ap, ◌∙◌}
use mathlib.Core.Bool.{true}
use mathlib.Core.List.{List, [], ◌++◌, map, append-nil}
use lib.ListN.{length}
use Rattle.refusal.specs.declared.Refusal.{Refusal}
use Rattle.record.specs.declared.Record.{Record}
use Rattle.rowfile.specs.Rows.{front as rows_front}
use Rattle.file.specs.File.{front}
use Rattle.grammar.specs.Reading.{records, refusal_of}
use Rattle.reader.specs.declared.open.State.{State}
use Rattle.parser.specs.declared.open.Frame.{Frame as Around}
use Rattle.reader.specs.declared.open.Open.{Open}
use Rattle.reader.specs.Open.{blocks_of, state_of}
use Rattle.reader.specs.Passed.{Sound, read_from, follow, stored_all, Further}
use Rattle.checker.specs.Passing.{Fit}
use Rattle.checker.proofs.Following.{clash, same_records, follow_none, follow_follow, parted, fit_left, fit_right}
use Rattle.render.specs.Pieces.{text}
use Rattle.render.specs.Plain.{bare}
use Rattle.render.specs.Lines.{lines}
use Rattle.render.specs.Fit.{fit_from}
use Rattle.lines.specs.declared.page.Page.{Page}
use Rattle.lines.specs.Put.{Puts}
use Rattle.lines.proofs.Laws.{puts_as}
use Rattle.writer.specs.Penned.{admits_all, May, Wrote, Ready}
use Rattle.writer.proofs.Writing.{fits_first, wrote_then, wrote_lines}
use Rattle.writer.proofs.Stretching.{bared_append, front_stored, wrote_none}

-- the records given so far are written
pub record So (s : List ℕ) (start st : State) (p : Page) (o : Open) (outer : List Around) (q : Page) : Type 0 where
  pub sound : Sound s st
  pub given : List Record
  pub rest : read_from s start ≡ follow given (read_from s st)
  pub wrote : Wrote s (state_of s start) (map (bare s) given) p o outer q

pub so_start : (s : List ℕ) (start : State) (p : Page) → Sound s start → So s start start p start.«open» start.outer p
unfolding rows_front
so_start s start p d = record { sound = d; given = []; rest = follow_none (read_from s start); wrote = wrote_none s [] p start.«open» start.outer d }

module _ (s : List ℕ) (start : State) (rs : List Record) (ready : Ready s start rs)
    (o : State) (p : Page) (at : Open) (outer : List Around) (mid : Page) (so : So s start o p at outer mid) where
  -- what is still to come fits where the page is
  pub record Onward (qs : List Record) : Type 0 where
    pub gives : read_from s o ≡ records qs
    pub fit : Fit qs
    pub fits : fit_from (blocks_of s at outer) (map (bare s) qs) ≡ true

  onward : (qs : List Record) × Onward qs
  onward =
      let (qs, e, z) = parted so.given rs (read_from s o) (sym ready.gives ∙ so.rest) in
      let t = state_of s start in
      let f : fit_from t (map (bare s) so.given ++ map (bare s) qs) ≡ true
      = ap (fit_from t) (sym (ap (map (bare s)) z ∙ bared_append s so.given qs)) ∙ ready.fits in (
        qs,
        record {
          gives = e;
          fit = fit_right so.given qs (rw z at ready.fit);
          fits = ap (λ u. fit_from u (map (bare s) qs)) so.wrote.state ∙ (fits_first t (map (bare s) so.given) (map (bare s) qs) f).1;
        },
      )

  -- the next records of what is still to come
  module _ (g ps : List Record) (w w' : List ℕ) (c : ℕ) (count : length g ≡ c) (laid : w' ≡ stored_all 0 g w) (room : c ≤ length w / 36)
      (qs : List Record) (on : Onward qs) (z : qs ≡ g ++ ps) where
    in_front : front c w' ≡ g
    in_front = rw laid (front_stored g w c count room (fit_left g ps (rw z at on.fit)))

    admitted : admits_all (blocks_of s at outer) (map (bare s) (front c w')) ≡ true
    admitted =
        let t = blocks_of s at outer in
        let f : fit_from t (map (bare s) g ++ map (bare s) ps) ≡ true = ap (fit_from t) (sym (ap (map (bare s)) z ∙ bared_append s g ps)) ∙ on.fits in
        rw in_front (fits_first t (map (bare s) g) (map (bare s) ps) f).0

  -- a pass that goes on
  module _ (w w' : List ℕ) (c : ℕ) (room : c ≤ length w / 36) (to : State) (f : Further s o w c to w') where
    more : (qs : List Record) × Onward qs × ((ps : List Record) × (read_from s to ≡ records ps) × (qs ≡ f.given ++ ps))
    more = let (qs, on) = onward in (qs, on, parted f.given qs (read_from s to) (sym on.gives ∙ f.rest))

    next_admitted : admits_all (blocks_of s at outer) (map (bare s) (front c w')) ≡ true
    next_admitted = let (qs, on, (ps, e, z)) = more in admitted f.given ps w w' c f.count f.laid room qs on z

    pub next_may : May s at outer (map (bare s) (front c w'))
    next_may = (so.wrote.ranked, next_admitted)

    pub so_next : (next : Open) (outer' : List Around) (q : Page) → Wrote s (blocks_of s at outer) (map (bare s) (front c w')) mid next outer' q → So s start to p next outer' q
    so_next next outer' q a =
        let (qs, on, (ps, e, z)) = more in
        let h = in_front f.given ps w w' c f.count f.laid room qs on z in
        record {
          sound = f.sound;
          given = so.given ++ f.given;
          rest = so.rest ∙ ap (follow so.given) f.rest ∙ follow_follow so.given f.given (read_from s to);
          wrote = rw (bared_append s so.given f.given) (wrote_then so.wrote (rw (so.wrote.state, h) at a));
        }

  -- a pass that is over
  module _ (w w' : List ℕ) (c : ℕ) (room : c ≤ length w / 36) (g : List Record) (e : read_from s o ≡ records g) (count : length g ≡ c) (laid : w' ≡ stored_all 0 g w) where
    last : (qs : List Record) × Onward qs × (qs ≡ g ++ [])
    last = let (qs, on) = onward in (qs, on, same_records qs g (sym on.gives ∙ e) ∙ sym (append-nil g))

    last_admitted : admits_all (blocks_of s at outer) (map (bare s) (front c w')) ≡ true
    last_admitted = let (qs, on, z) = last in admitted g [] w w' c count laid room qs on z

    pub last_may : May s at outer (map (bare s) (front c w'))
    last_may = (so.wrote.ranked, last_admitted)

    pub so_last : (q : Page) → Puts mid q (text (lines (blocks_of s at outer) (map (bare s) (front c w'))))
        → (xs : List Record) → read_from s start ≡ records xs → Puts p q (text (lines (state_of s start) (map (bare s) xs)))
    so_last q a xs x =
        let (qs, on, z) = last in
        let h = in_front g [] w w' c count laid room qs on z in
        let k : so.given ++ g ≡ xs = same_records (so.given ++ g) xs (sym (ap (follow so.given) e) ∙ sym so.rest ∙ x) in
        puts_as (ap (λ l. text (lines (state_of s start) l)) (sym (bared_append s so.given g) ∙ ap (map (bare s)) k))
        (wrote_lines (map (bare s) g) so.wrote (rw h at a))

  pub so_refused : (f : Refusal) → read_from s o ≡ refusal_of f → ⊥
  so_refused f e = let (qs, on) = onward in clash qs f (sym on.gives ∙ e)
