-- What is written of records in a row is what is written of the first and then of the others, from the state after the first.
use Prim.Native.Nat.{ℕ, ◌/◌, ◌≤◌, ◌<◌}
use native.Mathlib.Omega.{arith}
use mathlib.Core.Path.{◌≡◌, refl, sym, ap, subst, ◌∙◌}
use mathlib.Core.Bool.{true, false≢true}
use mathlib.Core.List.{List, [], ◌∷◌, ◌++◌, append_assoc, append-nil}
use lib.ListN.{length}
use Rattle.record.specs.declared.Record.{Record}
use Rattle.std.specs.Prelude.{Option, Some, None}
use Rattle.word.proofs.Words.{both}
use Rattle.grammar.specs.Engine.{Frame}
use Rattle.grammar.specs.Turns as T
use Rattle.rows.specs.Packed.{move_of}
use Rattle.parser.specs.declared.open.Frame.{Frame as Around}
use Rattle.parser.specs.Kept.{frame_of}
use Rattle.reader.specs.declared.open.Open.{Open}
use Rattle.reader.specs.Open.{frames_in, blocks_of, Pushes, rank, Ranked}
use Rattle.reader.proofs.Stack.{frames_length}
use Rattle.reader.proofs.Ranks.{Deeper, deeper_inside, deeper_room, shift_ranked}
use Rattle.render.specs.Pieces.{Piece, text}
use Rattle.render.specs.Plain.{Plain, bare}
use Rattle.render.specs.Lines.{form_in, taking, before, statement, entered, end_all, pieces, after, lines}
use Rattle.render.specs.Fit.{admits, fit_from}
use Rattle.lines.specs.declared.form.Form.{Form as Found}
use Rattle.lines.specs.declared.page.Page.{Page}
use Rattle.lines.specs.Put.{Puts}
use Rattle.lines.specs.Formed.{as_formed}
use Rattle.lines.specs.Stated.{stated_in}
use Rattle.lines.proofs.Laws.{puts_as}
use Rattle.lines.proofs.Pieced.{pieces_then}
use Rattle.writer.specs.declared.pen.Taken.{Taken}
use Rattle.writer.specs.Penned.{pieces_of, after_all, admits_all, frames_of, Wrote, Reached, Takes, Settled, move_in, Enters}
use Rattle.writer.proofs.Ending.{shallow}
use Rattle.writer.proofs.Taking.{taking_ranked, form_deeper}

-- RECORDS IN A ROW

pieces_append : (t : T.State ℕ) (rs qs : List Plain) → pieces_of t (rs ++ qs) ≡ pieces_of t rs ++ pieces_of (after_all t rs) qs
unfolding pieces_of after_all
pieces_append t [] qs = refl
pieces_append t (r ∷ rs) qs = let u = after t.version t.blocks r in
    ap (◌++◌ (pieces t.blocks r)) (pieces_append u rs qs) ∙ sym (append_assoc (pieces t.blocks r) (pieces_of u rs) (pieces_of (after_all u rs) qs))

pub after_append : (t : T.State ℕ) (rs qs : List Plain) → after_all t (rs ++ qs) ≡ after_all (after_all t rs) qs
unfolding after_all
after_append t [] qs = refl
after_append t (r ∷ rs) qs = after_append (after t.version t.blocks r) rs qs

-- the lines of records: what is written of them, and the ends of the blocks
pub lines_end : (t : T.State ℕ) (rs : List Plain) → pieces_of t rs ++ end_all (after_all t rs).blocks ≡ lines t rs
unfolding pieces_of after_all lines
lines_end t [] = refl
lines_end t (r ∷ rs) = let u = after t.version t.blocks r in
    append_assoc (pieces t.blocks r) (pieces_of u rs) (end_all (after_all u rs).blocks) ∙ ap (◌++◌ (pieces t.blocks r)) (lines_end u rs)

pub lines_append : (t : T.State ℕ) (rs qs : List Plain) → pieces_of t rs ++ lines (after_all t rs) qs ≡ lines t (rs ++ qs)
unfolding pieces_of after_all lines
lines_append t [] qs = refl
lines_append t (r ∷ rs) qs = let u = after t.version t.blocks r in
    append_assoc (pieces t.blocks r) (pieces_of u rs) (lines (after_all u rs) qs) ∙ ap (◌++◌ (pieces t.blocks r)) (lines_append u rs qs)

-- records that may come do so one after the other
pub admits_append : (t : T.State ℕ) (rs qs : List Plain) → admits_all t (rs ++ qs) ≡ true → admits_all (after_all t rs) qs ≡ true
unfolding admits_all after_all
admits_append t [] qs h = h
admits_append t (r ∷ rs) qs h = let u = after t.version t.blocks r in
    admits_append u rs qs (both (admits t.version t.blocks r) (admits_all u (rs ++ qs)) h).1

pub admits_first : (t : T.State ℕ) (r : Plain) (rs : List Plain) → admits_all t (r ∷ rs) ≡ true → admits t.version t.blocks r ≡ true
unfolding admits_all
admits_first t r rs h = (both (admits t.version t.blocks r) (admits_all (after t.version t.blocks r) rs) h).0

pub fits_first : (t : T.State ℕ) (rs qs : List Plain) → fit_from t (rs ++ qs) ≡ true → (admits_all t rs ≡ true) × (fit_from (after_all t rs) qs ≡ true)
unfolding admits_all after_all fit_from
fits_first t [] qs h = (refl, h)
fits_first t (r ∷ rs) qs h =
    let u = after t.version t.blocks r in
    let a = both (admits t.version t.blocks r) (fit_from u (rs ++ qs)) h in
    let b = fits_first u rs qs a.1 in
    (rw a.0 b.0, b.1)

-- THE PAGE

pub wrote_then : {s : List ℕ} {t : T.State ℕ} {rs qs : List Plain} {p mid q : Page} {o to : Open} {outer outer' : List Around}
    → Wrote s t rs p o outer mid → Wrote s (after_all t rs) qs mid to outer' q → Wrote s t (rs ++ qs) p to outer' q
wrote_then {t = t} {rs = rs} {qs = qs} a b = record {
  put = puts_as (ap text (sym (pieces_append t rs qs))) (pieces_then (pieces_of t rs) (pieces_of (after_all t rs) qs) a.put b.put);
  state = b.state ∙ sym (after_append t rs qs);
  ranked = b.ranked;
}

-- the ends after records
pub wrote_ends : {s : List ℕ} {t : T.State ℕ} {rs : List Plain} {p mid q : Page} {o : Open} {outer : List Around}
    → Wrote s t rs p o outer mid → Puts mid q (text (end_all (frames_of s o outer))) → Puts p q (text (lines t rs))
wrote_ends {s} {t} {rs} {mid = mid} {q = q} {o = o} {outer = outer} a b =
    let z : frames_of s o outer ≡ (after_all t rs).blocks = ap (λ u. u.blocks) a.state in
    puts_as (ap text (lines_end t rs)) (pieces_then (pieces_of t rs) (end_all (after_all t rs).blocks) a.put (puts_as (ap (λ fs. text (end_all fs)) z) b))

pub wrote_lines : {s : List ℕ} {t : T.State ℕ} {rs : List Plain} (qs : List Plain) {p mid q : Page} {o : Open} {outer : List Around}
    → Wrote s t rs p o outer mid → Puts mid q (text (lines (blocks_of s o outer) qs)) → Puts p q (text (lines t (rs ++ qs)))
wrote_lines {s} {t} {rs} qs a b =
    puts_as (ap text (lines_append t rs qs)) (pieces_then (pieces_of t rs) (lines (after_all t rs) qs) a.put (puts_as (ap (λ u. text (lines u qs)) a.state) b))

-- A RECORD

first_of : {f g : Frame ℕ} {fs gs : List (Frame ℕ)} → f ∷ fs ≡ g ∷ gs → f ≡ g
first_of e = cc

rest_of : {f g : Frame ℕ} {fs gs : List (Frame ℕ)} → f ∷ fs ≡ g ∷ gs → fs ≡ gs
rest_of e = cc

module _ (s : List ℕ) (o : Open) (outer : List Around) (r : Record) (p : Page) (home : Open) (mid : Page) (e : Reached s o outer (bare s r) p home mid)
    (x : Taken) (mid' : Page) (d : Settled s home (bare s r) mid x mid') where
  abbrev b : Plain
  b = bare s r

  -- the block that has the record, as it was and as it takes it, and those around it
  abbrev f : Frame ℕ
  f = frame_of s home.inner

  abbrev g : Frame ℕ
  g = taking f b

  abbrev fs : List (Frame ℕ)
  fs = frames_in s home.depth outer

  takes_it : Takes o.version f b
  unfolding admits
  takes_it = rw e.owned at e.ended.admitted

  frame : frame_of s x.«open».inner ≡ g
  frame = first_of (ap (λ t. t.blocks) (d.blocks outer))

  around : frames_in s x.«open».depth outer ≡ fs
  around = rest_of (ap (λ t. t.blocks) (d.blocks outer))

  in_version : x.«open».version ≡ o.version
  in_version = ap (λ t. t.version) (d.blocks outer) ∙ e.ended.version

  ranked : Ranked (g ∷ fs)
  ranked = taking_ranked f fs b e.ended.ranked

  depth : x.«open».depth ≡ length fs
  depth = sym (frames_length s x.«open».depth outer) ∙ ap length around

  -- the statement may be written
  pub stating_in : (x.«open».depth ≤ 16) × (form_in (frame_of s x.«open».inner) b ≡ as_formed r.kind x.form)
  stating_in = (
    omega (arith, depth, frames_length s home.depth outer, shallow s home outer e.ended.ranked),
    ap (λ h. form_in h b) frame ∙ d.formed,
  )

  deeper : (y : Option Found) → form_in g b ≡ as_formed r.kind y → Deeper (rank g.block) (move_in y)
  deeper (Some y) q = form_deeper g b _ q
  deeper None q = tt

  -- and the record may be entered
  pub entering_in : Pushes (move_in x.form) → x.«open».depth < 5
  entering_in h = omega (arith, depth, deeper_room g fs ranked (move_in x.form) (deeper x.form d.formed) h)

  abbrev stating : List Piece
  stating = statement (length fs) g b (form_in g b)

  written : pieces_of (blocks_of s o outer) (b ∷ []) ≡ e.ended.ends ++ (before f (form_in f b) ++ stating)
  unfolding pieces_of pieces
  written = append-nil (pieces (frames_of s o outer) b) ∙ e.ended.rest ∙ rw e.owned

  goes_on : after_all (blocks_of s o outer) (b ∷ []) ≡ entered o.version g fs b (form_in g b)
  unfolding after_all after
  goes_on = e.ended.state ∙ rw e.owned

  -- the open blocks after it
  module _ (q : Open) (outer' : List Around) where
    in_state : (y : Option Found) → form_in g b ≡ as_formed r.kind y → Enters s x.«open» outer r y q outer'
        → (blocks_of s q outer' ≡ entered o.version g fs b (form_in g b)) × Ranked (frames_of s q outer')
    in_state (Some y) h a =
        let m = move_of (y.row.head / 256) in
        let n = deeper (Some y) h in
        let z : blocks_of s q outer' ≡ T.shift m r.kind r.at b.name r.x o.version g fs
        = a (deeper_inside (rank g.block) m n) ∙ rw (in_version, frame, around) in
        (z ∙ rw h, subst Ranked (sym (ap (λ t. t.blocks) z)) (shift_ranked g fs ranked m n r.kind r.at b.name r.x o.version))
    in_state None h a = absurd (false≢true (rw h at takes_it))

    pub record_written : (to : Page) → Puts mid' to (stated_in s x.«open».depth (frame_of s x.«open».inner) r) → Enters s x.«open» outer r x.form q outer'
        → Wrote s (blocks_of s o outer) (b ∷ []) p q outer' to
    record_written to w a =
        let z = in_state x.form d.formed a in
        let within = frame_of s x.«open».inner in
        let deep : Puts mid' to (text (statement (length fs) within b (form_in within b)))
        = puts_as (ap (λ n. text (statement n within b (form_in within b))) depth) w in
        let stated : Puts mid' to (text stating)
        = puts_as (ap (λ h. text (statement (length fs) h b (form_in h b))) frame) deep in
        record {
          put = puts_as (ap text (sym written))
              (pieces_then e.ended.ends (before f (form_in f b) ++ stating) e.ended.put
              (pieces_then (before f (form_in f b)) stating d.put stated));
          state = z.0 ∙ sym goes_on;
          ranked = z.1;
        }
