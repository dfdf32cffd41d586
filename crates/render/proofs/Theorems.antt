-- THE THEOREMS ON WRITING: what is read can be written, what is written reads back as it was, and equal texts are written of equal records alone.
use Prim.Native.Nat.{ℕ, ◌≤◌}
use mathlib.Core.Path.{◌≡◌, refl, sym, ap, ◌∙◌}
use mathlib.Core.Bool.{true}
use mathlib.Core.List.{List, [], map}
use lib.ListN.{length}
use Rattle.record.specs.declared.Record.{Record}
use Rattle.lexer.specs.Lex.{from}
use Rattle.lexer.specs.Screen.{limit}
use Rattle.word.proofs.Words.{both}
use Rattle.grammar.specs.Reading.{ahead, filed, start, records, reading}
use Rattle.grammar.specs.Standing.{places_of}
use Rattle.render.specs.Pieces.{text, tokens}
use Rattle.render.specs.Plain.{Plain, bare, aside}
use Rattle.render.specs.Lines.{lines, render}
use Rattle.render.specs.Fit.{fit_from, indexed, is_fit, Fit}
use Rattle.render.proofs.Ascii.{clear}
use Rattle.render.proofs.Apart.{lines_apart}
use Rattle.render.proofs.LinesSpelt.{lines_spelt}
use Rattle.render.proofs.Bared.{from_turns, told_turns, bared}
use Rattle.render.proofs.Indexes.{numbered, numbered_alike, aside_numbered, aside_indexed}
use Rattle.render.proofs.Alike.{Corresponds}
use Rattle.render.proofs.Aside.{aside_alike}
use Rattle.render.proofs.ListsBack.{list_back}
use Rattle.render.proofs.ReadingFits.{reading_fits}
use Rattle.render.proofs.Renamed.{lines_renamed, fit_renamed}
use Rattle.render.proofs.AheadWritten.{ahead_written, turns_begin}

-- OF THE RECORDS WITH THEIR PLACES: they fit, and they are written alike
bare_fit : (s : List ℕ) (rs : List Record) → reading s ≡ records rs → fit_from start (map (bare s) rs) ≡ true
bare_fit s rs e =
    let (qs, c, t, f) = from_turns s rs e in
    rw (f, bared s qs c t) (reading_fits s qs t c)

pub render_bare : (s : List ℕ) (rs : List Record) → reading s ≡ records rs
    → (render (aside s rs) ≡ text (lines start (map (bare s) rs))) × (fit_from start (map (bare s) rs) ≡ true)
unfolding render
render_bare s rs e =
    let ps = places_of rs in
    (ap (λ qs. text (lines start qs)) (aside_numbered s rs e) ∙ ap text (lines_renamed (numbered ps) (numbered_alike ps) start (map (bare s) rs)), bare_fit s rs e)

-- WHAT IS READ CAN BE WRITTEN: the records of a text fit, positions aside
pub reading_fit : (s : List ℕ) (rs : List Record) → reading s ≡ records rs → Fit (aside s rs)
unfolding is_fit
reading_fit s rs e =
    let ps = places_of rs in
    let f : fit_from start (aside s rs) ≡ true =
    ap (fit_from start) (aside_numbered s rs e) ∙ fit_renamed (numbered ps) (numbered_alike ps) start (map (bare s) rs) ∙ bare_fit s rs e in
    rw (aside_indexed s rs e, f)

-- nothing is open but the library, to the writer and to the reader
from_start : Corresponds [] start start
from_start = (refl, (record { block = refl; at = tt; label = refl; lacks = refl }, tt))

-- WHAT IS WRITTEN READS BACK: records that fit are those of their text
pub reads_back : (ps : List Plain) → Fit ps → length (render ps) ≤ limit
    → (rs : List Record) × (reading (render ps) ≡ records rs) × (aside (render ps) rs ≡ ps)
unfolding is_fit render
reads_back ps fit short =
    let s = render ps in
    let a = ahead s (from s 0 1) in
    let z = lines_spelt start ps (both (indexed 0 ps) (fit_from start ps) fit).1 in
    let c = clear (lines start ps) z short in
    let w = ahead_written (lines start ps) z (lines_apart start ps) in
    let (qs, t, l) = list_back start start [] ps a from_start (both (indexed 0 ps) (fit_from start ps) fit).0 (both (indexed 0 ps) (fit_from start ps) fit).1 w in
    let r = turns_begin a (tokens (lines start ps)) z w ∙ t in
    (map filed qs, told_turns s qs c r, aside_alike s ps qs c r l)

-- a text that reads is written as one that reads the same
pub written_reads_back : (s : List ℕ) (rs : List Record) → reading s ≡ records rs → length (render (aside s rs)) ≤ limit
    → (qs : List Record) × (reading (render (aside s rs)) ≡ records qs) × (aside (render (aside s rs)) qs ≡ aside s rs)
written_reads_back s rs e = reads_back (aside s rs) (reading_fit s rs e)

-- and written again it is the same text
pub fixed_point : (s : List ℕ) (rs : List Record) → reading s ≡ records rs → length (render (aside s rs)) ≤ limit
    → (qs : List Record) × (reading (render (aside s rs)) ≡ records qs) × (render (aside (render (aside s rs)) qs) ≡ render (aside s rs))
fixed_point s rs e short =
    let (qs, r, a) = written_reads_back s rs e short in
    (qs, r, ap render a)

-- EQUAL TEXTS, EQUAL RECORDS: records that fit and are written as the same text are the same
written_once : (ps qs : List Plain) → Fit ps → Fit qs → length (render ps) ≤ limit → render ps ≡ render qs → ps ≡ qs
written_once ps qs f g short e =
    let (rs, r, a) = reads_back ps f short in
    let (ts, t, b) = reads_back qs g (rw (← e) short) in
    let k : records rs ≡ records ts = sym r ∙ ap reading e ∙ t in
    let h : rs ≡ ts = cc in
    sym a ∙ ap (λ s. aside s rs) e ∙ ap (aside (render qs)) h ∙ b

pub written_alike : (s t : List ℕ) (rs qs : List Record) → reading s ≡ records rs → reading t ≡ records qs → length (render (aside s rs)) ≤ limit
    → render (aside s rs) ≡ render (aside t qs) → aside s rs ≡ aside t qs
written_alike s t rs qs e f = written_once (aside s rs) (aside t qs) (reading_fit s rs e) (reading_fit t qs f)

pub read_alike : (s t : List ℕ) (rs qs : List Record) → aside s rs ≡ aside t qs → render (aside s rs) ≡ render (aside t qs)
read_alike s t rs qs e = ap render e

-- texts that read are written alike where they read the same, positions aside, and there alone
pub alike_iff : (s t : List ℕ) (rs qs : List Record) → reading s ≡ records rs → reading t ≡ records qs → length (render (aside s rs)) ≤ limit
    → (render (aside s rs) ≡ render (aside t qs) → aside s rs ≡ aside t qs) × (aside s rs ≡ aside t qs → render (aside s rs) ≡ render (aside t qs))
alike_iff s t rs qs e f short = (written_alike s t rs qs e f short, read_alike s t rs qs)
