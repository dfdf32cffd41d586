-- What a text reads as fits from the start: its tokens can be written again, and its records stand one after the other.
use Prim.Native.Nat.{ℕ, suc}
use mathlib.Core.Path.{◌≡◌, refl}
use mathlib.Core.Bool.{Bool, true, false, cond}
use mathlib.Core.List.{List, [], ◌∷◌, map}
use native.Mathlib.Omega.{arith}
use lib.Dec.{eqb}
use Rattle.lexer.specs.declared.Lexed.{Lexed}
use Rattle.std.specs.Prelude.{Ok}
use Rattle.lexer.specs.Lex.{from}
use Rattle.lexer.specs.Screen.{screened}
use Rattle.grammar.specs.Tokens.{Tok, Ahead, bad}
use Rattle.grammar.specs.Engine.{Rec}
use Rattle.grammar.specs.Standing.{Every, Rising, places_of}
use Rattle.grammar.specs.Turns.{read, stopped}
use Rattle.grammar.specs.Reading.{Mark, tok, ahead, filed, start, read_ahead}
use Rattle.grammar.proofs.Kept.{all}
use Rattle.grammar.proofs.Falls.{read_on}
use Rattle.grammar.proofs.Places.{places_rise}
use Rattle.render.specs.Forms.{close_of}
use Rattle.render.specs.Fit.{fit_from}
use Rattle.render.proofs.Ascii.{clear_ascii}
use Rattle.render.proofs.TokensSpelt.{NameSpelt, StringSpelt, tokens_spelt, string_spelt}
use Rattle.render.proofs.Stands.{Good, plain_rec}
use Rattle.render.proofs.Bared.{told_turns}
use Rattle.render.proofs.Turns.{not_stopped}
use Rattle.render.proofs.Nested.{Climbs}
use Rattle.render.proofs.ListsRead.{list_read}

-- THE TOKENS

both_spelt : (l : List (Tok ℕ Mark)) → Every NameSpelt l → Every StringSpelt l → Every Good l
both_spelt [] p q = tt
both_spelt (t ∷ l) p q = ((p.0, q.0), both_spelt l p.1 q.1)

ahead_good : (s : List ℕ) (l : List Lexed) → Every Good (map (tok s) l) → Every Good (all (ahead s l))
ahead_good s [] h = ((λ e. absurd (omega arith), λ e. absurd (omega arith)), tt)
ahead_good s (r ∷ l) h = h

tokens_good : (s : List ℕ) → screened s ≡ Ok tt → Every Good (all (ahead s (from s 0 1)))
tokens_good s c =
    let a = clear_ascii s c in
    ahead_good s (from s 0 1) (both_spelt (map (tok s) (from s 0 1)) (tokens_spelt s a 0 1) (string_spelt s a 0 1))

-- THE RECORDS

climbing : (q : Rec ℕ) (qs : List (Rec ℕ)) → Rising (places_of (map filed (q ∷ qs))) → Climbs qs (suc q.at)
climbing q [] h = tt
climbing q (r ∷ qs) h = (h.0, climbing r qs h.1)

records_climb : (qs : List (Rec ℕ)) → Rising (places_of (map filed qs)) → Climbs qs 0
records_climb [] h = tt
records_climb (q ∷ qs) h = (omega arith, climbing q qs h)

-- a reading that gives records began with a token
begun : (a : Ahead ℕ Mark) (qs : List (Rec ℕ)) → read_ahead a ≡ read qs → read_on start a ≡ read qs
unfolding read_ahead
begun a qs e = go (eqb a.held.kind bad) e
  where
    go : (c : Bool) → cond c (stopped 3 a.held.mark) (read_on start a) ≡ read qs → read_on start a ≡ read qs
    go true e = absurd (not_stopped e)
    go false e = e

-- WHAT A TEXT READS AS FITS
pub reading_fits : (s : List ℕ) (qs : List (Rec ℕ)) → read_ahead (ahead s (from s 0 1)) ≡ read qs → screened s ≡ Ok tt → fit_from start (map plain_rec qs) ≡ true
unfolding close_of
reading_fits s qs e c = list_read start (ahead s (from s 0 1)) qs (begun (ahead s (from s 0 1)) qs e) (tokens_good s c)
    (record { place = 0; falls = refl; climbs = records_climb qs (places_rise s (map filed qs) (told_turns s qs c e)); housed = (refl, tt) })
