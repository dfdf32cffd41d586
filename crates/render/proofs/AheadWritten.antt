-- A written text, as the reader has it ahead: its tokens and the end, and none of them is bad, so the turns begin.
use Prim.Native.Nat.{ℕ, suc}
use mathlib.Core.Path.{◌≡◌, refl, ap, ◌∙◌}
use mathlib.Core.Bool.{Bool, true, false, false≢true}
use mathlib.Core.List.{List, [], ◌∷◌, ◌++◌, map, map-map}
use native.Mathlib.Omega.{arith}
use borrow.Author.Tests.{eqb-true}
use lib.Dec.{eqb}
use lib.ListN.{length, length-append}
use Rattle.lexer.specs.declared.Lexed.{Lexed}
use Rattle.lexer.specs.Bytes.{is_ascii}
use Rattle.lexer.specs.Lex.{from}
use Rattle.word.proofs.Words.{both}
use Rattle.grammar.specs.Tokens.{Ahead, bad}
use Rattle.grammar.specs.Table.{body}
use Rattle.grammar.specs.Turns.{turns}
use Rattle.grammar.specs.Reading.{Mark, tok, ahead, start, read_ahead}
use Rattle.render.specs.Pieces.{Said, Piece, text, tokens, apart}
use Rattle.render.specs.Spelt.{all, is_token, is_spelt, all_spelt}
use Rattle.render.specs.Stripped.{stripped, finish}
use Rattle.render.proofs.Lexed.{lexes_back}
use Rattle.render.proofs.Stands.{standing}

-- there is one token at least
ahead_standing : (s : List ℕ) (l : List Lexed) (us : List Said) (u : Said) → map (λ r. stripped (tok s r)) l ≡ us ++ (u ∷ []) → standing (ahead s l) ≡ us ++ (u ∷ [])
ahead_standing s [] us u e = absurd (omega (arith, ap length e, length-append us (u ∷ [])))
ahead_standing s (r ∷ l) us u e = map-map stripped (tok s) (r ∷ l) ∙ e

pub ahead_written : (ps : List Piece) → all_spelt (tokens ps) ≡ true → apart ps ≡ true → standing (ahead (text ps) (from (text ps) 0 1)) ≡ tokens ps ++ (finish ∷ [])
ahead_written ps z a = ahead_standing (text ps) (from (text ps) 0 1) (tokens ps) finish (lexes_back ps z a)

spelt_kind : (t : Said) → is_spelt t ≡ true → eqb t.kind bad ≡ false
unfolding is_spelt is_token
spelt_kind t z = go (eqb t.kind bad) refl (both (is_token t.kind t.bytes) (all is_ascii t.bytes) z).0
  where
    go : (c : Bool) → eqb t.kind bad ≡ c → is_token t.kind t.bytes ≡ true → c ≡ false
    go true e f = absurd (false≢true (rw (eqb-true t.kind bad e) at f))
    go false e f = refl

first_kind : (us : List Said) → all_spelt us ≡ true → (u : Said) (l : List Said) → u ∷ l ≡ us ++ (finish ∷ []) → eqb u.kind bad ≡ false
unfolding all_spelt
first_kind [] z u l e = let f : u ≡ finish = cc in rw f
first_kind (t ∷ us) z u l e = let f : u ≡ t = cc in rw f (spelt_kind t (both (is_spelt t) (all_spelt us) z).0)

pub turns_begin : (a : Ahead ℕ Mark) (us : List Said) → all_spelt us ≡ true → standing a ≡ us ++ (finish ∷ []) → read_ahead a ≡ turns body (suc (length a.rest)) start a
unfolding read_ahead
turns_begin a us z e = rw (first_kind us z (stripped a.held) (map stripped a.rest) e)
