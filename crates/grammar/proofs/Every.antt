-- What the items of every statement see to holds of every record of a reading: a turn emits only what items gave.
use Prim.Native.Nat.{ℕ}
use mathlib.Core.Path.{◌≡◌}
use mathlib.Core.Bool.{Bool, true}
use mathlib.Core.List.{List, [], ◌∷◌, map}
use Rattle.lexer.specs.Lex.{from}
use Rattle.record.specs.declared.Record.{Record}
use Rattle.grammar.specs.Tokens.{Tok}
use Rattle.grammar.specs.Grammar.{Block, Item}
use Rattle.grammar.specs.Table.{body}
use Rattle.grammar.specs.Engine.{Rec}
use Rattle.grammar.specs.Reading.{Mark, ahead, filed, start, records, reading}
use Rattle.grammar.specs.Standing.{Every}
use Rattle.grammar.proofs.Kept.{here, all}
use Rattle.grammar.proofs.Steps.{fit_body, Given}
use Rattle.grammar.proofs.Turned.{reading_with}
use Rattle.grammar.proofs.Places.{of_reading}

-- the tokens that a text is read from
abbrev pub read_from : List ℕ → List (Tok ℕ Mark)
read_from s = all (ahead s (from s 0 1))

module _ (fit : ℕ → List Item → Bool) (passes : (b : Block) → fit_body fit (body b) ≡ true) (Q : Record → Type 0) where
  map_every : (rs : List (Rec ℕ)) → Every (λ r. Q (filed r)) rs → Every Q (map filed rs)
  map_every [] h = tt
  map_every (r ∷ rs) h = (h.0, map_every rs h.1)

  pub every : (s : List ℕ) (rs : List Record) → Given (read_from s) fit (λ r. Q (filed r)) → reading s ≡ records rs → Every Q rs
  every s rs given = of_reading (Every (λ r. Q (filed r))) (Every Q) map_every s
      (λ n. reading_with (read_from s) fit passes (λ r. Q (filed r)) given (λ fs a rs. Every (λ r. Q (filed r)) rs)
      (λ fs a. tt) (λ fs a r s b rs h p. (h.1, p)) (λ fs a s b rs h p. p) n start (ahead s (from s 0 1)) here) rs
