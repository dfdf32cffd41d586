use Rattle.std.proofs.Common.{◌≡◌, ℕ, Bool, ◌+◌, ◌*◌}
use Rattle.lexer.specs.Run.{past}
use Rattle.lexer.specs.Eight.{Marks}
use Rattle.lexer.proofs.eight.eights_past.Given as goal

abbrev pub invariant-loop-k : goal.invariant-loop-k
invariant-loop-k g l = (p : ℕ → Bool) → ((w r : ℕ) → goal.F-post g l.ends w r → Marks p w r) → past p l.text (l.at + 8 * l.k) ≡ past p l.text l.at
