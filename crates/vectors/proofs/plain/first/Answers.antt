-- `plain::first` meets its contract: the tests say whether the byte is written as itself.
use Rattle.std.proofs.Common.{rules, ◌≡◌, ◌∷◌}
use Rattle.std.proofs.lemmas.List.{take_rest}
use Rattle.vectors.proofs.Laws.{meant_escaped, meant_itself}
use Rattle.vectors.proofs.plain.first.Goals as goal
use Rattle.vectors.proofs.plain.first.Goals.{else-byte-eq92-via-then-byte-eq92+else-after-gt1, else-byte-eq92-via-else-byte-eq92}

pub returns-then-after-gt1-clause-meant : goal.returns-then-after-gt1-clause-meant
returns-then-after-gt1-clause-meant c =
    let split : c.args.written.now ≡ c.in_ok-byte.byte.now ∷ c.in_ok-byte.after.now = search rules in
    rw (split, c.pair.ensures, take_rest c.in_ok-byte.after.now 2) (meant_escaped c.in_ok-byte.byte.now c.in_ok-byte.after.now c.if-byte-eq92.true c.if-after-gt1.true)

pub returns-clause-meant : goal.returns-clause-meant
returns-clause-meant c =
    let split : c.args.written.now ≡ c.in_ok-byte.byte.now ∷ c.in_ok-byte.after.now = search rules in
    rw split (meant_itself c.in_ok-byte.byte.now c.in_ok-byte.after.now (λ is.
    elim c.else-byte-eq92.branch [
      | else-byte-eq92-via-then-byte-eq92+else-after-gt1 w ↦ w.if-after-gt1.false
      | else-byte-eq92-via-else-byte-eq92 w ↦ absurd (w.if-byte-eq92.false is)
    ]))
