-- `same_rows` meets its contract: five numbers hold all 36 bytes.
use native.Mathlib.Omega.{arith}
use Rattle.checker.proofs.Bytes.{five_same}
use Rattle.checker.proofs.held.same_rows.Goals as goal

pub returns : goal.returns
returns c =
    let s = c in
    rw (
      c.word64.ensures,
      c.word64-2.ensures,
      c.word64-3.ensures,
      c.word64-4.ensures,
      c.word64-5.ensures,
      c.word64-6.ensures,
      c.word64-7.ensures,
      c.word64-8.ensures,
      c.word32.ensures.eq,
      c.word32-2.ensures.eq,
    )
    (five_same s.args.a.now s.args.b.now (λ i. omega (arith, c.type_inv.a i)) (λ i. omega (arith, c.type_inv.b i)) s.requires.0 s.requires.1)
