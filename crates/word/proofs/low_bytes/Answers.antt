-- `word::low_bytes` meets its contract: the mask has eight bits for each byte.
use native.Mathlib.Omega.{arith}
use lib.ListN.{drop}
use Rattle.little.specs.Little.{Bytes}
use Rattle.little.proofs.Laws.{drop_bytes}
use Rattle.word.proofs.Masks.{masked}
use Rattle.word.proofs.low_bytes.Goals as goal

pub returns : goal.returns
returns c =
    let a = c.args in
    let l = a.text.now in
    let bs : Bytes l = λ i. (c.type_inv.text i).fits in
    record { value = masked a.n c.eight.result (drop a.at l) (drop_bytes a.at l bs) (omega arith) c.eight.ensures; bytes = bs }
