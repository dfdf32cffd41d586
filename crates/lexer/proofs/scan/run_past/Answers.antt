-- `scan::run_past` meets its contract: what is left of the text is searched for the first byte that the run does not go over.
use Rattle.std.proofs.Common.{rules, tests, not}
use Rattle.std.proofs.lemmas.Iterator.{YieldsList-from_slice}
use Rattle.std.proofs.lemmas.Iterator.Search.{position_from_yields_List}
use Rattle.lexer.proofs.Runs.{found}
use Rattle.lexer.proofs.scan.run_past.Goals as goal

pub returns : goal.returns
returns g c =
    λ p h.
    let e = position_from_yields_List (λ b. not (p b)) _ _ c.position.result c.position.ensures.ran (YieldsList-from_slice _ c.iter.ensures.rest) (λ x b q k. search (rules, tests, h)) in
    found p _ _ _ _ e c.unwrap_or.ensures
