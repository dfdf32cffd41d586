-- `scan::past_ascii` meets its contract: the run goes over each block before the first that has a byte above 127.
use Rattle.std.proofs.Common.{rules, tests, ◌≡◌, ◌∙◌, ◌&&◌, not, true, Bool, List, ℕ}
use Rattle.std.specs.List.{fold, position}
use Rattle.std.proofs.lemmas.Iterator.{YieldsList-from_slice}
use Rattle.std.proofs.lemmas.Iterator.Search.{position_from_yields_List}
use Rattle.lexer.specs.Bytes.{is_ascii}
use Rattle.lexer.proofs.Runs.{all_run, or_len}
use Rattle.lexer.proofs.Chunks.{past_skipped}
use Rattle.lexer.proofs.scan.past_ascii.Goals as goal

abbrev ascii : List ℕ → Bool
ascii = fold (λ x b. x && is_ascii b) true

pub returns : goal.returns
returns c =
    let e : c.position.result ≡ position (λ m. not (ascii m)) c.as_chunks.result.0.now =
    position_from_yields_List (λ m. not (ascii m)) _ _ c.position.result c.position.ensures.ran (YieldsList-from_slice _ c.iter.ensures.rest) (λ x b q k. search (rules, tests)) in
    c.run_past.ensures is_ascii (λ b r h. search rules)
    ∙ past_skipped is_ascii ascii (λ m h. (all_run is_ascii m true h).1) _ _ _ c.as_chunks.ensures.front (c.unwrap_or-clear.ensures ∙ or_len _ _ _ e)
