-- `word::spelling::eight` meets its contract: no word has a fifth eight.
use Rattle.std.proofs.Common.{◌≡◌, arith, get_or, ◌∙◌}
use Rattle.std.proofs.lemmas.Grind.{common_steps}
use Rattle.word.specs.Spelling.{spelling}
use Rattle.word.specs.Letters.{eights_of}
use Rattle.word.proofs.Spelt.{few_letters, eights_at}
use Rattle.word.proofs.spelling.eight.Goals as goal

pub returns : goal.returns
returns c =
    let e : c.unwrap_or.result ≡ get_or (eights_of (spelling c.args.k)) c.args.part 0 = grind (arith, common_steps) in
    e ∙ eights_at (spelling c.args.k) (few_letters c.args.k) c.args.part
