-- `parser::words::begins` meets its contract: a value that begins with the word is the word by itself, or goes on after it.
use Rattle.word.specs.Codes.{code_of, values_of}
use Rattle.parser.proofs.Begins.{alone_or_first}
use Rattle.parser.proofs.words.begins.Goals as goal

pub returns : goal.returns
unfolding code_of
returns c =
    let a = c.args in
    rw (c.code_of.ensures, c.goes_on.ensures) (alone_or_first 0 (values_of a.kind) a.w)
