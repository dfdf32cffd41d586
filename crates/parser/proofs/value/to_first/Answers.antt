-- `parser::value::to_first` meets its contract: the number of the word taken, if a value of the kind begins with it.
use Rattle.parser.specs.Drafts.{draft_of}
use Rattle.parser.proofs.Begins.{flatly_either}
use Rattle.parser.proofs.Exits.{handed_on}
use Rattle.parser.proofs.Taking.{first_of_word}
use Rattle.parser.proofs.value.to_first.Goals as goal

pub returns-in_err-w : goal.returns-in_err-w
returns-in_err-w c f b o h e =
    rw (handed_on _ _ c.from_residual.ensures.1, first_of_word o f (draft_of c.args.lent.now.now b c.args.d), ← (c.in_err-w.ensures o h))

pub returns : goal.returns
returns c f b o h e =
    rw (c.begun.ensures _ b, first_of_word o f (draft_of c.args.lent.now.now b c.args.d), e, ← (c.in_ok-w.ensures o h), ← c.begins.ensures, flatly_either)
