-- `word::codes::code_of` meets its contract: the list that is looked through is that of the kind, as it computes, and a kind without one has no code.
use Rattle.std.proofs.Common.{arith}
use Rattle.std.proofs.lemmas.Grind.{common_steps}
use Rattle.word.specs.Codes.{kind_values, values_in, values_of, place_of, code_of}
use Rattle.word.proofs.codes.code_of.Goals as goal

pub returns-in_default : goal.returns-in_default
unfolding kind_values values_in values_of place_of code_of
returns-in_default c = grind (arith, common_steps)
