-- Inner machinery, which nobody has to believe: what an item says, as the code tells it.
use Rattle.std.specs.Prelude.{ℕ, List, [], ◌∷◌, Option, Some, None}
use Rattle.lexer.specs.Kinds as Kind
use Rattle.parser.specs.Kept.{name_in}
use Rattle.render.specs.Pieces.{Said, said}
use Rattle.render.specs.Says.{word, number, semicolon, quoted}
use Rattle.lines.specs.declared.say.Token.{Token}
use Rattle.lines.specs.declared.say.Token.TheVariants as T

-- bytes of the text as they stand
abbrev pub name_said : List ℕ → Said
name_said s = said Kind.name s

-- of the text s
abbrev pub as_said : List ℕ → Token → Said
as_said s (T.Word k) = word k
as_said s (T.Number v) = number v
as_said s T.Semicolon = semicolon
as_said s (T.Name start n) = name_said (name_in s start n)
as_said s (T.Quoted start n) = quoted (name_in s start n)

abbrev pub all_said : List ℕ → Option Token → List Said
all_said s (Some t) = as_said s t ∷ []
all_said s None = []
