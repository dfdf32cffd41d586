-- Inner machinery, which nobody has to believe: a token that is read, as it was written, without where it stands.
use Rattle.std.specs.Prelude.{[]}
use Rattle.grammar.specs.Tokens.{Tok, end}
use Rattle.render.specs.Pieces.{Said, said}

abbrev pub stripped : {A M : Type 0} → Tok A M → Said
stripped t = said t.kind t.bytes

-- the end of a text, which is read after its last token
abbrev pub finish : Said
finish = said end []
