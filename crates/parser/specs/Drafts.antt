-- Inner machinery, which nobody has to believe: what the code's sketch of a record stands for.
-- The image `as_drafted` forgets of an answer only what a name's length says beyond the text's end. `shown` keeps of a draft what a record file
-- and a block's name have of it, which is all that a step makes of it.
use Rattle.std.specs.Prelude.{ℕ, ◌+◌, ◌%◌, cond, List, eqb, Result, Ok, Err}
use Rattle.refusal.specs.declared.Refusal.{Refusal}
use Rattle.record.specs.declared.Record.{Record}
use Rattle.grammar.specs.Tokens.{Answer, ok, refused}
use Rattle.lexer.specs.declared.Token.{Token}
use Rattle.grammar.specs.Engine.{Maybe, none, some, Name, Draft}
use Rattle.grammar.specs.Turns.{label_of}
use Rattle.grammar.specs.Reading.{Mark, filed}
use Rattle.parser.specs.declared.draft.Sketch.{Sketch}
use Rattle.parser.specs.Code.{ahead_of, refuse}
use Rattle.parser.specs.Kept.{name_in}

-- a draft with another name
abbrev pub renamed : Maybe (Name ℕ) → Draft ℕ → Draft ℕ
renamed n d =
    record {
      rec = record { kind = d.rec.kind; code = d.rec.code; at = d.rec.at; owner = d.rec.owner; name = n; x = d.rec.x; y = d.rec.y };
      first = d.first;
    }

-- the draft that a sketch is, with the kind, place and owner of the draft b. A name that is not read is the empty one at 0. Of
-- the code and of the first word the low byte counts.
abbrev pub draft_of : List ℕ → Draft ℕ → Sketch → Draft ℕ
draft_of s b d =
    record {
      rec =
          record {
            kind = b.rec.kind;
            code = d.code % 256;
            at = b.rec.at;
            owner = b.rec.owner;
            name = some (record { bytes = name_in s d.name d.len; at = d.name; skip = 0 });
            x = d.x;
            y = d.y;
          };
      first = d.first % 256;
    }

-- nothing but its kind, its place and its owner
abbrev pub emptied : Draft ℕ → Draft ℕ
emptied b =
    record { rec = record { kind = b.rec.kind; code = 0; at = b.rec.at; owner = b.rec.owner; name = none; x = 0; y = 0 }; first = 0 }

-- what an item answers: the sketch, and the token then held
abbrev pub Drafted : Type 0
Drafted = Result (Sketch × Token) Refusal

abbrev pub as_drafted : List ℕ → Draft ℕ → Drafted → Answer ℕ Mark (Draft ℕ)
as_drafted s b (Ok (d, t)) = ok (draft_of s b d) (ahead_of s t)
as_drafted s b (Err r) = refuse r

-- a name by the place of its first byte
abbrev pub flat : Maybe (Name ℕ) → Maybe (Name ℕ)
flat none = none
flat (some n) = some (cond (eqb n.skip 0) n (record { bytes = n.bytes; at = n.at + n.skip; skip = 0 }))

abbrev pub flatly : Answer ℕ Mark (Draft ℕ) → Answer ℕ Mark (Draft ℕ)
flatly (ok d a) = ok (renamed (flat d.rec.name) d) a
flatly (refused n m) = refused n m

-- a record as the file has it, and its name
pub record Entry : Type 0 where
  pub rec : Record
  pub label : List ℕ

abbrev pub entry : Record → List ℕ → Entry
entry r l = record { rec = r; label = l }

abbrev pub shown : Answer ℕ Mark (Draft ℕ) → Answer ℕ Mark Entry
shown (ok d a) = ok (entry (filed d.rec) (label_of d.rec.name)) a
shown (refused n m) = refused n m
