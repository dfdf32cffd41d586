-- A QUERY is 12 bytes: an owner, then where a name starts in a lent block of names, and how many bytes it has. An answer is 4 bytes.
use Rattle.std.specs.Prelude.{ℕ, List}
use Rattle.little.specs.Little.{little}
use Rattle.rowfile.specs.Rows as rows
use Rattle.record.specs.Bytes.{field}
use Rattle.lookup.specs.Name.{part}
use Rattle.index.specs.declared.Query.{Query}

abbrev pub query : ℕ → ℕ → ℕ → Query
query owner start len = record { owner = owner; start = start; len = len }

-- the query whose 12 bytes these are
unfoldable pub decoded : List ℕ → Query
decoded bytes = query (field 0 4 bytes) (field 4 4 bytes) (field 8 4 bytes)

-- how many queries there are
abbrev pub count : List ℕ → ℕ
count queries = rows.count 12 queries

-- the queries, in their order
abbrev pub held : List ℕ → List Query
held queries = rows.held 12 decoded queries

-- the query at a position
abbrev pub query_in : List ℕ → ℕ → Query
query_in queries position = decoded (rows.row_at 12 queries position)

-- the name that is asked for; a span that reaches outside the block is the empty name
abbrev pub name_in : List ℕ → Query → List ℕ
name_in names q = part names q.start q.len

-- how many answers there is room for
abbrev pub room : List ℕ → ℕ
room answers = rows.count 4 answers

-- the bytes of answers, one after the other
abbrev pub encoded_all : List ℕ → List ℕ
encoded_all answers = rows.joined (little 4) answers
