-- `lines::form::word_for` meets its contract: the word is by the code, or that of the row that gives the kind.
use Prim.Native.Nat.{ℕ}
use mathlib.Core.Path.{◌≡◌, ◌∙◌}
use mathlib.Core.Bool.{true, false}
use Rattle.word.specs.Spelling.{first_of}
use Rattle.rows.specs.Packed.{coded, word_of_kind}
use Rattle.lines.specs.Formed.{word_for}
use Rattle.lines.proofs.form.word_for.Goals as goal

by_code : (k c : ℕ) → coded k ≡ true → first_of k c ≡ word_for k c
unfolding word_for
by_code k c e = rw e

by_kind : (k c : ℕ) → coded k ≡ false → word_of_kind k ≡ word_for k c
unfolding word_for
by_kind k c e = rw e

pub returns-then-kind : goal.returns-then-kind
unfolding coded
returns-then-kind c =
    c.first_word.ensures ∙ by_code _ _ c.if-kind.true

pub returns : goal.returns
unfolding coded
returns c =
    c.word_of.ensures c.if-kind.false ∙ by_kind _ _ c.if-kind.false
