-- `reader::open::opened` meets its contract, by the number that says what is opened.
use Prim.Native.Nat.{ℕ, ◌/◌, ◌%◌}
use mathlib.Core.Path.{refl}
use Rattle.parser.specs.declared.open.Frame.{Frame}
use Rattle.reader.proofs.Moving.{opens_named, opens_other}
use Rattle.reader.proofs.open.opened.Goals as goal

abbrev made : ℕ → ℕ → ℕ → ℕ → Frame
made m p title len = record { block = m / 8 % 32; at = p; title = title; len = len; lacks = m / 256 }

pub returns-then-how-eq-NAMED : goal.returns-then-how-eq-NAMED
returns-then-how-eq-NAMED c s =
    let a = c.args in rw (c.nowhere.ensures, c.len.ensures, c.name.ensures, c.at.ensures)
    (opens_named s a.opens (made a.opens a.r.at a.r.name a.r.len) refl refl c.if-how-eq-NAMED.true)

pub returns : goal.returns
returns c s =
    let a = c.args in rw (c.nowhere.ensures, c.at.ensures)
    (opens_other s a.opens (made a.opens a.r.at 0 0) refl refl c.if-how-eq-NAMED.false refl _)
