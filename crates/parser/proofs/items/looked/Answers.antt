-- `parser::items::looked` meets its contract: the items by the ranges of their bytes.
use Prim.Native.Nat.{◌-◌, ◌%◌}
use mathlib.Core.Path.{◌≡◌}
use native.Mathlib.Omega.{arith}
use Rattle.grammar.specs.Engine.{item}
use Rattle.rows.proofs.Unpack.{no_kinds}
use Rattle.rows.proofs.Ranges.{at_no_name, at_second, at_code, at_more, at_whole}
use Rattle.parser.proofs.items.looked.Goals as goal

pub returns-then-it-eq-NO_NAME : goal.returns-then-it-eq-NO_NAME
returns-then-it-eq-NO_NAME c b k h l =
    rw (at_no_name _ c.if-it-eq-NO_NAME.true) (c.no_name.ensures _ _ b)

pub returns-then-it-lt-CODE : goal.returns-then-it-lt-CODE
returns-then-it-lt-CODE c b k h l =
    rw (at_second _ h c.if-it-lt-CODE.true c.if-it-eq-NO_NAME.false) (c.to_second.ensures _ b k)

-- a code, and nothing
pub returns-then-it-lt-IF_MORE : goal.returns-then-it-lt-IF_MORE
unfolding item
returns-then-it-lt-IF_MORE c b k h l =
    let n = c.args.it in
    let e : (n - 32) % 256 ≡ n - 32 = omega arith in
    rw (at_code n c.if-it-lt-CODE.false c.if-it-lt-IF_MORE.true, e)

pub returns-then-it-lt-WHOLE : goal.returns-then-it-lt-WHOLE
unfolding item
returns-then-it-lt-WHOLE c b k h l =
    rw (at_more _ c.if-it-lt-IF_MORE.false c.if-it-lt-WHOLE.true)

pub returns-then-it-lt-VERSIONS : goal.returns-then-it-lt-VERSIONS
returns-then-it-lt-VERSIONS c b k h l =
    rw (at_whole _ c.if-it-lt-WHOLE.false c.if-it-lt-VERSIONS.true) (c.to_whole.ensures _ _ b (no_kinds _))

pub returns : goal.returns
returns c b k h l =
    c.among.ensures _ _ b c.if-it-lt-VERSIONS.false l
