-- `lines::say::after` meets its contract: only an optional part of which the record shows nothing is left out.
use mathlib.Core.Path.{sym, ap, ◌∙◌}
use mathlib.Core.Bool.{true, false}
use native.Mathlib.Omega.{arith}
use lib.ListN.{drop}
use Rattle.rows.specs.Packed.{items_of}
use Rattle.render.specs.Plain.{bare}
use Rattle.lines.proofs.Items.{nothing_left, part_left, outside, inside}
use Rattle.lines.proofs.say.after.Goals as goal

pub returns-then-it : goal.returns-then-it
returns-then-it c =
    let a = c.args in
    record { of = ap (λ n. drop n (items_of a.rest)) (sym (nothing_left (bare a.text.now a.r) (items_of a.rest) a.it (outside a.it c.if-it.true))); less = omega arith }

pub overflow_sub-n : goal.overflow_sub-n
overflow_sub-n c =
    omega (arith, (inside c.args.it c.if-it.false).0)

pub returns-then-shown : goal.returns-then-shown
returns-then-shown c =
    let a = c.args in
    let i = inside a.it c.if-it.false in
    record { of = ap (λ n. drop n (items_of a.rest)) (sym (part_left (bare a.text.now a.r) (items_of a.rest) a.it true i.0 i.1 (sym c.if-shown.true ∙ c.shown.ensures))); less = omega arith }

pub returns : goal.returns
returns c =
    let a = c.args in
    let i = inside a.it c.if-it.false in
    record { of = c.skip.ensures.of ∙ ap (λ n. drop n (items_of a.rest)) (sym (part_left (bare a.text.now a.r) (items_of a.rest) a.it false i.0 i.1 (sym c.if-shown.false ∙ c.shown.ensures))); less = c.skip.ensures.less }
