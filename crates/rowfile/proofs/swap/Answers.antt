-- `rowfile::swap` meets its contract: the bytes exchanged so far, and the rest of both rows laid on from there, come to the rows exchanged.
use Prim.Native.Nat.{◌*◌, ◌≤◌}
use mathlib.Core.Path.{refl, sym, ◌∙◌}
use native.Mathlib.Nat.{add-zero}
use native.Mathlib.Omega.{arith}
use lib.ListN.{length, length-set, drop_of_length-le}
use Rattle.rowfile.specs.Rows.{row_at}
use Rattle.rowfile.proofs.Swapped.{ends, further_kept, further_rest, first_size, second_size, swapped_sets}
use Rattle.rowfile.proofs.swap.Goals as goal

pub overflow_mul-a : goal.overflow_mul-a
overflow_mul-a c =
    let a = c.args in
    omega (arith, ends a.width a.i a.j a.file.now c.requires.0 c.requires.1)

pub overflow_mul-b : goal.overflow_mul-b
overflow_mul-b c =
    let a = c.args in
    omega (arith, ends a.width a.i a.j a.file.now c.requires.0 c.requires.1)

pub loop-k-init : goal.loop-k-init
loop-k-init c =
    let a = c.args in
    let e = ends a.width a.i a.j a.file.now c.requires.0 c.requires.1 in
    (omega arith, refl, e.0, e.1, λ m p q. (refl, refl), rw (add-zero (a.width * a.i), add-zero (a.width * a.j)))

pub loop-k-preserved : goal.loop-k-preserved
loop-k-preserved c =
    let s = c in
    let a = s.args in
    let l = c.loop-k in (
      omega arith,
      simp length-set l.invariant.1,
      l.invariant.2,
      l.invariant.3,
      further_kept a.width a.i a.j a.file.now s.requires.0 s.requires.1 l.file l.k l.invariant.1 (omega arith) l.invariant.4,
      further_rest a.width a.i a.j a.file.now s.requires.0 s.requires.1 l.file l.k l.invariant.1 (omega arith) l.invariant.4 ∙ l.invariant.5,
    )

pub returns : goal.returns
returns c =
    let s = c in
    let a = s.args in
    let l = c.loop-k in
    let one : length (row_at a.width a.file.now a.i) ≤ l.k = rw (first_size a.width a.i a.j a.file.now s.requires.0 s.requires.1) (omega arith) in
    let other : length (row_at a.width a.file.now a.j) ≤ l.k = rw (second_size a.width a.i a.j a.file.now s.requires.0 s.requires.1) (omega arith) in
    rw (drop_of_length-le (row_at a.width a.file.now a.i) one, drop_of_length-le (row_at a.width a.file.now a.j) other) at l.invariant.5
    ∙ sym (swapped_sets a.width a.i a.j a.file.now s.requires.0 s.requires.1)
