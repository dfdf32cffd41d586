-- `lef_in_force` meets its contract: what is asked for by bytes is what is asked for, and each arm leaves the numbers of its answer.
use Prim.Native.Nat.{ℕ}
use mathlib.Core.Path.{◌≡◌, refl, ◌∙◌}
use Rattle.std.specs.Prelude.{Option, Some, None, Ok, unwrap_or}
use Rattle.lookup.specs.Force.{no_index, numbers, in_force}
use Rattle.lef.proofs.Wide.{as_bytes}
use Rattle.lef.proofs.lef_in_force.Goals as goal

-- the numbers of an answer that is no refusal
found : (f : Option ℕ) → numbers (Ok f) ≡ record { refusal = 0; place = 0; line = 0; index = unwrap_or f no_index }
found (Some i) = refl
found None = refl

-- the answer is the one for the numbers given
asked : (c : goal.After-tell) → let a = c.args in c.in_force.result ≡ in_force a.records.now a.owner a.kind a.code
asked c =
    let a = c.args in
    rw (c.byte_or.ensures, c.byte_or-2.ensures) at c.in_force.ensures ∙ as_bytes a.records.now a.owner a.kind a.code (λ i. (c.shared_slice_known-1.given i).fits)

refused : (c : goal.After-tell-in-Err) → let a = c.args in c.in_force.result ≡ in_force a.records.now a.owner a.kind a.code
refused c =
    let a = c.args in
    rw (c.byte_or.ensures, c.byte_or-2.ensures) at c.in_force.ensures ∙ as_bytes a.records.now a.owner a.kind a.code (λ i. (c.shared_slice_known-1.given i).fits)

pub returns-in-Ok : goal.returns-in-Ok
returns-in-Ok c =
    let told = c.tell.ensures in
    record {
      value = rw (← asked c, c.in-Ok.is, found c.in-Ok.found) told.value;
      index_after = rw (← asked c, c.in-Ok.is, found c.in-Ok.found) c.unwrap_or.ensures;
      place_after = rw (← asked c, c.in-Ok.is, found c.in-Ok.found) told.place_after;
      line_after = rw (← asked c, c.in-Ok.is, found c.in-Ok.found) told.line_after;
    }

pub returns-in-Err : goal.returns-in-Err
returns-in-Err c =
    let told = c.tell-in-Err.ensures in
    record {
      value = rw (← refused c, c.in-Err.is) told.value;
      index_after = rw (← refused c, c.in-Err.is) refl;
      place_after = rw (← refused c, c.in-Err.is) told.place_after;
      line_after = rw (← refused c, c.in-Err.is) told.line_after;
    }
