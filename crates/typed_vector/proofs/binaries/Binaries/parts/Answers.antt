use Rattle.typed_vector.specs.Cells.{rows}
use Rattle.typed_vector.proofs.CellLaws.{length-rests}
use Rattle.typed_vector.proofs.binaries.Binaries.parts.Goals as goal

pub returns-clause-cells : goal.returns-clause-cells
returns-clause-cells c =
    let s = c.self.inside in
    let long = length-rests (rows s.values.items s.value_offsets.items) s.is_set.items s.rest
    c.args.self.now c.self.invariant.alike c.self.view_is in
    rw (
      c.as_slice.ensures.value,
      c.as_slice-2.ensures.value,
      c.as_slice-3.ensures.value,
      ← long,
      c.parts.ensures.rows,
    ) c.self.view_is

pub returns-clause-alike : goal.returns-clause-alike
returns-clause-alike c =
    let s = c.self.inside in
    let long = length-rests (rows s.values.items s.value_offsets.items) s.is_set.items s.rest
    c.args.self.now c.self.invariant.alike c.self.view_is in
    rw (
      c.as_slice.ensures.value,
      c.as_slice-2.ensures.value,
      c.as_slice-3.ensures.value,
      ← long,
      c.parts.ensures.rows,
    ) c.self.invariant

pub returns-clause-rest : goal.returns-clause-rest
returns-clause-rest c =
    let s = c.self.inside in
    let long = length-rests (rows s.values.items s.value_offsets.items) s.is_set.items s.rest
    c.args.self.now c.self.invariant.alike c.self.view_is in
    rw (← long) c.parts.ensures.stored
