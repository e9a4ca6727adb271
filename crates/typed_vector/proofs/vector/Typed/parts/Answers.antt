use Rattle.typed_vector.proofs.CellLaws.{length-rests}
use Rattle.typed_vector.proofs.vector.Typed.parts.Goals as goal

pub returns-clause-cells : goal.returns-clause-cells
returns-clause-cells g c =
    let s = c.self.inside in
    let long = length-rests s.values.items s.is_set.items s.rest c.args.self.now c.self.invariant
    c.self.view_is in
    rw (c.as_slice.ensures.value, c.as_slice-2.ensures.value, ← long, c.parts.ensures.rows)
    c.self.view_is

pub returns-clause-alike : goal.returns-clause-alike
returns-clause-alike g c =
    let s = c.self.inside in
    let long = length-rests s.values.items s.is_set.items s.rest c.args.self.now c.self.invariant
    c.self.view_is in
    rw (c.as_slice.ensures.value, c.as_slice-2.ensures.value, ← long, c.parts.ensures.rows)
    c.self.invariant

pub returns-clause-rest : goal.returns-clause-rest
returns-clause-rest g c =
    let s = c.self.inside in
    let long = length-rests s.values.items s.is_set.items s.rest c.args.self.now c.self.invariant
    c.self.view_is in
    rw (← long) c.parts.ensures.stored
