use Rattle.std.proofs.Common.{◌≡◌, ap, length, subst, sym, ◌∙◌, ℕ}
use Rattle.typed_vector.specs.Cells.{rows}
use Rattle.typed_vector.specs.Rest.{IsRest, spread}
use Rattle.typed_vector.proofs.RestLaws.{length-spread}
use Rattle.typed_vector.proofs.rest.Rest.parts.Goals as goal

pub returns-clause-rows : goal.returns-clause-rows
returns-clause-rows c =
    let s = c.self.inside in
    let listed = rows s.bytes.items s.offsets.items in
    let count : s.count ≡ length c.args.self.now =
    sym (length-spread s.count s.indices.items listed) ∙ ap length c.self.view_is in
    rw (c.as_slice.ensures.value, c.as_slice-2.ensures.value, c.as_slice-3.ensures.value)
    (ap (λ (n : ℕ). spread n s.indices.items listed) (sym count) ∙ c.self.view_is)

pub returns-clause-stored : goal.returns-clause-stored
returns-clause-stored c =
    let s = c.self.inside in
    let count : s.count ≡ length c.args.self.now =
    sym (length-spread s.count s.indices.items (rows s.bytes.items s.offsets.items))
    ∙ ap length c.self.view_is in
    rw (c.as_slice.ensures.value, c.as_slice-2.ensures.value, c.as_slice-3.ensures.value)
    (subst (λ (n : ℕ). IsRest n s.indices.items s.bytes.items s.offsets.items) count
    c.self.invariant)
