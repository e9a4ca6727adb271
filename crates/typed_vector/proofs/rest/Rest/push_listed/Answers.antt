use Rattle.std.proofs.Common.{◌∷◌, ◌++◌, [], List, ℕ, ap, arith, length, rules, ◌∙◌}
use Rattle.typed_vector.specs.Cells.{rows}
use Rattle.typed_vector.proofs.RestLaws.{length-spread, listed}
use Rattle.typed_vector.proofs.rest.Rest.push_listed.Goals as goal

pub overflow_add-self : goal.overflow_add-self
overflow_add-self c =
    let s = c.self.inside in
    omega (
      arith,
      c.requires.room,
      ap length c.self.view_is,
      length-spread s.count s.indices.items (rows s.bytes.items s.offsets.items),
    )

pub invariant_of-self-2 : goal.invariant_of-self-2
invariant_of-self-2 c =
    let s = c.self.inside in
    (listed s.count s.indices.items c.push_reserved.new.self.items s.bytes.items
    c.extend_from_slice.new.self.items s.offsets.items c.push_reserved-2.new.self.items
    c.args.bytes.now c.len-end.result c.self.invariant c.requires.some (search rules)
    (search rules) (search rules) (search rules)).0

pub returns-clause-pushed : goal.returns-clause-pushed
returns-clause-pushed c =
    let s = c.self.inside in
    (listed s.count s.indices.items c.push_reserved.new.self.items s.bytes.items
    c.extend_from_slice.new.self.items s.offsets.items c.push_reserved-2.new.self.items
    c.args.bytes.now c.len-end.result c.self.invariant c.requires.some (search rules)
    (search rules) (search rules) (search rules)).1
    ∙ ap (λ (front : List (List ℕ)). front ++ c.args.bytes.now ∷ []) c.self.view_is
