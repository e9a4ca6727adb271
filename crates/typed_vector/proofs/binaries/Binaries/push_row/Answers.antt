use Rattle.std.proofs.Common.{rules, ◌∷◌, ◌++◌, [], ap, ◌∙◌}
use Rattle.typed_vector.specs.Cells.{cell}
use Rattle.typed_vector.proofs.BinaryLaws.{binaries_pushed}
use Rattle.typed_vector.proofs.binaries.Binaries.push_row.Goals as goal

pub invariant_of-self-2 : goal.invariant_of-self-2
invariant_of-self-2 c =
    let old = c.self.inside in
    (binaries_pushed old.values.items c.extend_from_slice.new.self.items old.value_offsets.items
    c.push_reserved-2.new.self.items old.is_set.items c.push_reserved.new.self.items old.rest
    c.push.new.self c.args.bytes.now c.args.is_set c.args.rest.now c.len-value_end.result
    c.self.invariant c.requires (search rules) (search rules) (search rules) (search rules)
    (search rules)).0

pub returns-clause-pushed : goal.returns-clause-pushed
returns-clause-pushed c =
    let old = c.self.inside in
    (binaries_pushed old.values.items c.extend_from_slice.new.self.items old.value_offsets.items
    c.push_reserved-2.new.self.items old.is_set.items c.push_reserved.new.self.items old.rest
    c.push.new.self c.args.bytes.now c.args.is_set c.args.rest.now c.len-value_end.result
    c.self.invariant c.requires (search rules) (search rules) (search rules) (search rules)
    (search rules)).1
    ∙ ap (λ front. front ++ cell c.args.bytes.now c.args.is_set c.args.rest.now ∷ []) c.self.view_is
