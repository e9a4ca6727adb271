use Rattle.std.proofs.Common.{rules, ◌∷◌, ◌++◌, [], ap, ◌∙◌}
use Rattle.typed_vector.specs.Cells.{cell}
use Rattle.typed_vector.proofs.CellLaws.{pushed_to}
use Rattle.typed_vector.proofs.vector.Typed.push_row.Goals as goal

pub invariant_of-self-2 : goal.invariant_of-self-2
invariant_of-self-2 g c =
    let old = c.self.inside in
    (pushed_to old.values.items _ old.is_set.items _ old.rest _ c.args.item c.args.is_set
    c.args.rest.now c.self.invariant (search rules) (search rules) (search rules)).0

pub returns-clause-pushed : goal.returns-clause-pushed
returns-clause-pushed g c =
    let old = c.self.inside in
    (pushed_to old.values.items c.push_reserved.new.self.items old.is_set.items
    c.push_reserved-2.new.self.items old.rest c.push.new.self c.args.item c.args.is_set
    c.args.rest.now c.self.invariant (search rules) (search rules) (search rules)).1
    ∙ ap (λ front. front ++ cell c.args.item c.args.is_set c.args.rest.now ∷ []) c.self.view_is
