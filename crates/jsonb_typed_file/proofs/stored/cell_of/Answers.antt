use Rattle.std.proofs.Common.{rules, ◌≡◌, Some, option_map, ap, subst, ◌∙◌}
use Rattle.jsonb.specs.Document.{document_tree}
use Rattle.jsonb.specs.Node.{node_tree, value_of_key}
use Rattle.jsonb_typed_file.specs.ValueViews.{stored_view}
use Rattle.jsonb_typed_file.specs.Written.{IsCell}
use Rattle.jsonb_typed_file.proofs.stored.cell_of.Goals as goal

pub returns-in-Some : goal.returns-in-Some
returns-in-Some c =
    let found : Some (node_tree c.in-Some.member)
    ≡ value_of_key c.args.name.now (document_tree c.args.row) = search rules in
    subst (λ o. IsCell c.args.column_type o (option_map stored_view c.value_in.result))
    (ap Some c.opened.ensures.tree ∙ found) c.value_in.ensures
