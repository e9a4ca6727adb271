use Rattle.std.proofs.Common.{sym, ap, ◌∙◌}
use Rattle.jsonb_value.specs.Value.{trees_of}
use Rattle.jsonb.specs.Document.{document_tree}
use Rattle.jsonb.specs.EntryTrees.{rest_trees}
use Rattle.jsonb_comparable.proofs.WalkLaws.{array_items}
use Rattle.kohiblad.specs.Names.{all_names}
use Rattle.kohiblad.proofs.NameLaws.{first_names, names_on, names_then, texts}
use Rattle.kohiblad.proofs.names.read_names.Goals as goal

pub loop-item-init : goal.loop-item-init
loop-item-init c =
    let ts = rest_trees c.in-Some.items in
    first_names (document_tree c.args.document) ts
    (array_items (document_tree c.args.document) ts c.in-Some.ensures)
    ∙ ap (λ x. names_then (texts x) (all_names (trees_of ts))) (sym c.in_ok-names.ensures.items)

pub loop-item-preserved : goal.loop-item-preserved
loop-item-preserved c =
    names_on (rest_trees c.loop-item.items) (rest_trees c.next_item.new.items) _
    c.in-Some-name_of.name c.loop-item.names.items c.push.new.self.items _
    c.in-Some-next_item.ensures.steps c.in-Some-name_of.ensures c.in_ok-push.ensures.items
    c.loop-item.invariant
