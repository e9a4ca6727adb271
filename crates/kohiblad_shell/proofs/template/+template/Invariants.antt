use Rattle.std.proofs.Common.{◌≡◌, [], drop, map}
use Rattle.jsonb.specs.Document.{document_tree}
use Rattle.jsonb_value.specs.Tree.{no_pairs}
use Rattle.jsonb_value.specs.Value.{pairs_view, tree_of}
use Rattle.kohiblad_shell.specs.Templates.{all_after, member_views, members_after}
use Rattle.kohiblad_shell.specs.Templates.{template_values}
use Rattle.kohiblad_shell.proofs.template.+template.Given as goal

-- The values so far, and after them those of the templates that are left, are all values.
abbrev pub invariant-items_of-loop-item : goal.invariant-items_of-loop-item
invariant-items_of-loop-item l =
    let given = template_values (document_tree l.document) in
    all_after [] (map given l.items.items)
    ≡ all_after (map tree_of l.values.items) (map given (drop l.item-index l.items.items))

-- The members so far, and among them those of the templates that are left, are all members.
abbrev pub invariant-members_of-loop-name : goal.invariant-members_of-loop-name
invariant-members_of-loop-name l =
    let given = template_values (document_tree l.document) in
    members_after no_pairs (member_views given l.members.items)
    ≡ members_after (pairs_view l.made.entries)
    (member_views given (drop l.name-index l.members.items))
