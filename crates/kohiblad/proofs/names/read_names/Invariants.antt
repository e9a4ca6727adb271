-- The names that were read come before those of the items that are left.
use Rattle.std.proofs.Common.{◌≡◌, length}
use Rattle.jsonb_value.specs.Value.{trees_of}
use Rattle.jsonb.specs.Document.{document_tree}
use Rattle.jsonb.specs.EntryTrees.{rest_trees}
use Rattle.kohiblad.specs.Names.{all_names, names_in}
use Rattle.kohiblad.proofs.NameLaws.{names_then, texts}
use Rattle.kohiblad.proofs.names.read_names.Given as goal

abbrev pub invariant-loop-item : goal.invariant-loop-item
invariant-loop-item l =
    names_in (document_tree l.fn.document)
    ≡ names_then (texts l.names.items) (all_names (trees_of (rest_trees l.items)))

abbrev pub decreases-loop-item : goal.decreases-loop-item
decreases-loop-item l = length (rest_trees l.items)
