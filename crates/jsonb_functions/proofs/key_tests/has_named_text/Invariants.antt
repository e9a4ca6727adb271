use Rattle.std.proofs.Common.{◌≡◌, length}
use Rattle.std.specs.List.{list_any}
use Rattle.jsonb_value.specs.Tree.{text}
use Rattle.jsonb_value.specs.Value.{trees_of}
use Rattle.jsonb.specs.EntryTrees.{rest_trees}
use Rattle.jsonb_functions.specs.Contains.{contained, some_tree}
use Rattle.jsonb_functions.proofs.key_tests.has_named_text.Given as goal

abbrev pub invariant-loop-item : goal.invariant-loop-item
invariant-loop-item l =
    list_any (λ name. some_tree (λ t. contained (text name.now) t)
    (trees_of (rest_trees l.fn.items))) l.fn.names
    ≡ list_any (λ name. some_tree (λ t. contained (text name.now) t)
    (trees_of (rest_trees l.items))) l.fn.names

abbrev pub decreases-loop-item : goal.decreases-loop-item
decreases-loop-item l = length (rest_trees l.items)
