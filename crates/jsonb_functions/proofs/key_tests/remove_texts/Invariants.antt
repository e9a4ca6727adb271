use Rattle.std.proofs.Common.{◌≡◌, ℕ, List, length, Bor}
use Rattle.std.specs.Prelude.{◌&&◌, not}
use Rattle.jsonb_value.specs.Tree.{text}
use Rattle.jsonb_value.specs.Value.{trees_of}
use Rattle.jsonb.specs.EntryTrees.{rest_trees}
use Rattle.jsonb_functions.specs.Contains.{contained, some_tree}
use Rattle.jsonb_functions.specs.KeyTests.{has_name}
use Rattle.jsonb_functions.proofs.key_tests.remove_texts.Given as goal

abbrev pub invariant-loop-item : goal.invariant-loop-item
invariant-loop-item l = (name : Bor (List ℕ))
    → (has_name l.missing name
    && not (some_tree (λ t. contained (text name.now) t) (trees_of (rest_trees l.items))))
    ≡ (has_name l.fn.missing name
    && not (some_tree (λ t. contained (text name.now) t) (trees_of (rest_trees l.fn.items))))

abbrev pub decreases-loop-item : goal.decreases-loop-item
decreases-loop-item l = length (rest_trees l.items)
