use Rattle.std.proofs.Common.{◌≡◌, ℕ, List, length, Bor}
use Rattle.std.specs.Prelude.{◌&&◌, not}
use Rattle.jsonb.specs.EntryTrees.{rest_pairs}
use Rattle.jsonb.specs.Node.{object_of, value_of_key}
use Rattle.jsonb_functions.specs.Contains.{is_there}
use Rattle.jsonb_functions.specs.KeyTests.{has_name}
use Rattle.jsonb_functions.proofs.key_tests.remove_names.Given as goal

abbrev pub invariant-loop-key : goal.invariant-loop-key
invariant-loop-key l = (name : Bor (List ℕ))
    → (has_name l.missing name
    && not (is_there (value_of_key name.now (object_of (rest_pairs l.members)))))
    ≡ (has_name l.fn.missing name
    && not (is_there (value_of_key name.now (object_of (rest_pairs l.fn.members)))))

abbrev pub decreases-loop-key : goal.decreases-loop-key
decreases-loop-key l = length (rest_pairs l.members)
