use Rattle.std.proofs.Common.{◌≡◌, length}
use Rattle.std.specs.List.{list_any}
use Rattle.jsonb.specs.EntryTrees.{rest_pairs}
use Rattle.jsonb.specs.Node.{object_of, value_of_key}
use Rattle.jsonb_functions.specs.Contains.{is_there}
use Rattle.jsonb_functions.proofs.key_tests.has_named_member.Given as goal

abbrev pub invariant-loop-key : goal.invariant-loop-key
invariant-loop-key l =
    list_any (λ name. is_there (value_of_key name.now (object_of (rest_pairs l.fn.members))))
    l.fn.names
    ≡ list_any (λ name. is_there (value_of_key name.now (object_of (rest_pairs l.members))))
    l.fn.names

abbrev pub decreases-loop-key : goal.decreases-loop-key
decreases-loop-key l = length (rest_pairs l.members)
