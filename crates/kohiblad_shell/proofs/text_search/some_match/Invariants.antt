-- In the values before, the pattern is not found.
use Rattle.std.proofs.Common.{◌≡◌, length, map}
use Rattle.std.specs.List.{list_any}
use Rattle.jsonb.specs.Node.{node_tree}
use Rattle.jsonb_pattern.specs.Views.{written_of}
use Rattle.kohiblad_shell.specs.Searches.{is_match}
use Rattle.kohiblad_shell.proofs.text_search.some_match.Given as goal

abbrev pub invariant-loop-left : goal.invariant-loop-left
invariant-loop-left l =
    list_any (λ t. is_match (written_of l.pattern) t) (map node_tree l.values)
    ≡ list_any (λ t. is_match (written_of l.pattern) t) (map node_tree l.left)

abbrev pub decreases-loop-left : goal.decreases-loop-left
decreases-loop-left l = length l.left
