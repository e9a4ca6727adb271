-- The members that were read come before those that are left.
use Rattle.std.proofs.Common.{◌≡◌, ◌++◌, length, map}
use Rattle.jsonb.specs.EntryTrees.{rest_pairs}
use Rattle.jsonb.specs.Node.{member_tree}
use Rattle.kohiblad.proofs.path_queries.all_members.Given as goal

abbrev pub invariant-loop-member : goal.invariant-loop-member
invariant-loop-member l =
    map member_tree l.list.items ++ rest_pairs l.left ≡ rest_pairs l.fn.members

abbrev pub decreases-loop-member : goal.decreases-loop-member
decreases-loop-member l = length (rest_pairs l.left)
