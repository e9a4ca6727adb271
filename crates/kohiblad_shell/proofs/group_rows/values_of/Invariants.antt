-- The members so far, and those of the paths that are left.
use Rattle.std.proofs.Common.{◌≡◌, length}
use Rattle.jsonb.specs.Document.{document_tree}
use Rattle.jsonb_value.specs.Tree.{no_pairs}
use Rattle.jsonb_value.specs.Value.{pairs_view}
use Rattle.kohiblad_shell.specs.GroupRows.{value_members}
use Rattle.kohiblad_shell.specs.Templates.{members_after}
use Rattle.kohiblad_shell.proofs.group_rows.values_of.Given as goal

abbrev pub invariant-loop-left : goal.invariant-loop-left
invariant-loop-left l =
    members_after no_pairs (value_members l.paths (document_tree l.document))
    ≡ members_after (pairs_view l.members.entries)
    (value_members l.left (document_tree l.document))

abbrev pub decreases-loop-left : goal.decreases-loop-left
decreases-loop-left l = length l.left
