-- The members so far, and those of the sums that are left.
use Rattle.std.proofs.Common.{◌≡◌, length}
use Rattle.jsonb_value.specs.Value.{pairs_view}
use Rattle.kohiblad_shell.specs.GroupRows.{total_members}
use Rattle.kohiblad_shell.specs.Templates.{members_after}
use Rattle.kohiblad_shell.proofs.group_rows.with_totals.Given as goal

abbrev pub invariant-loop-left : goal.invariant-loop-left
invariant-loop-left l =
    members_after (pairs_view l.fn.values.entries) (total_members l.aggregates l.totals)
    ≡ members_after (pairs_view l.members.entries) (total_members l.left l.totals_left)

abbrev pub decreases-loop-left : goal.decreases-loop-left
decreases-loop-left l = length l.left
