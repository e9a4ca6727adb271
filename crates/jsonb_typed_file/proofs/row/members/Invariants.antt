-- The members so far are those of the columns that are done, which are the last ones.
use Rattle.std.proofs.Common.{◌≡◌, ◌≤◌, drop, length, map}
use Rattle.jsonb_typed_file.specs.Rows.{column_members}
use Rattle.jsonb_typed_file.specs.ValueViews.{members_view}
use Rattle.jsonb_typed_file.specs.Views.{buffers_view}
use Rattle.jsonb_typed_file.proofs.row.members.Given as goal

abbrev pub invariant-loop-left : goal.invariant-loop-left
invariant-loop-left l = record {
  all : members_view l.members.entries
      ≡ column_members (map buffers_view (drop l.left l.columns)) l.index;
  few : l.left ≤ length l.columns;
}

abbrev pub decreases-loop-left : goal.decreases-loop-left
decreases-loop-left l = l.left
