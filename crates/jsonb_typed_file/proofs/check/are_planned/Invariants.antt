-- All columns are planned if those that are left are.
use Rattle.std.proofs.Common.{map, length}
use Rattle.jsonb_typed_file.specs.Views.{buffers_view}
use Rattle.jsonb_typed_file.specs.Written.{ArePlanned}
use Rattle.jsonb_typed_file.proofs.check.are_planned.Given as goal

abbrev pub invariant-loop-left : goal.invariant-loop-left
invariant-loop-left l = ArePlanned (map buffers_view l.left) l.wanted
    → ArePlanned (map buffers_view l.columns) l.plans

abbrev pub decreases-loop-left : goal.decreases-loop-left
decreases-loop-left l = length l.left
