-- A part is as low as those before it let it be.
use Rattle.std.proofs.Common.{◌≡◌, ◌+◌, ◌*◌, length}
use Rattle.std.specs.Prelude.{IsTrue, nat_le}
use Rattle.std.specs.List.{list_all}
use Rattle.jsonb_path.specs.Height.{steps_height, subscripts_height}
use Rattle.jsonb_path.specs.PathParts.{is_accessor, is_subscript}
use Rattle.jsonb_path.specs.PathTree.{accessors_of, nodes_of, subscripts_of}
use Rattle.jsonb_path.proofs.height.+height.Given as goal

abbrev pub decreases-low_at : goal.decreases-low_at
decreases-low_at l = 8 * length l.parts.now

abbrev pub decreases-low_source : goal.decreases-low_source
decreases-low_source l = 8 * length l.parts.now + 1

abbrev pub decreases-low_subscript : goal.decreases-low_subscript
decreases-low_subscript l = 8 * length l.parts.now + 1

abbrev pub decreases-low_select : goal.decreases-low_select
decreases-low_select l = 8 * length l.parts.now + 2

abbrev pub decreases-low_access : goal.decreases-low_access
decreases-low_access l = 8 * length l.parts.now + 3

abbrev pub decreases-low_along : goal.decreases-low_along
decreases-low_along l = 8 * length l.parts.now + 4

abbrev pub decreases-low_test : goal.decreases-low_test
decreases-low_test l = 8 * length l.parts.now + 2

abbrev pub decreases-low_in : goal.decreases-low_in
decreases-low_in l = 8 * length l.parts.now + 5

-- All are low if those that are left are.
abbrev pub invariant-low_along-loop-left : goal.invariant-low_along-loop-left
invariant-low_along-loop-left l =
    let nodes = nodes_of l.fn.parts in record {
      all : IsTrue (list_all (is_accessor l.fn.parts) l.left);
      low : nat_le (steps_height (accessors_of nodes l.fn.accessors)) l.fn.levels
          ≡ nat_le (steps_height (accessors_of nodes l.left)) l.fn.levels;
    }

abbrev pub decreases-low_along-loop-left : goal.decreases-low_along-loop-left
decreases-low_along-loop-left l = length l.left

abbrev pub invariant-low_select-loop-left : goal.invariant-low_select-loop-left
invariant-low_select-loop-left l =
    let nodes = nodes_of l.fn.parts in record {
      all : IsTrue (list_all (is_subscript l.fn.parts) l.left);
      low : nat_le (subscripts_height (subscripts_of nodes l.fn.subscripts)) l.fn.levels
          ≡ nat_le (subscripts_height (subscripts_of nodes l.left)) l.fn.levels;
    }

abbrev pub decreases-low_select-loop-left : goal.decreases-low_select-loop-left
decreases-low_select-loop-left l = length l.left
