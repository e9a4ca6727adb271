-- A part is followed by those before it.
use Rattle.std.proofs.Common.{◌≡◌, ◌+◌, ◌*◌, length}
use Rattle.std.specs.Prelude.{IsTrue, None, Some, map}
use Rattle.std.specs.List.{list_all}
use Rattle.jsonb.specs.Node.{node_tree}
use Rattle.jsonb_path.specs.Found.{filtered_by, found_then, left_of, outcome_of, place_of}
use Rattle.jsonb_path.specs.Found.{selected_in}
use Rattle.jsonb_path.specs.Meaning.{access, along, each}
use Rattle.jsonb_path.specs.PathParts.{is_accessor, is_subscript}
use Rattle.jsonb_path.specs.PathTree.{accessor_of, accessors_of, nodes_of, subscripts_of, test_at}
use Rattle.jsonb_path.specs.Syntax as syntax
use Rattle.jsonb_path.proofs.follow.+follow.Given as goal

abbrev pub decreases-follow_at : goal.decreases-follow_at
decreases-follow_at l = 16 * length l.parts.now

abbrev pub decreases-judge_at : goal.decreases-judge_at
decreases-judge_at l = 16 * length l.parts.now

abbrev pub decreases-compare_at : goal.decreases-compare_at
decreases-compare_at l = 16 * length l.parts.now + 2

abbrev pub decreases-begin : goal.decreases-begin
decreases-begin l = 16 * length l.parts.now + 2

abbrev pub decreases-append_if : goal.decreases-append_if
decreases-append_if l = 16 * length l.parts.now + 2

abbrev pub decreases-append_chosen : goal.decreases-append_chosen
decreases-append_chosen l = 16 * length l.parts.now + 2

abbrev pub decreases-append_named_in : goal.decreases-append_named_in
decreases-append_named_in l = 16 * length l.parts.now + 2

abbrev pub decreases-append_selected : goal.decreases-append_selected
decreases-append_selected l = 16 * length l.parts.now + 3

abbrev pub decreases-select : goal.decreases-select
decreases-select l = 16 * length l.parts.now + 4

abbrev pub decreases-filter : goal.decreases-filter
decreases-filter l = 16 * length l.parts.now + 3

abbrev pub decreases-access : goal.decreases-access
decreases-access l = 16 * length l.parts.now + 6

abbrev pub decreases-append_each : goal.decreases-append_each
decreases-append_each l = 16 * length l.parts.now + 7

abbrev pub decreases-through : goal.decreases-through
decreases-through l = 16 * length l.parts.now + 8

abbrev pub decreases-along : goal.decreases-along
decreases-along l = 16 * length l.parts.now + 9

abbrev pub decreases-judge : goal.decreases-judge
decreases-judge l = 16 * length l.parts.now + 9

abbrev pub decreases-follow : goal.decreases-follow
decreases-follow l = 16 * length l.parts.now + 11

-- What is given so far, by the accessors that are left.
abbrev pub invariant-along-loop-left : goal.invariant-along-loop-left
invariant-along-loop-left l = record {
  all : IsTrue (list_all (is_accessor l.fn.parts) l.left);
  whole : along (place_of l.place) (accessors_of (nodes_of l.fn.parts) l.left)
      (outcome_of l.outcome)
      ≡ along (place_of l.fn.place) (accessors_of (nodes_of l.fn.parts) l.fn.accessors)
      (outcome_of l.fn.start);
}

abbrev pub decreases-along-loop-left : goal.decreases-along-loop-left
decreases-along-loop-left l = length l.left

-- What was found so far, and after it what is left, is the whole.
abbrev pub invariant-append_each-loop-left : goal.invariant-append_each-loop-left
invariant-append_each-loop-left l =
    let step = access (place_of l.fn.place) (accessor_of (nodes_of l.fn.parts) l.fn.accessor) in
    found_then l.found.items (each step (map node_tree l.left) None)
    ≡ found_then l.fn.found.items (each step (map node_tree l.fn.values) None)

abbrev pub decreases-append_each-loop-left : goal.decreases-append_each-loop-left
decreases-append_each-loop-left l = length l.left

abbrev pub invariant-filter-loop-unit : goal.invariant-filter-loop-unit
invariant-filter-loop-unit l =
    let test = test_at (nodes_of l.fn.parts) l.fn.test in
    found_then l.found.items (each (filtered_by (place_of l.fn.place) test) (left_of l.units) None)
    ≡ found_then l.fn.found.items
    (access (place_of l.fn.place) (syntax.filter test) (node_tree l.fn.node))

abbrev pub decreases-filter-loop-unit : goal.decreases-filter-loop-unit
decreases-filter-loop-unit l = length (left_of l.units)

abbrev pub invariant-append_selected-loop-left : goal.invariant-append_selected-loop-left
invariant-append_selected-loop-left l =
    let items = Some (map node_tree l.fn.items) in record {
      all : IsTrue (list_all (is_subscript l.fn.parts) l.left);
      found : found_then l.found.items
          (selected_in (place_of l.fn.place) (subscripts_of (nodes_of l.fn.parts) l.left) items)
          ≡ found_then l.fn.found.items (selected_in (place_of l.fn.place)
          (subscripts_of (nodes_of l.fn.parts) l.fn.subscripts) items);
    }

abbrev pub decreases-append_selected-loop-left : goal.decreases-append_selected-loop-left
decreases-append_selected-loop-left l = length l.left
