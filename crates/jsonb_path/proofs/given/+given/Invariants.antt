-- A part names what those before it name.
use Rattle.std.proofs.Common.{◌≡◌, ◌+◌, ◌*◌, length, map}
use Rattle.std.specs.Prelude.{IsTrue}
use Rattle.std.specs.List.{list_all}
use Rattle.jsonb.specs.Node.{member_tree}
use Rattle.jsonb_path.specs.Meaning.{all_given, names_along, names_select}
use Rattle.jsonb_path.specs.PathParts.{is_accessor, is_subscript}
use Rattle.jsonb_path.specs.PathTree.{accessors_of, nodes_of, subscripts_of}
use Rattle.jsonb_path.proofs.given.+given.Given as goal

abbrev pub decreases-given_at : goal.decreases-given_at
decreases-given_at l = 8 * length l.parts.now

abbrev pub decreases-given_source : goal.decreases-given_source
decreases-given_source l = 8 * length l.parts.now + 1

abbrev pub decreases-given_subscript : goal.decreases-given_subscript
decreases-given_subscript l = 8 * length l.parts.now + 1

abbrev pub decreases-given_select : goal.decreases-given_select
decreases-given_select l = 8 * length l.parts.now + 2

abbrev pub decreases-given_access : goal.decreases-given_access
decreases-given_access l = 8 * length l.parts.now + 3

abbrev pub decreases-given_along : goal.decreases-given_along
decreases-given_along l = 8 * length l.parts.now + 4

abbrev pub decreases-given_test : goal.decreases-given_test
decreases-given_test l = 8 * length l.parts.now + 2

abbrev pub decreases-given_in : goal.decreases-given_in
decreases-given_in l = 8 * length l.parts.now + 5

-- All are given if those of what is left are.
abbrev pub invariant-given_along-loop-left : goal.invariant-given_along-loop-left
invariant-given_along-loop-left l =
    let vs = map member_tree l.fn.variables in
    let nodes = nodes_of l.fn.parts in record {
      all : IsTrue (list_all (is_accessor l.fn.parts) l.left);
      given : all_given vs (names_along (accessors_of nodes l.fn.accessors))
          ≡ all_given vs (names_along (accessors_of nodes l.left));
    }

abbrev pub decreases-given_along-loop-left : goal.decreases-given_along-loop-left
decreases-given_along-loop-left l = length l.left

abbrev pub invariant-given_select-loop-left : goal.invariant-given_select-loop-left
invariant-given_select-loop-left l =
    let vs = map member_tree l.fn.variables in
    let nodes = nodes_of l.fn.parts in record {
      all : IsTrue (list_all (is_subscript l.fn.parts) l.left);
      given : all_given vs (names_select (subscripts_of nodes l.fn.subscripts))
          ≡ all_given vs (names_select (subscripts_of nodes l.left));
    }

abbrev pub decreases-given_select-loop-left : goal.decreases-given_select-loop-left
decreases-given_select-loop-left l = length l.left
