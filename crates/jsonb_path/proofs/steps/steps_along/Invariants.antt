-- The steps that were found come before those of the accessors that are left.
use Rattle.std.proofs.Common.{◌≡◌, length}
use Rattle.std.specs.Prelude.{IsTrue}
use Rattle.std.specs.List.{list_all}
use Rattle.jsonb_path.specs.PathParts.{is_accessor}
use Rattle.jsonb_path.specs.PathTree.{accessors_of, nodes_of}
use Rattle.jsonb_path.specs.Steps.{steps_along}
use Rattle.jsonb_path.proofs.StepLaws.{behind}
use Rattle.jsonb_path.proofs.steps.steps_along.Given as goal

abbrev pub invariant-loop-left : goal.invariant-loop-left
invariant-loop-left l =
    let nodes = nodes_of l.fn.parts in record {
      all : IsTrue (list_all (is_accessor l.fn.parts) l.left);
      whole : steps_along (accessors_of nodes l.fn.accessors)
          ≡ behind l.steps.items (steps_along (accessors_of nodes l.left));
    }

abbrev pub decreases-loop-left : goal.decreases-loop-left
decreases-loop-left l = length l.left
