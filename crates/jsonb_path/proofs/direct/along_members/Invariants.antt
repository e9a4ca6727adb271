-- The accessors that are left give the same from the value so far.
use Rattle.std.proofs.Common.{◌≡◌, List, [], ◌∷◌, length}
use Rattle.std.specs.Prelude.{IsTrue}
use Rattle.std.specs.List.{list_all}
use Rattle.jsonb.specs.Node.{node_tree}
use Rattle.jsonb_path.specs.declared.path.Part.{Part}
use Rattle.jsonb_path.specs.Meaning.{Place, along, gives}
use Rattle.jsonb_path.specs.PathParts.{is_accessor}
use Rattle.jsonb_path.specs.PathTree.{PathNode, accessors_of}
use Rattle.jsonb_path.proofs.direct.along_members.Given as goal

abbrev pub invariant-loop-left : goal.invariant-loop-left
invariant-loop-left l = record {
  same : (place : Place) (nodes : List PathNode)
      → along place (accessors_of nodes l.left) (gives (node_tree l.node ∷ []))
      ≡ along place (accessors_of nodes l.accessors) (gives (node_tree l.start ∷ []));
  left : (ps : List Part) → IsTrue (list_all (is_accessor ps) l.accessors)
      → IsTrue (list_all (is_accessor ps) l.left);
}

abbrev pub decreases-loop-left : goal.decreases-loop-left
decreases-loop-left l = length l.left
