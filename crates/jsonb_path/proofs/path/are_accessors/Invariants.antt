-- All pass if the rest does.
use Rattle.std.proofs.Common.{◌≡◌, length}
use Rattle.std.specs.List.{list_all}
use Rattle.jsonb_path.specs.PathParts.{is_accessor}
use Rattle.jsonb_path.proofs.path.are_accessors.Given as goal

abbrev pub invariant-loop-left : goal.invariant-loop-left
invariant-loop-left l =
    list_all (is_accessor l.before) l.accessors ≡ list_all (is_accessor l.before) l.left

abbrev pub decreases-loop-left : goal.decreases-loop-left
decreases-loop-left l = length l.left
