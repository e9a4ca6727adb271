-- The parts so far make a path if the rest does after them.
use Rattle.std.proofs.Common.{◌≡◌, [], take, drop}
use Rattle.jsonb_path.specs.PathParts.{are_parts_after}
use Rattle.jsonb_path.proofs.path.are_parts.Given as goal

abbrev pub invariant-loop-at : goal.invariant-loop-at
invariant-loop-at l =
    are_parts_after [] l.parts ≡ are_parts_after (take l.at l.parts) (drop l.at l.parts)
