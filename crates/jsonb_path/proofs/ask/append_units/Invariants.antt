-- What was found so far, and after it what is left, is the whole.
use Rattle.std.proofs.Common.{◌≡◌, length}
use Rattle.jsonb_path.specs.Found.{found_then, left_of}
use Rattle.jsonb_path.specs.Meaning.{gives}
use Rattle.jsonb_path.proofs.ask.append_units.Given as goal

abbrev pub invariant-loop-unit : goal.invariant-loop-unit
invariant-loop-unit l =
    found_then l.found.items (gives (left_of l.left))
    ≡ found_then l.fn.found.items (gives (left_of l.fn.units))

abbrev pub decreases-loop-unit : goal.decreases-loop-unit
decreases-loop-unit l = length (left_of l.left)
