-- The digits so far and those left are all.
use Rattle.std.proofs.Common.{◌≡◌, ◌≤◌, length}
use Rattle.jsonb_path.specs.Dotted.{level_value}
use Rattle.jsonb_path.proofs.read.dotted.level_value.Given as goal

abbrev pub invariant-digits : goal.invariant-digits
invariant-digits l =
    (l.value ≤ 0x7fffffff) × (level_value l.value l.left ≡ level_value 0 l.digits)

abbrev pub decreases-digits : goal.decreases-digits
decreases-digits l = length l.left
