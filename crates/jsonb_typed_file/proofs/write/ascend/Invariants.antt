-- The names so far ascend.
use Rattle.std.proofs.Common.{length, None}
use Rattle.std.specs.Prelude.{◌↔◌, option_map}
use Rattle.jsonb_typed_file.specs.Written.{AscendPlans}
use Rattle.jsonb_typed_file.proofs.write.ascend.Given as goal

abbrev pub invariant-loop-left : goal.invariant-loop-left
invariant-loop-left l = AscendPlans None l.plans
    ↔ AscendPlans (option_map (λ b. b.now) l.before) l.left

abbrev pub decreases-loop-left : goal.decreases-loop-left
decreases-loop-left l = length l.left
