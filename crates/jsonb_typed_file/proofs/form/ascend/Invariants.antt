-- The names so far ascend.
use Rattle.std.proofs.Common.{map, length, None}
use Rattle.std.specs.Prelude.{◌↔◌, option_map}
use Rattle.jsonb_typed_file.specs.File.{AscendNames}
use Rattle.jsonb_typed_file.specs.Views.{buffers_view}
use Rattle.jsonb_typed_file.proofs.form.ascend.Given as goal

abbrev pub invariant-loop-left : goal.invariant-loop-left
invariant-loop-left l = AscendNames None (map buffers_view l.columns)
    ↔ AscendNames (option_map (λ b. b.now) l.before) (map buffers_view l.left)

abbrev pub decreases-loop-left : goal.decreases-loop-left
decreases-loop-left l = length l.left
