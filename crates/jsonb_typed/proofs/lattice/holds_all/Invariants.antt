use Rattle.std.proofs.Common.{take}
use Rattle.std.specs.Prelude.{All}
use Rattle.jsonb_typed.specs.LeastTypes.{IsHeldAt}
use Rattle.jsonb_typed.proofs.lattice.holds_all.Given as goal

abbrev pub invariant-loop-row : goal.invariant-loop-row
invariant-loop-row l = All (IsHeldAt l.fit l.candidate l.path) (take l.row-index l.rows)
