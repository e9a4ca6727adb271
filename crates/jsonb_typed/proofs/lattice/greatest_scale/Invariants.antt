-- The greatest so far and that of the rows that are left are that of all.
use Rattle.std.proofs.Common.{◌≡◌, drop, max}
use Rattle.jsonb_typed.specs.LeastTypes.{rows_scale}
use Rattle.jsonb_typed.proofs.lattice.greatest_scale.Given as goal

abbrev pub invariant-loop-row : goal.invariant-loop-row
invariant-loop-row l =
    max l.greatest (rows_scale l.path (drop l.row-index l.rows)) ≡ rows_scale l.path l.rows
