-- The rows so far: whatever those of the groups that are left give, all give after them.
use Rattle.std.proofs.Common.{drop, map}
use Rattle.kohiblad_shell.specs.GroupRows.{AreBuilt, group_object}
use Rattle.kohiblad_shell.specs.Outcomes.{Outcome}
use Rattle.kohiblad_shell.proofs.GroupRowLaws.{after_rows}
use Rattle.kohiblad_shell.proofs.group_rows.group_rows.Given as goal

abbrev pub invariant-loop-index : goal.invariant-loop-index
invariant-loop-index l = (outcome : Outcome)
    → AreBuilt l.grouper.form
    (drop l.index (map (group_object l.paths l.grouper.aggregates.now) l.grouper.groups)) outcome
    → AreBuilt l.grouper.form
    (map (group_object l.paths l.grouper.aggregates.now) l.grouper.groups)
    (after_rows l.rows.items outcome)
