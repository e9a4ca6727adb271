use Rattle.std.proofs.Common.{◌↔◌, length}
use Rattle.std.specs.Map.{keys_of}
use Rattle.jsonb.specs.Building.{AreTexts}
use Rattle.kohiblad.specs.Rows.{row_pairs}
use Rattle.kohiblad.proofs.checked_rows.are_texts.Given as goal

abbrev pub invariant-loop-key : goal.invariant-loop-key
invariant-loop-key l = AreTexts (keys_of (row_pairs l.fn.rows))
    ↔ AreTexts (keys_of (row_pairs l.left))

abbrev pub decreases-loop-key : goal.decreases-loop-key
decreases-loop-key l = length (row_pairs l.left)
