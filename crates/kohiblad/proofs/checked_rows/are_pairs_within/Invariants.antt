use Rattle.std.proofs.Common.{◌↔◌, length}
use Rattle.std.specs.Map.{values_of}
use Rattle.kohiblad.specs.Results.{AreWithin}
use Rattle.kohiblad.specs.Rows.{row_pairs}
use Rattle.kohiblad.proofs.checked_rows.are_pairs_within.Given as goal

abbrev pub invariant-loop-document : goal.invariant-loop-document
invariant-loop-document l = AreWithin l.depth (values_of (row_pairs l.fn.rows))
    ↔ AreWithin l.depth (values_of (row_pairs l.left))

abbrev pub decreases-loop-document : goal.decreases-loop-document
decreases-loop-document l = length (row_pairs l.left)
