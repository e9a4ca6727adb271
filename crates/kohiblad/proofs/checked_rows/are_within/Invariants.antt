use Rattle.std.proofs.Common.{◌↔◌, length}
use Rattle.kohiblad.specs.Results.{AreWithin}
use Rattle.kohiblad.proofs.checked_rows.are_within.Given as goal

abbrev pub invariant-loop-document : goal.invariant-loop-document
invariant-loop-document l = AreWithin l.depth l.fn.rows ↔ AreWithin l.depth l.left

abbrev pub decreases-loop-document : goal.decreases-loop-document
decreases-loop-document l = length l.left
