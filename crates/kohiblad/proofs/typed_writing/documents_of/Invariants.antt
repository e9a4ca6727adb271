-- The documents so far are those of the rows before the rows that are left.
use Rattle.std.proofs.Common.{length}
use Rattle.kohiblad.proofs.TypedWritingLaws.{ReadSoFar}
use Rattle.kohiblad.proofs.typed_writing.documents_of.Given as goal

abbrev pub invariant-loop-row : goal.invariant-loop-row
invariant-loop-row l = ReadSoFar l.depth l.fn.rows l.left l.documents.items

abbrev pub decreases-loop-row : goal.decreases-loop-row
decreases-loop-row l = length l.left
