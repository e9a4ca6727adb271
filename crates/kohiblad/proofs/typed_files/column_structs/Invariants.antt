-- The structs so far, with those of the places that are left, are those of all places.
use Rattle.std.proofs.Common.{◌≡◌, ◌++◌, map, length}
use Rattle.kohiblad.specs.TypedFiles.{column_struct}
use Rattle.kohiblad.proofs.typed_files.column_structs.Given as goal

abbrev pub invariant-loop-left : goal.invariant-loop-left
invariant-loop-left l =
    l.columns.items ++ map column_struct l.left ≡ map column_struct l.places

abbrev pub decreases-loop-left : goal.decreases-loop-left
decreases-loop-left l = length l.left
