-- The rows so far stand before the rest of the bytes.
use Rattle.std.proofs.Common.{◌≡◌, ◌++◌, length}
use Rattle.std.specs.Prelude.{flat_map}
use Rattle.kohiblad_shell.specs.Sorts.{keyed_bytes}
use Rattle.kohiblad_shell.proofs.sort.read_rows.Given as goal

abbrev pub invariant-loop-rest : goal.invariant-loop-rest
invariant-loop-rest l = l.bytes ≡ flat_map keyed_bytes l.rows.items ++ l.rest

abbrev pub decreases-loop-rest : goal.decreases-loop-rest
decreases-loop-rest l = length l.rest
