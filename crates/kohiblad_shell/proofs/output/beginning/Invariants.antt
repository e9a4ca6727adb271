-- The characters so far have no more bytes than they may.
use Rattle.std.proofs.Common.{◌≤◌}
use Rattle.std.specs.Prelude.{string_len}
use Rattle.kohiblad_shell.proofs.output.beginning.Given as goal

abbrev pub invariant-loop-character : goal.invariant-loop-character
invariant-loop-character l = string_len l.words ≤ l.most
