-- The characters so far, with escapes.
use Rattle.std.proofs.Common.{◌≡◌}
use Rattle.std.specs.Prelude.{flat_map}
use Rattle.kohiblad_shell.specs.Escapes.{shown_char}
use Rattle.kohiblad_shell.proofs.escape.shown_chars.Given as goal

abbrev pub invariant-loop-character : goal.invariant-loop-character
invariant-loop-character l = l.shown.items ≡ flat_map shown_char l.yielded
