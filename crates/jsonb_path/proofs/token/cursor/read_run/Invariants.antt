-- What is left is the rest of the run.
use Rattle.std.proofs.Common.{◌≡◌, chars, length}
use Rattle.std.specs.Prelude.{string_bytes}
use denote.Text.{Utf8}
use denote.Shadow.{shadow}
use Rattle.jsonb_path.specs.Character.{run}
use Rattle.jsonb_path.proofs.token.cursor.read_run.Given as goal

abbrev pub invariant-run : goal.invariant-run
invariant-run l = shadow (Utf8 l.left)
    × (run l.class (string_bytes l.content) (chars l.left)
    ≡ run l.class (string_bytes l.initial.content) (chars l.fn.text))

abbrev pub decreases-run : goal.decreases-run
decreases-run l = length (chars l.left)
