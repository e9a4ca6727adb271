-- What is left is a text.
use Rattle.std.proofs.Common.{chars, length}
use denote.Text.{Utf8}
use denote.Shadow.{shadow}
use Rattle.jsonb_path.proofs.hint.write_spaces.Given as goal

abbrev pub invariant-characters : goal.invariant-characters
invariant-characters g l = shadow (Utf8 l.left)

abbrev pub decreases-characters : goal.decreases-characters
decreases-characters g l = length (chars l.left)
