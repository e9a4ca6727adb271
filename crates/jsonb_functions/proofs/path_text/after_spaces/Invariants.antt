-- The spaces so far are passed.
use Rattle.std.proofs.Common.{◌≡◌, length}
use denote.Text.{Utf8}
use denote.Shadow.{shadow}
use Rattle.jsonb_functions.specs.PathText.{after_spaces}
use Rattle.jsonb_functions.proofs.path_text.after_spaces.Given as goal

abbrev pub invariant-loop-rest : goal.invariant-loop-rest
invariant-loop-rest l =
    shadow (Utf8 l.left) × (after_spaces l.fn.text ≡ after_spaces l.left)

abbrev pub decreases-loop-rest : goal.decreases-loop-rest
decreases-loop-rest l = length l.left
