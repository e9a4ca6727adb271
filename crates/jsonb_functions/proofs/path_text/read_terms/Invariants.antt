-- The terms that were read, and those that the rest of the text gives, are its condition. No more
-- groups are open than bytes were read.
use Rattle.std.proofs.Common.{◌≤◌, ◌+◌, length}
use denote.Text.{Utf8}
use denote.Shadow.{shadow}
use Rattle.jsonb_functions.proofs.TermLaws.{AreRead}
use Rattle.jsonb_functions.proofs.path_text.read_terms.Given as goal

abbrev pub invariant-loop-rest : goal.invariant-loop-rest
invariant-loop-rest l = shadow (Utf8 l.left)
    × (AreRead l.fn.text l.left l.wants_value l.depth l.terms.items
    × (l.depth + length l.left ≤ length l.fn.text))

abbrev pub decreases-loop-rest : goal.decreases-loop-rest
decreases-loop-rest l = length l.left
