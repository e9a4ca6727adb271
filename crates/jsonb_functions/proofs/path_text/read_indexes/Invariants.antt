-- The indexes that were read come before those of what is left.
use Rattle.std.proofs.Common.{◌≡◌, length}
use denote.Text.{Utf8}
use denote.Shadow.{shadow}
use Rattle.jsonb_functions.specs.PathText.{indexes_in}
use Rattle.jsonb_functions.proofs.IndexTextLaws.{bounds_before}
use Rattle.jsonb_functions.proofs.path_text.read_indexes.Given as goal

abbrev pub invariant-loop-part : goal.invariant-loop-part
invariant-loop-part l = shadow (Utf8 l.left)
    × (indexes_in l.fn.place ≡ bounds_before l.indexes.items (indexes_in l.left))

abbrev pub decreases-loop-part : goal.decreases-loop-part
decreases-loop-part l = length l.left
