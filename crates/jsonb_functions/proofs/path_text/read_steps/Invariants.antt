-- The steps that were read, and those that the rest of the text gives, are its path.
use Rattle.std.proofs.Common.{◌≡◌, ℕ, List, ◌∷◌, false, length}
use denote.Text.{Utf8}
use denote.Shadow.{shadow}
use Rattle.jsonb_functions.specs.PathText.{BeginsWithStep}
use Rattle.jsonb_functions.proofs.PathLaws.{IsRead}
use Rattle.jsonb_functions.proofs.path_text.read_steps.Given as goal

abbrev pub invariant-loop-left : goal.invariant-loop-left
invariant-loop-left l = shadow (Utf8 l.left)
    × ((start : List ℕ) × (l.fn.text ≡ 36 ∷ start)
    × IsRead BeginsWithStep false start l.left l.path.items)

abbrev pub decreases-loop-left : goal.decreases-loop-left
decreases-loop-left l = length l.left
