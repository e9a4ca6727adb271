-- The steps that were read, and those that the rest of the text gives, are its path.
use Rattle.std.proofs.Common.{true, length}
use denote.Text.{Utf8}
use denote.Shadow.{shadow}
use Rattle.jsonb_functions.specs.PathText.{StepBegins}
use Rattle.jsonb_functions.proofs.PathLaws.{IsRead}
use Rattle.jsonb_functions.proofs.path_text.read_filter_steps.Given as goal

abbrev pub invariant-loop-alloc : goal.invariant-loop-alloc
invariant-loop-alloc l =
    shadow (Utf8 l.left) × IsRead (StepBegins true) true l.fn.text l.left l.steps.items

abbrev pub decreases-loop-alloc : goal.decreases-loop-alloc
decreases-loop-alloc l = length l.left
