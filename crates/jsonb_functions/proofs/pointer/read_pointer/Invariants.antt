-- The names that were read, and those in the rest of the text, are its names.
use Rattle.std.proofs.Common.{◌≡◌, length, []}
use denote.Text.{Utf8}
use denote.Shadow.{shadow}
use Rattle.jsonb_functions.specs.Names.{names_of}
use Rattle.jsonb_functions.specs.Pointer.{pointer_name, pointer_of}
use Rattle.jsonb_functions.proofs.NameLaws.{IsRead}
use Rattle.jsonb_functions.proofs.pointer.read_pointer.Given as goal

abbrev pub invariant-loop-left : goal.invariant-loop-left
invariant-loop-left l =
    shadow (Utf8 l.left)
    × IsRead (λ names. l.fn.text ≡ pointer_of names) pointer_name [] l.left (names_of l.names)

abbrev pub decreases-loop-left : goal.decreases-loop-left
decreases-loop-left l = length l.left
