-- The names that were read, and those in the rest of the text, are its names.
use Rattle.std.proofs.Common.{length}
use Rattle.std.specs.Prelude.{codes}
use denote.Text.{Utf8}
use denote.Shadow.{shadow}
use Rattle.jsonb_functions.specs.Names.{names_of}
use Rattle.jsonb_functions.specs.NameList.{NameList, name_after}
use Rattle.jsonb_functions.proofs.NameLaws.{IsRead}
use Rattle.jsonb_functions.proofs.name_list.read_name_list.Given as goal

abbrev pub invariant-loop-left : goal.invariant-loop-left
invariant-loop-left l =
    shadow (Utf8 l.left)
    × IsRead (NameList l.fn.text) (name_after 44) (codes "}") l.left (names_of l.names)

abbrev pub decreases-loop-left : goal.decreases-loop-left
decreases-loop-left l = length l.left
