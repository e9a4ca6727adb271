-- The name so far comes before the name that what is left begins with.
use Rattle.std.proofs.Common.{◌≡◌, false, length}
use Rattle.std.specs.Prelude.{string_bytes}
use denote.Text.{Utf8}
use denote.Shadow.{shadow}
use Rattle.jsonb_functions.specs.NameList.{quoted}
use Rattle.jsonb_functions.proofs.NameLaws.{joined}
use Rattle.jsonb_functions.proofs.name_list.read_quoted.Given as goal

abbrev pub invariant-runs : goal.invariant-runs
invariant-runs l =
    shadow (Utf8 l.left)
    × (quoted false l.fn.text ≡ joined (string_bytes l.name) (quoted false l.left))

abbrev pub decreases-runs : goal.decreases-runs
decreases-runs l = length l.left
