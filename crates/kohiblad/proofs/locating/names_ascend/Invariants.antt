use Rattle.std.proofs.Common.{◌≡◌, None, Some, length, map}
use denote.Shadow.{shadow}
use denote.Text.{Utf8}
use Rattle.kohiblad.specs.PlacedMembers.{names_ascend}
use Rattle.kohiblad.proofs.locating.names_ascend.Given as goal

abbrev pub invariant-loop-name : goal.invariant-loop-name
invariant-loop-name l =
    shadow (Utf8 l.before)
    × (names_ascend (Some l.before) (map (λ name. name.now) l.left)
    ≡ names_ascend None (map (λ name. name.now) l.names))

abbrev pub decreases-loop-name : goal.decreases-loop-name
decreases-loop-name l = length l.left
