-- The names that are left come after those so far.
use Rattle.std.proofs.Common.{◌≡◌, ◌++◌, length, map, true}
use Rattle.std.specs.Prelude.{string_bytes}
use Rattle.kohiblad_shell.specs.Expected.{listed_classes}
use Rattle.kohiblad_shell.proofs.expected.listed_classes.Given as goal

abbrev pub invariant-loop-left : goal.invariant-loop-left
invariant-loop-left l =
    string_bytes l.text ++ listed_classes l.is_first l.bits (map (λ name. name.now) l.left)
    ≡ listed_classes true l.classes (map (λ name. name.now) l.names)

abbrev pub decreases-loop-left : goal.decreases-loop-left
decreases-loop-left l = length l.left
