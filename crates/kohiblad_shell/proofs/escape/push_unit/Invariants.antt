-- The digits so far are appended.
use Rattle.std.proofs.Common.{◌≡◌, ◌++◌, ◌∷◌, take}
use Rattle.kohiblad_shell.proofs.escape.push_unit.Given as goal

abbrev pub invariant-loop-digit : goal.invariant-loop-digit
invariant-loop-digit l =
    l.shown.items ≡ l.fn.shown.items ++ (92 ∷ (117 ∷ take l.digit-index l.digit-items))
