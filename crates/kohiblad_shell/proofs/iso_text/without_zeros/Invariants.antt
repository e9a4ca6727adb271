-- The digits that are kept say the same.
use Rattle.std.proofs.Common.{◌≡◌, ◌≤◌, length, take}
use Rattle.kohiblad_shell.specs.IsoTexts.{digits_millionths}
use Rattle.kohiblad_shell.proofs.iso_text.without_zeros.Given as goal

abbrev pub invariant-loop-count : goal.invariant-loop-count
invariant-loop-count l = record {
  same : digits_millionths (take l.count l.digits) ≡ digits_millionths l.digits;
  within : l.count ≤ length l.digits;
}

abbrev pub decreases-loop-count : goal.decreases-loop-count
decreases-loop-count l = l.count
