-- The first one of the rows so far.
use Rattle.std.proofs.Common.{◌≡◌, option_map, take}
use Rattle.kohiblad_shell.specs.Merges.{first_of}
use Rattle.kohiblad_shell.proofs.merge.first_head.Given as goal

abbrev pub invariant-loop-head : goal.invariant-loop-head
invariant-loop-head l = option_map (λ h. h.now) l.first ≡ first_of (take l.head-index l.heads)
