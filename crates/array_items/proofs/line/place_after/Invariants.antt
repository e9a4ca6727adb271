-- The place so far.
use Rattle.std.proofs.Common.{◌≡◌, drop}
use Rattle.array_items.specs.Values.{place_after}
use Rattle.array_items.specs.declared.value.Place.TheVariants.{Before}
use Rattle.array_items.proofs.line.place_after.Given as goal

abbrev pub invariant-loop-byte : goal.invariant-loop-byte
invariant-loop-byte l =
    place_after Before l.line ≡ place_after l.place (drop l.byte-index l.line)
