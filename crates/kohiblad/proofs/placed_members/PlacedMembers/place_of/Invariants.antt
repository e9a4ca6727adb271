-- The members that were passed have lesser keys, so for the name and later keys the rest decides.
use Rattle.std.proofs.Common.{◌≡◌, ℕ, List, length}
use Rattle.std.specs.declared.cmp.Ordering.TheVariants.{Less}
use Rattle.std.specs.Ordering.{nat_cmp}
use Rattle.std.specs.Cmp.Lexicographic.{slice_cmp}
use Rattle.kohiblad.specs.PlacedMembers.{AreMembersIn, AreWhole, keys_left, place_among}
use Rattle.kohiblad.proofs.placed_members.PlacedMembers.place_of.Given as goal

abbrev pub invariant-loop-self : goal.invariant-loop-self
invariant-loop-self l = record {
  there : AreMembersIn l.bytes l.self;
  whole : AreWhole l.bytes l.fn.self → AreWhole l.bytes l.self;
  keeps : AreWhole l.bytes l.fn.self → (k : List ℕ) → (slice_cmp nat_cmp k l.name ≡ Less → ⊥)
      → place_among k l.bytes l.fn.self ≡ place_among k l.bytes l.self;
}

abbrev pub decreases-loop-self : goal.decreases-loop-self
decreases-loop-self l = length (keys_left l.self)
