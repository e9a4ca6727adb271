use Rattle.std.proofs.Common.{◌≡◌, ◌++◌, ℕ, List, reverse}
use Rattle.std.specs.Prelude.{option_to_list}
use Rattle.jsonb_codec.specs.Tape.{Joined}
use Rattle.jsonb_codec.proofs.OnTape.Writing.{HasNext, LeftAre, left_weight}
use Rattle.jsonb_codec.proofs.tape.write.append_payloads.Given as goal

abbrev pub invariant-parts : goal.invariant-parts
invariant-parts l = HasNext l.next l.left.items × ((p : List ℕ)
    → Joined l.fn.storage l.fn.all.start l.fn.all.places.now l.fn.all.end p
    → (r : List ℕ) × (LeftAre l.fn.storage (option_to_list l.next ++ reverse l.left.items) r
    × (l.fn.out.items ++ p ≡ l.out.items ++ r)))

abbrev pub decreases-parts : goal.decreases-parts
decreases-parts l = left_weight (option_to_list l.next ++ reverse l.left.items)
