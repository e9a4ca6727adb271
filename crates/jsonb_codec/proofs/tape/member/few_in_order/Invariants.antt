use Rattle.std.proofs.Common.{ℕ, List, [], take}
use Rattle.jsonb_value.specs.Json.Syntax.{Entries, insert_all}
use Rattle.jsonb_codec.specs.Keys.{Picks}
use Rattle.jsonb_codec.specs.Tape.{MembersAre}
use Rattle.jsonb_codec.specs.declared.tape.place.Place.{Place}
use Rattle.jsonb_codec.proofs.tape.member.few_in_order.Given as goal

abbrev pub invariant-loop-number : goal.invariant-loop-number
invariant-loop-number l = (base : ℕ) (ps : List Place) (read : Entries)
    → MembersAre l.fn.storage base ps l.fn.members read
    → Picks read l.order.items (insert_all [] (take l.number read))
