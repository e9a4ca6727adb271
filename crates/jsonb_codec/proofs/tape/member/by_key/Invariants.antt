use Rattle.std.proofs.Common.{ℕ, List, [], take}
use Rattle.jsonb_value.specs.Json.Syntax.{Entries, insert_all}
use Rattle.jsonb_codec.specs.Keys.{AreNumbered}
use Rattle.jsonb_codec.specs.Tape.{MembersAre}
use Rattle.jsonb_codec.specs.declared.tape.place.Place.{Place}
use Rattle.jsonb_codec.proofs.tape.member.by_key.Given as goal

abbrev pub invariant-loop-number : goal.invariant-loop-number
invariant-loop-number l = (base : ℕ) (ps : List Place) (read : Entries)
    → MembersAre l.fn.storage base ps l.fn.members read
    → AreNumbered read l.found.entries (insert_all [] (take l.number read))
