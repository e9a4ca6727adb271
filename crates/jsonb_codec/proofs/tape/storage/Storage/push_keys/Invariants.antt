use Rattle.std.proofs.Common.{ℕ, List, take}
use Rattle.jsonb_value.specs.Json.Syntax.{Entries, pairs}
use Rattle.jsonb_codec.specs.Canon.{pairs_shapes}
use Rattle.jsonb_codec.specs.Shape.{key_payloads}
use Rattle.jsonb_codec.specs.Tape.{Grows, MembersAre, StoresHead}
use Rattle.jsonb_codec.specs.declared.tape.place.Place.{Place}
use Rattle.jsonb_codec.proofs.tape.storage.Storage.push_keys.Given as goal

abbrev pub invariant-loop-member : goal.invariant-loop-member
invariant-loop-member l = Grows l.fn.self l.self
    × ((base : ℕ) (ps : List Place) (front : Entries) → MembersAre l.fn.self base ps l.fn.members
    front
    → StoresHead l.fn.self l.self (key_payloads (pairs_shapes (pairs (take l.member-index front)))))
