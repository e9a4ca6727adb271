use Rattle.std.proofs.Common.{ℕ, List, take, ◌≤◌, ◌*◌, ◌^◌}
use Rattle.jsonb_value.specs.Json.Syntax.{Entries}
use Rattle.jsonb_codec.specs.Tape.{Grows, MembersAre}
use Rattle.jsonb_codec.specs.declared.tape.place.Place.{Place}
use Rattle.jsonb_codec.proofs.OnTape.Closing.{KeyWordsAre}
use Rattle.jsonb_codec.proofs.tape.storage.Storage.push_key_words.Given as goal

abbrev pub invariant-loop-member : goal.invariant-loop-member
invariant-loop-member l = Grows l.fn.self l.self × ((l.size ≤ 2 ^ 29 * l.member-index)
    × ((base : ℕ) (ps : List Place) (front : Entries) → MembersAre l.fn.self base ps l.fn.members
    front
    → KeyWordsAre l.fn.self l.self l.size (take l.member-index front)))
