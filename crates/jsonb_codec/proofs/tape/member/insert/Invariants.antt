use Rattle.std.proofs.Common.{◌≡◌, ℕ, List}
use Rattle.jsonb_value.specs.Json.Syntax.{Entries}
use Rattle.jsonb_value.specs.Tree.{Tree}
use Rattle.jsonb_codec.specs.Keys.{IsPicked, Picks}
use Rattle.jsonb_codec.specs.Tape.{MembersAre}
use Rattle.jsonb_codec.specs.declared.tape.place.Place.{Place}
use Rattle.jsonb_codec.proofs.OnTape.Inserting.{Passed}
use Rattle.jsonb_codec.proofs.tape.member.insert.Given as goal

abbrev pub invariant-loop-place : goal.invariant-loop-place
invariant-loop-place l = (l.order.items ≡ l.fn.order.items)
    × ((base : ℕ) (ps : List Place) (read es : Entries) (key : List ℕ) (t : Tree)
    → MembersAre l.fn.storage base ps l.fn.members read → Picks read l.order.items es
    → IsPicked read l.fn.number (key, t) → Passed read l.order.items es key l.place)
