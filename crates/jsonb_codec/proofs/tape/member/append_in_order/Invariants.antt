use Rattle.std.proofs.Common.{◌≡◌, ◌≤◌, ◌+◌, ◌++◌, List, take, length, vec_len, vec_capacity}
use Rattle.jsonb_codec.specs.Tape.{ArePicked}
use Rattle.jsonb_codec.specs.declared.tape.member.Member.{Member}
use Rattle.jsonb_codec.proofs.tape.member.append_in_order.Given as goal

abbrev pub invariant-loop-index : goal.invariant-loop-index
invariant-loop-index l = (picked : List Member)
    × ((l.members.items ≡ l.fn.members.items ++ picked)
    × (ArePicked l.fn.members.items l.first (take l.index-index l.fn.order) picked
    × (vec_len l.members + length l.fn.order ≤ vec_capacity l.members + l.index-index)))
