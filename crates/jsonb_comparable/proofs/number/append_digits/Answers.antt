use Rattle.std.proofs.Common.{arith}
use Rattle.jsonb_comparable.proofs.Sinks.{first_room, second_room, both_parts}
use Rattle.jsonb_comparable.proofs.SplitLaws.{key_parts}
use Rattle.jsonb_comparable.proofs.number.append_digits.Goals as goal

pub append_count-requires-clause-room : goal.append_count-requires-clause-room
append_count-requires-clause-room g c =
    let d = c.args.digits in let pairs = c.count_pairs-pairs in
    let parts = key_parts c.args.negative pairs.result d.zeros d.high d.low pairs.ensures.below
    c.requires.low pairs.ensures.least c.requires.some (omega arith) in
    first_room g.S.Sink.laws c.args.sink.now _ _ (rw parts at c.requires.room)

pub append_pairs-requires-clause-room : goal.append_pairs-requires-clause-room
append_pairs-requires-clause-room g c =
    let d = c.args.digits in let pairs = c.count_pairs-pairs in
    let parts = key_parts c.args.negative pairs.result d.zeros d.high d.low pairs.ensures.below
    c.requires.low pairs.ensures.least c.requires.some (omega arith) in
    second_room g.S.Sink.laws c.args.sink.now c.append_count.new.sink _ _
    (rw parts at c.requires.room) c.append_count.ensures

pub returns : goal.returns
returns g c =
    let d = c.args.digits in let pairs = c.count_pairs-pairs in
    let parts = key_parts c.args.negative pairs.result d.zeros d.high d.low pairs.ensures.below
    c.requires.low pairs.ensures.least c.requires.some (omega arith) in
    rw parts (both_parts g.S.Sink.laws c.args.sink.now c.append_count.new.sink
    c.append_pairs.new.sink _ _ c.append_count.ensures c.append_pairs.ensures)
