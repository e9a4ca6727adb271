use Rattle.jsonb_codec.specs.Tape.{cut}
use Rattle.jsonb_codec.proofs.OnTape.Ordering.{PutInOrder}
use Rattle.jsonb_codec.proofs.tape.Tape.put_in_order.Given as goal

abbrev pub invariant-loop-index : goal.invariant-loop-index
invariant-loop-index l =
    PutInOrder l.fn.self l.self (cut l.fn.sorted l.index l.fn.self.members.items)
