use Rattle.std.proofs.Common.{◌≡◌, ◌++◌, map}
use Rattle.jsonb_codec.proofs.OnTape.Ordering.{number_of}
use Rattle.jsonb_codec.proofs.tape.member.many_in_order.Given as goal

abbrev pub invariant-loop-number : goal.invariant-loop-number
invariant-loop-number l =
    l.order.items ++ map number_of l.number-iterator ≡ map number_of l.initial.number-iterator
