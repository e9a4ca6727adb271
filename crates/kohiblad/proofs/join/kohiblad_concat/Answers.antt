use Rattle.std.proofs.Common.{arith}
use Rattle.kohiblad.proofs.ResultRooms.{concat_len}
use Rattle.kohiblad.proofs.join.kohiblad_concat.Goals as goal

pub returns-clause-len : goal.returns-clause-len
returns-clause-len c =
    concat_len c.args.depth c.args.left.now c.args.right.now c.args.out.now
    c.hand_over_made.new.out c.hand_over_made.new.size c.hand_over_made.result
    (λ i. omega (arith, c.type_inv.left i)) (λ i. omega (arith, c.type_inv.right i))
    (_, (c.both_joined.ensures, c.hand_over_made.ensures))
