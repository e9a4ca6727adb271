use Rattle.std.proofs.Common.{arith}
use Rattle.kohiblad.proofs.ResultRooms.{edit_len}
use Rattle.kohiblad.proofs.edit.kohiblad_edit.Goals as goal

pub returns-clause-len : goal.returns-clause-len
returns-clause-len c =
    edit_len c.args.depth c.args.bytes.now c.args.path.now c.args.value.now c.args.edit
    c.args.out.now c.write_edit.new.out c.write_edit.new.length c.write_edit.result
    (λ i. omega (arith, c.type_inv.bytes i)) (λ i. omega (arith, c.type_inv.value i))
    (rw c.edit_of-edit.ensures at c.write_edit.ensures)
