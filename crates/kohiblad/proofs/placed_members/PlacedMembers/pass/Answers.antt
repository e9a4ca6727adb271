use Rattle.std.proofs.Common.{◌-◌, arith, refl}
use Rattle.kohiblad.proofs.PlacedMemberLaws.{pass_law}
use Rattle.kohiblad.proofs.placed_members.PlacedMembers.pass.Goals as goal

pub returns-then-count-gt0-clause-passed : goal.returns-then-count-gt0-clause-passed
returns-then-count-gt0-clause-passed c bytes whole =
    let read = c.entry_after-self.ensures.read whole.keys_read in
    pass_law bytes (c.args.count - 1) c.args.count c.args.self.now _ whole
    (omega (arith, c.if-count-gt0.true)) read.0 read.1 refl
