use Rattle.kohiblad.proofs.PlacedMemberLaws.{after_read, never_cut}
use Rattle.kohiblad.proofs.placed_members.entry_after.Goals as goal

pub returns-in-Ok-clause-read : goal.returns-in-Ok-clause-read
returns-in-Ok-clause-read c are =
    after_read c.args.passed c.args.entries.now.entries c.skip.new.self.entries
    c.next_entry.new.entries.entries c.next_entry.result are c.in-Ok.ensures.rest
    c.next_entry.ensures.rest c.next_entry.ensures.steps

pub returns-in-Err-clause-read : goal.returns-in-Err-clause-read
returns-in-Err-clause-read c are =
    absurd (never_cut c.args.passed c.args.entries.now.entries c.in-Err.field-0 are
    c.in-Err.ensures.cut.0)
