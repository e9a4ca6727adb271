use Rattle.jsonb.proofs.CopyLaws.{ends_put}
use Rattle.jsonb.proofs.copies.copy_ends.Goals as goal

pub returns : goal.returns
returns g c =
    ends_put g.row.N c.args.room.now c.args.text.now c.requires.same c.requires.covers.0
    c.requires.covers.1
