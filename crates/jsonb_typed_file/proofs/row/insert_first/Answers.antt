use Rattle.jsonb_typed_file.proofs.RowLaws.{put_first}
use Rattle.jsonb_typed_file.proofs.row.insert_first.Goals as goal

pub returns : goal.returns
returns c =
    put_first c.args.members.now.entries c.insert.new.self.entries c.args.key c.args.value
    c.requires c.in_ok-insert.ensures.entries
