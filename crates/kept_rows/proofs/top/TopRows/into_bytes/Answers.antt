use Rattle.kept_rows.proofs.TopLaws.{joined}
use Rattle.kept_rows.proofs.top.TopRows.into_bytes.Goals as goal

pub returns : goal.returns
returns c =
    joined c.concat.result c.in_ok-into_lines.field-0.items c.args.self.rows
    c.in_ok-into_lines.ensures (rw (← c.deref.ensures.value) c.concat.ensures.ok)
