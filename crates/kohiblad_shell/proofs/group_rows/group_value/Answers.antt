use Rattle.std.proofs.Common.{Ok, ◌∙◌, ap, sym}
use Rattle.jsonb.specs.Document.{document_tree}
use Rattle.jsonb_value.proofs.TreesLaws.{view-Object}
use Rattle.jsonb_value.specs.Value.{pairs_view}
use Rattle.kohiblad_shell.specs.GroupRows.{total_members, value_members}
use Rattle.kohiblad_shell.proofs.GroupRowLaws.{object_made}
use Rattle.kohiblad_shell.proofs.group_rows.group_value.Goals as goal

pub returns-in-Ok-with_totals : goal.returns-in-Ok-with_totals
returns-in-Ok-with_totals c =
    object_made (value_members c.args.paths.now (document_tree c.args.group.first))
    (total_members c.args.aggregates.now c.args.group.totals.now)
    (pairs_view c.in-Ok.values.entries) (pairs_view c.in-Ok-with_totals.members.entries)
    c.in-Ok.ensures c.in-Ok-with_totals.ensures
    ∙ ap Ok (sym (view-Object c.in-Ok-with_totals.members))
