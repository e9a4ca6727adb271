use Rattle.std.proofs.Common.{◌∙◌, None, ap, map, rules, subst, sym}
use Rattle.jsonb_value.specs.Tree.{Ascend, object}
use Rattle.jsonb_typed_file.specs.Views.{buffers_view}
use Rattle.jsonb_typed_file.proofs.RowLaws.{made_alone, made_row, members_ascend}
use Rattle.jsonb_typed_file.proofs.RowLaws.{refused_row}
use Rattle.jsonb_typed_file.proofs.row.whole_row.Goals as goal

pub object_of-requires : goal.object_of-requires
object_of-requires c =
    subst Ascend (sym c.in_ok-members.ensures)
    (members_ascend None (map buffers_view c.args.columns.now) c.args.index c.requires.names)

pub returns-in_err-document : goal.returns-in_err-document
returns-in_err-document c =
    refused_row _ _ c.in-Object.count (map buffers_view c.args.columns.now) c.args.index
    c.in_err-document.field-0.0 c.from_residual-in_err-document.result (sym c.in-Object.ensures)
    (ap object c.in_ok-members.ensures) c.requires.names c.in_err-document.ensures.limits
    c.from_residual-in_err-document.ensures.1

pub returns-then-count-eq0 : goal.returns-then-count-eq0
returns-then-count-eq0 c =
    made_alone _ c.in-Object.count _ (map buffers_view c.args.columns.now) c.args.index _
    (sym c.in-Object.ensures) (search rules) c.in_ok-members.ensures c.requires.names
    c.in_ok-document.ensures.canonical c.in_ok-document.ensures.limits

pub returns : goal.returns
returns c =
    made_row _ _ c.in-Object.count _ _ _ c.concat.result (sym c.in-Object.ensures)
    (ap object c.in_ok-members.ensures) c.in_ok-document.ensures.means
    (c.new_unchecked.ensures ∙ c.as_bytes.ensures) c.concat.ensures.ok
    c.concat.ensures.limits
