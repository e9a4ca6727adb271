use Rattle.std.proofs.Common.{rules, ◌≡◌, Result, Err, sym, ap, ◌∙◌}
use Rattle.jsonb_value.specs.declared.error.Error.{Error}
use Rattle.jsonb.specs.declared.entries.Entry.{Entry}
use Rattle.jsonb.specs.Entry.{entry_read}
use Rattle.jsonb.specs.Item.{item_in, scalar_item}
use Rattle.jsonb.specs.ItemView.{result_view}
use Rattle.jsonb.specs.Steps.{◌>>=◌}
use Rattle.jsonb.proofs.EntryLaws.{item_in-scalar}
use Rattle.jsonb.proofs.item.item_of_bytes.Goals as goal

pub returns-in_err-read : goal.returns-in_err-read
returns-in_err-read c =
    let bytes = c.as_bytes-bytes.result.now in
    let refused : c.from_residual-in_err-read.result ≡ Err c.in_err-read.field-0.0 =
    search rules in
    ap result_view refused
    ∙ ap (λ (r : Result Entry Error). entry_read bytes r >>= scalar_item)
    c.in_err-read.ensures.value
    ∙ sym (item_in-scalar bytes c.in_ok-tag.tag _ c.if-tag-ne-SCALAR_CONTAINER_TAG.false
    c.in_ok-tag.ensures)
    ∙ ap item_in c.as_bytes-bytes.ensures

pub returns : goal.returns
returns c =
    let bytes = c.as_bytes-bytes.result.now in
    c.scalar_item.ensures
    ∙ ap (λ (r : Result Entry Error). entry_read bytes r >>= scalar_item)
    c.in_ok-read.ensures.value
    ∙ sym (item_in-scalar bytes c.in_ok-tag.tag _ c.if-tag-ne-SCALAR_CONTAINER_TAG.false
    c.in_ok-tag.ensures)
    ∙ ap item_in c.as_bytes-bytes.ensures
