use Rattle.std.proofs.Common.{arith}
use Rattle.jsonb.specs.declared.item.JsonbItem.TheVariants as items
use Rattle.jsonb.specs.ItemView.{item_view}
use Rattle.kohiblad.proofs.MadeDocuments.{written, unstored, made_extension, extension_length}
use Rattle.kohiblad.proofs.scalar.extensions.write_extension.Goals as goal

pub returns-clause-value : goal.returns-clause-value
returns-clause-value c = λ short.
    let item = c.from_value.result in
    let value = c.from_value.ensures.value in
    let source = c.from_value.ensures.source in
    written c.from_item.result (item_view (items.Extension item)) _ _ _ _ _
    (made_extension item _ value source)
    (omega (arith, short, extension_length item _ value source))
    c.from_item.ensures.ok c.from_item.ensures.limits c.hand_over_made.ensures

pub returns-clause-past : goal.returns-clause-past
returns-clause-past c = λ past.
    let item = c.from_value.result in
    let long = extension_length item _ c.from_value.ensures.value c.from_value.ensures.source in
    unstored c.from_item.result (item_view (items.Extension item)) _ _ _ _
    (λ fits. past (omega (arith, fits, long)))
    c.from_item.ensures.limits c.hand_over_made.ensures
