use Rattle.jsonb.specs.declared.item.JsonbItem.TheVariants as items
use Rattle.jsonb.specs.ItemView.{item_view}
use Rattle.kohiblad.proofs.MadeDocuments.{written}
use Rattle.kohiblad.proofs.NumberLengths.{made_number, number_fits}
use Rattle.kohiblad.proofs.scalar.numbers.write_number.Goals as goal

pub returns : goal.returns
returns c =
    let item = c.from_number.result in
    let number = c.from_number.ensures.number in
    let source = c.from_number.ensures.source in
    written c.from_item.result (item_view (items.Number item)) _ _ _ _ _
    (made_number item c.args.value number source) (number_fits item c.args.value number source)
    c.from_item.ensures.ok c.from_item.ensures.limits c.hand_over_made.ensures
