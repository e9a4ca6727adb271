use Rattle.std.proofs.Common.{◌≡◌, ◌∙◌}
use Rattle.jsonb.specs.Raw.{raw_bytes}
use Rattle.jsonb.specs.Code.{item_document, CanBeStored}
use Rattle.jsonb.specs.DocumentWalk.{IsItemIn}
use Rattle.jsonb.proofs.ItemLaws.{item_in-Doc, shown_ok}
use Rattle.jsonb.proofs.item.JsonbItem.from_raw_jsonb.Goals as goal

pub returns-clause-document : goal.returns-clause-document
returns-clause-document c = λ t h.
    let b = raw_bytes c.args.raw in
    let found = item_in-Doc b t h in
    shown_ok _ found.0 (IsItemIn t b) (c.item_of_bytes.ensures ∙ found.1.0) found.1.1.0

pub returns-clause-again : goal.returns-clause-again
returns-clause-again c = λ t h.
    let b = raw_bytes c.args.raw in
    let found = item_in-Doc b t h in
    shown_ok _ found.0
    (λ x. (item_document x ≡ b) × CanBeStored x)
    (c.item_of_bytes.ensures ∙ found.1.0) found.1.1.1
