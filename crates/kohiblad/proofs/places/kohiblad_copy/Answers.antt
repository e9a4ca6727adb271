use Rattle.kohiblad.proofs.PartLaws.{entry_doc, part_made, place_document}
use Rattle.kohiblad.proofs.places.kohiblad_copy.Goals as goal

pub returns-clause-document : goal.returns-clause-document
returns-clause-document c =
    λ t means fits.
    let type = c.args.type_code in
    let payload = c.args.payload.now in
    (_, (part_made type payload t means fits, entry_doc type payload t means fits))

pub returns-clause-place : goal.returns-clause-place
returns-clause-place c =
    λ bytes t number place document found is.
    place_document bytes t number place c.args.type_code c.args.payload.now document found is

pub returns-then-not-is_entry_type-clause-place : goal.returns-then-not-is_entry_type-clause-place
returns-then-not-is_entry_type-clause-place c =
    λ bytes t number place document found is.
    place_document bytes t number place c.args.type_code c.args.payload.now document found is

pub returns-then-payload-ge-PAYLOAD_LIMIT-clause-place :
    goal.returns-then-payload-ge-PAYLOAD_LIMIT-clause-place
returns-then-payload-ge-PAYLOAD_LIMIT-clause-place c =
    λ bytes t number place document found is.
    place_document bytes t number place c.args.type_code c.args.payload.now document found is
