use Rattle.jsonb.proofs.LookupLaws.{IsOkAnd-weaker, item_found, found_stored}
use Rattle.jsonb.proofs.raw.RawJsonb.get_object_value_by_key_name.Goals as goal

pub returns-clause-document : goal.returns-clause-document
returns-clause-document g c = λ t h. IsOkAnd-weaker c.get_object_value_by_key_name_counted.result _
    _ (λ found looked. (_, looked))
    (c.get_object_value_by_key_name_counted.ensures.document t h)

pub returns-clause-found : goal.returns-clause-found
returns-clause-found g c = λ accepts by t h. IsOkAnd-weaker
    c.get_object_value_by_key_name_counted.result _ _
    (λ found. item_found _ accepts _ by _ t _ _)
    (c.get_object_value_by_key_name_counted.ensures.document t h)

pub returns-clause-entry : goal.returns-clause-entry
returns-clause-entry g c = λ accepts by t h. IsOkAnd-weaker
    c.get_object_value_by_key_name_counted.result _ _
    (λ found. found_stored _ accepts _ by _ t _ _ h)
    (c.get_object_value_by_key_name_counted.ensures.document t h)
