use Rattle.std.proofs.Common.{rules, ◌≡◌, Err, Ok, Some, None}
use Rattle.jsonb.proofs.LookupLaws.{LooksUp-bytes}
use Rattle.jsonb.proofs.raw.RawJsonb.get_object_value_by_key_name_counted.Goals as goal

-- on any bytes
pub returns-in_err-found-clause-bytes : goal.returns-in_err-found-clause-bytes
returns-in_err-found-clause-bytes g c =
    let refused : c.from_residual.result ≡ Err c.in_err-found.field-0.0 = search rules in
    rw refused (rw c.in_err-found.was at c.find_object_value_counted.ensures.bytes)

pub returns-in-Some-clause-bytes : goal.returns-in-Some-clause-bytes
returns-in-Some-clause-bytes g c = rw c.in-Some.is at c.in_ok-found.ensures.bytes

pub returns-in-None-clause-bytes : goal.returns-in-None-clause-bytes
returns-in-None-clause-bytes g c = rw c.in-None.is at c.in_ok-found.ensures.bytes

-- on a document
pub returns-in_err-found-clause-document : goal.returns-in_err-found-clause-document
returns-in_err-found-clause-document g c =
    λ t h. LooksUp-bytes _ _ _ t _ _ h (returns-in_err-found-clause-bytes g c)

pub returns-in-Some-clause-document : goal.returns-in-Some-clause-document
returns-in-Some-clause-document g c =
    λ t h. LooksUp-bytes _ _ _ t (Ok (Some c.in-Some.found.item)) _ h
    (returns-in-Some-clause-bytes g c)

pub returns-in-None-clause-document : goal.returns-in-None-clause-document
returns-in-None-clause-document g c =
    λ t h. LooksUp-bytes _ _ _ t (Ok None) _ h (returns-in-None-clause-bytes g c)
