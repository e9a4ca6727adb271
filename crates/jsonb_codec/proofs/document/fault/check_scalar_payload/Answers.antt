use Rattle.jsonb_value.specs.ExtCode.{extension_of}
use Rattle.jsonb_codec.proofs.Scalars.{tells_iff, empty_test, HasPayload-empty, HasPayload-text}
use Rattle.jsonb_codec.proofs.Scalars.{HasPayload-number, HasPayload-extension}
use Rattle.jsonb_codec.proofs.document.fault.check_scalar_payload.Goals as goal

pub returns-in-0 : goal.returns-in-0
returns-in-0 c =
    (HasPayload-empty 0 _ _ c.in-0.is).0
    ((empty_test _ _ c.is_empty.ensures).0 c.if-is_empty.true)

pub returns-in-268435456 : goal.returns-in-268435456
returns-in-268435456 c =
    tells_iff _ c.check_text.ensures
    (HasPayload-text 0 _ _ c.in-268435456.is)

pub returns-in-536870912 : goal.returns-in-536870912
returns-in-536870912 c =
    (HasPayload-number 0 _ _ c.in-536870912.is).0
    (c.is_payload.ensures.0 c.if-is_payload.true)

pub returns-in-Ok : goal.returns-in-Ok
returns-in-Ok c =
    (HasPayload-extension 0 _ _ c.in-1610612736.is).0
    (extension_of c.in-Ok.field-0, c.in-Ok.ensures.ok)
