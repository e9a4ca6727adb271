use Rattle.std.proofs.lemmas.Result.{IfOk-weaker}
use Rattle.jsonb_codec.proofs.CanonLaws.{Doc-canon, norm-canon}
use Rattle.jsonb_codec.proofs.Encoding.{appended, limits}
use Rattle.jsonb_codec.proofs.ser.Encoder.encode.Goals as goal

pub returns-clause-appended : goal.returns-clause-appended
returns-clause-appended c =
    let a = c.append_document in
    IfOk-weaker a.result _ _ (λ _ h. h.1)
    (appended _ _ c.value_level.ensures.is a.result _ _ a.ensures.appended)

pub returns-clause-limits : goal.returns-clause-limits
returns-clause-limits c =
    let a = c.append_document in
    limits _ _ c.value_level.ensures.is a.result _ _ a.ensures.appended a.ensures.past
    a.ensures.memory a.ensures.only

pub returns-clause-room : goal.returns-clause-room
returns-clause-room c fits room =
    c.append_document.ensures.room _ c.value_level.ensures.is fits
    room

pub returns-clause-means : goal.returns-clause-means
returns-clause-means c = Doc-canon

pub returns-clause-distinct : goal.returns-clause-distinct
returns-clause-distinct c = norm-canon
