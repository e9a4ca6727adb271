use Rattle.jsonb_codec.proofs.Encoding.{measured, measured_fits}
use Rattle.jsonb_codec.proofs.ser.Encoder.measure.Goals as goal

pub returns-clause-len : goal.returns-clause-len
returns-clause-len c =
    measured _ _ c.value_level.ensures.is c.measure_document.result c.measure_document.ensures.ok

pub returns-clause-fits : goal.returns-clause-fits
returns-clause-fits c =
    let m = c.measure_document in
    measured_fits _ _ c.value_level.ensures.is m.result m.ensures.ok m.ensures.err
