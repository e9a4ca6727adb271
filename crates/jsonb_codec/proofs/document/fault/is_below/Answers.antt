use Rattle.jsonb_codec.proofs.Words.{slice_cmp-words}
use Rattle.jsonb_codec.proofs.document.fault.is_below.Goals as goal

pub returns-in-Some-Some : goal.returns-in-Some-Some
returns-in-Some-Some c =
    let s = c.in-Some-Some in
    rw (s.ensures.found, s.ensures'.found)
    (slice_cmp-words _ _ _ _ s.ensures.small s.ensures'.small c.if-first-second.true)
