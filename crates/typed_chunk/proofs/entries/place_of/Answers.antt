use Rattle.std.proofs.Common.{arith}
use Rattle.typed_chunk.proofs.SearchLaws.{never_missed, place_found, searchable}
use Rattle.typed_chunk.proofs.entries.place_of.Goals as goal

pub returns-in-Ok : goal.returns-in-Ok
returns-in-Ok c =
    place_found c.args.entries.now c.in-Ok.place c.args.text c.in-Ok.ensures.bound
    c.in-Ok.ensures.ok

pub returns-in-Err : goal.returns-in-Err
returns-in-Err c =
    let entries = c.args.entries.now in
    let point = c.in-Err.ensures.position
    (searchable entries c.args.text.now c.requires.ascend) in
    absurd (never_missed entries c.in-Err.field-0 c.args.text
    (λ j d low. point.0 j d (omega arith) low) (λ j d high low. point.1 j d high low)
    c.requires.there)
