use Rattle.std.proofs.Common.{◌≡◌, Some, sym, ◌∙◌}
use Rattle.jsonb_functions.specs.PathPlaces.{header_there}
use Rattle.jsonb_functions.proofs.PathPlaceLaws.{values_walked}
use Rattle.jsonb_functions.proofs.places.values_at.Goals as goal

pub returns-in-Ok : goal.returns-in-Ok
returns-in-Ok c =
    let at = c.in-Some-eq1073741824-default in
    let header : header_there c.args.bytes.now c.args.place ≡ Some (1073741824, at.count) =
    cc (c.header_at.ensures.value, at.is) in
    values_walked c.args.bytes.now c.args.place c.bytes_at-payload.result.now at.count
    c.in-Ok.entries c.len-left.result c.bytes_at-payload.ensures.bytes header
    (sym c.over_values.ensures ∙ c.in-Ok.is) c.len-left.ensures
