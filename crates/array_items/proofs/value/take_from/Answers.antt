use Rattle.std.proofs.Common.{◌<◌, length, take, arith}
use Rattle.std.proofs.lemmas.Grind.{common_steps}
use Rattle.std.specs.Io.KnownBytes.{Consumes}
use Rattle.array_items.proofs.ValueSteps.{takes_held}
use Rattle.array_items.proofs.value.take_from.Goals as goal

pub returns : goal.returns
returns g c =
    let held = c.in-Ok.held.now in
    let old = g.R.Read.remaining c.args.reader.now in
    let new = g.R.Read.remaining c.consume.new.self in
    let some : 0 < length held = grind (arith, common_steps) in
    let consumed : Consumes old new (take c.in_ok-count.count held) =
    grind (arith, common_steps) in
    takes_held held c.in_ok-count.count c.args.place.now c.take_bytes.new.place
    c.args.row.now.items c.take_bytes.new.row.items some c.in_ok-count.ensures.left
    c.in_ok-count.ensures.taken c.in_ok-count.ensures.place old new c.in-Ok.ensures.front consumed
