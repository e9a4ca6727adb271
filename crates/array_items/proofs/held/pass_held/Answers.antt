use Rattle.std.proofs.Common.{take, arith}
use Rattle.std.proofs.lemmas.Grind.{common_steps}
use Rattle.std.specs.Io.KnownBytes.{Consumes}
use Rattle.array_items.proofs.BlankSteps.{passes_held}
use Rattle.array_items.proofs.held.pass_held.Goals as goal

pub returns : goal.returns
returns g c =
    let held = c.in-Ok.held.now in
    let old = g.R.Read.remaining c.args.reader.now in
    let new = g.R.Read.remaining c.consume.new.self in
    let consumed : Consumes old new (take c.look-next.result.1 held) =
    grind (arith, common_steps) in
    passes_held held c.look-next.result.1 c.args.is_taken c.look-next.result.0
    c.look-next.ensures.rest c.look-next.ensures.next old new c.in-Ok.ensures.front consumed
