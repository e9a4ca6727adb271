use Rattle.std.proofs.Common.{◌≡◌, true}
use Rattle.array_items.specs.Values.{has_ended}
use Rattle.array_items.proofs.ValueSteps.{read_ended}
use Rattle.array_items.proofs.value.take_value.Goals as goal

pub returns-in-Bytes : goal.returns-in-Bytes
returns-in-Bytes g c =
    let is : has_ended c.take_from.new.place ≡ true = cc in
    read_ended c.reading.place c.take_from.new.place c.reading.row.items
    c.take_from.new.row.items c.reading.has_begun (g.R.Read.remaining c.args.reader.now)
    (g.R.Read.remaining c.reading.reader) (g.R.Read.remaining c.take_from.new.reader)
    c.reading.invariant (rw c.in-Bytes.is at c.in_ok-take_from.ensures) is
