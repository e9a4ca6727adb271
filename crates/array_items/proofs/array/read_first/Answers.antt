use Rattle.std.proofs.Common.{◌≡◌, ◌==◌, false, arith}
use Rattle.std.proofs.lemmas.Bool.Decides.{nat_tests}
use Rattle.array_items.proofs.ArraySteps.{first_later}
use Rattle.array_items.proofs.array.read_first.Goals as goal

pub returns-in-Some : goal.returns-in-Some
returns-in-Some g c =
    let other : (c.in-Some.field-0 == 93) ≡ false = grind (arith, nat_tests) in
    first_later (g.R.Read.remaining c.args.reader.now) (g.R.Read.remaining c.next_byte.new.reader)
    (g.R.Read.remaining c.read_next.new.reader) c.in-Some.field-0 c.read_next.new.item.items
    c.read_next.result (rw c.in-Some.is at c.in_ok-next_byte.ensures) other c.read_next.ensures
