use Rattle.std.proofs.Common.{◌++◌, subst, sym}
use Rattle.std.proofs.lemmas.Int.{to_z-of_z}
use Rattle.std.specs.Int.{w32, w64}
use Rattle.jsonb_comparable.specs.ExtensionKey.{biased_32, biased_64}
use Rattle.jsonb_comparable.proofs.Sinks.{first_room, second_room}
use Rattle.jsonb_comparable.proofs.extension.append_interval.Goals as goal

pub append_i32-requires-2 : goal.append_i32-requires-2
append_i32-requires-2 g c =
    let months = biased_32 c.args.months in let days = biased_32 c.args.days in
    let micros = biased_64 c.args.micros in
    let one = rw (to_z-of_z w32 c.args.months c.ranges.months) at c.append_i32.ensures in
    subst (λ v. g.S.Sink.room c.append_i32.new.sink (biased_32 v))
    (sym (to_z-of_z w32 c.args.days c.ranges.days))
    (first_room g.S.Sink.laws c.append_i32.new.sink days micros
    (second_room g.S.Sink.laws c.args.sink.now c.append_i32.new.sink months (days ++ micros)
    c.requires one))

pub append_i64-requires : goal.append_i64-requires
append_i64-requires g c =
    let months = biased_32 c.args.months in let days = biased_32 c.args.days in
    let micros = biased_64 c.args.micros in
    let one = rw (to_z-of_z w32 c.args.months c.ranges.months) at c.append_i32.ensures in
    let two = rw (to_z-of_z w32 c.args.days c.ranges.days) at c.append_i32-2.ensures in
    subst (λ v. g.S.Sink.room c.append_i32-2.new.sink (biased_64 v))
    (sym (to_z-of_z w64 c.args.micros c.ranges.micros))
    (second_room g.S.Sink.laws c.append_i32.new.sink c.append_i32-2.new.sink days micros
    (second_room g.S.Sink.laws c.args.sink.now c.append_i32.new.sink months (days ++ micros)
    c.requires one) two)
