use Rattle.std.proofs.Common.{◌+◌, ◌∷◌, [], subst, sym}
use Rattle.jsonb_value.specs.ExtCode.{extension_of}
use Rattle.jsonb_value.specs.Order.{extension_kind}
use Rattle.jsonb_comparable.specs.ExtensionKey.{fields_key}
use Rattle.jsonb_comparable.proofs.Sinks.{first_room, second_room, both_parts}
use Rattle.jsonb_comparable.proofs.extension.append_extension.Goals as goal

pub append-requires : goal.append-requires
append-requires g c =
    let e = extension_of c.args.value in
    subst (λ b. g.S.Sink.room c.args.sink.now (b ∷ [])) (sym c.first_byte.ensures)
    (first_room g.S.Sink.laws c.args.sink.now ((16 + extension_kind e) ∷ []) (fields_key e)
    c.requires)

pub append_fields-requires : goal.append_fields-requires
append_fields-requires g c =
    let e = extension_of c.args.value in
    second_room g.S.Sink.laws c.args.sink.now c.append.new.self ((16 + extension_kind e) ∷ [])
    (fields_key e) c.requires (rw c.first_byte.ensures at c.append.ensures)

pub returns : goal.returns
returns g c =
    let e = extension_of c.args.value in
    both_parts g.S.Sink.laws c.args.sink.now c.append.new.self c.append_fields.new.sink
    ((16 + extension_kind e) ∷ []) (fields_key e) (rw c.first_byte.ensures at c.append.ensures)
    c.append_fields.ensures
