use Rattle.std.proofs.Common.{◌≡◌, ◌∙◌, ℤ, ap, fold, get_or, of_z, pos, rules, to_z}
use Rattle.std.specs.Int.{int_min, w64}
use Rattle.typed_chunk.proofs.ValueLaws.{least_from_first}
use Rattle.typed_chunk.proofs.filled.least_set.Goals as goal
use Rattle.typed_vector.specs.ZoneMap.{set_values}

pub returns : goal.returns
returns c =
    let set = set_values c.args.values.now c.args.has.now in
    let first : to_z w64 (of_z w64 c.first_set.result) ≡ get_or set 0 (pos 0) = search rules in
    let least : to_z w64 (of_z w64 c.least_from.result)
    ≡ fold int_min (to_z w64 (of_z w64 c.first_set.result)) set = search rules in
    least ∙ ap (λ (z : ℤ). fold int_min z set) first ∙ least_from_first set
