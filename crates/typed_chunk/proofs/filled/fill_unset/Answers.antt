use Rattle.std.proofs.Common.{◌≡◌, ◌∙◌, ℤ, ap, of_z, rules, to_z}
use Rattle.std.specs.Int.{w64}
use Rattle.typed_chunk.specs.Frame.{least_value}
use Rattle.typed_chunk.specs.NumberChunk.{with_unset}
use Rattle.typed_chunk.proofs.filled.fill_unset.Goals as goal
use Rattle.typed_vector.specs.ZoneMap.{set_values}

pub returns : goal.returns
returns c =
    let values = c.args.values.now in
    let has = c.args.has.now in
    let least : to_z w64 (of_z w64 c.least_set-least.result) ≡ least_value (set_values values has) =
    search rules in
    c.write_unset.ensures ∙ ap (λ (z : ℤ). with_unset z values has) least
