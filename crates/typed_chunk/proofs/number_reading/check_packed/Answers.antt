use Rattle.std.proofs.Common.{◌≡◌, ◌∙◌, ℤ, ap, map, of_z, rules, to_z, List, ℕ}
use Rattle.std.specs.Int.{w64}
use Rattle.typed_chunk.specs.Frame.{height, least_value}
use Rattle.typed_chunk.specs.NumberReading.{heights_set}
use Rattle.typed_chunk.specs.Places.{are_zeros}
use Rattle.typed_chunk.proofs.NumberReadLaws.{packed_kept, packed_short, packed_zeros}
use Rattle.typed_chunk.proofs.number_reading.check_packed.Goals as goal
use Rattle.typed_vector.specs.ZoneMap.{set_values}
use Rattle.std.proofs.Common.{sym}

pub returns-then-not-are_zeros : goal.returns-then-not-are_zeros
returns-then-not-are_zeros c =
    let values = c.args.values.now in
    let has = c.args.has.now in
    let least : to_z w64 (of_z w64 c.least_set-least.result) ≡ least_value (set_values values has) =
    search rules in
    let codes : c.write_heights.new.codes ≡ heights_set values has =
    c.write_heights.ensures ∙ ap (λ (z : ℤ). map (height z) values) least in
    sym (packed_zeros has values c.are_zeros.result
    (c.are_zeros.ensures ∙ ap (λ (ns : List ℕ). are_zeros ns has) codes) (search rules))

pub returns-then-rises_shorter : goal.returns-then-rises_shorter
returns-then-rises_shorter c =
    let values = c.args.values.now in
    let has = c.args.has.now in
    let least : to_z w64 (of_z w64 c.least_set-least.result) ≡ least_value (set_values values has) =
    search rules in
    let codes : c.write_heights.new.codes ≡ heights_set values has =
    c.write_heights.ensures ∙ ap (λ (z : ℤ). map (height z) values) least in
    sym (packed_short has values c.are_zeros.result c.rises_shorter.result
    (c.are_zeros.ensures ∙ ap (λ (ns : List ℕ). are_zeros ns has) codes) (search rules)
    (search rules) (search rules))

pub returns : goal.returns
returns c =
    let values = c.args.values.now in
    let has = c.args.has.now in
    let least : to_z w64 (of_z w64 c.least_set-least.result) ≡ least_value (set_values values has) =
    search rules in
    let codes : c.write_heights.new.codes ≡ heights_set values has =
    c.write_heights.ensures ∙ ap (λ (z : ℤ). map (height z) values) least in
    sym (packed_kept has values c.are_zeros.result c.rises_shorter.result
    (c.are_zeros.ensures ∙ ap (λ (ns : List ℕ). are_zeros ns has) codes) (search rules)
    (search rules) (search rules))
