use Rattle.std.proofs.Common.{arith, ap, ◌∙◌, ◌≡◌}
use Rattle.std.proofs.Math.IntN.{nat_abs}
use Rattle.std.proofs.lemmas.Int.{ints, to_z-of_z}
use Rattle.std.specs.Prelude.{pos, ◌<ℤ◌, ◌≤ℤ◌}
use Rattle.std.specs.Int.{w128}
use Rattle.jsonb_comparable.proofs.SplitLaws.{negative_key, positive_key}
use Rattle.jsonb_comparable.proofs.number.append_decimal.Goals as goal

pub append_magnitude-requires-clause-room : goal.append_magnitude-requires-clause-room
append_magnitude-requires-clause-room g c =
    let v = c.args.value in
    let size : c.unsigned_abs-magnitude.result ≡ nat_abs v =
    c.unsigned_abs-magnitude.ensures.value ∙ ap nat_abs (to_z-of_z w128 v c.ranges.value) in
    let below : v <ℤ pos 0 = omega (arith, ints) in
    rw (negative_key v c.args.scale c.unsigned_abs-magnitude.result below size) at c.requires

pub append_magnitude-requires-else-value-lt0-clause-room :
    goal.append_magnitude-requires-else-value-lt0-clause-room
append_magnitude-requires-else-value-lt0-clause-room g c =
    let v = c.args.value in
    let size : c.unsigned_abs-magnitude.result ≡ nat_abs v =
    c.unsigned_abs-magnitude.ensures.value ∙ ap nat_abs (to_z-of_z w128 v c.ranges.value) in
    let above : pos 0 ≤ℤ v = omega (arith, ints) in
    rw (positive_key v c.args.scale c.unsigned_abs-magnitude.result above size) at c.requires

pub returns-then-value-lt0 : goal.returns-then-value-lt0
returns-then-value-lt0 g c =
    let v = c.args.value in
    let size : c.unsigned_abs-magnitude.result ≡ nat_abs v =
    c.unsigned_abs-magnitude.ensures.value ∙ ap nat_abs (to_z-of_z w128 v c.ranges.value) in
    let below : v <ℤ pos 0 = omega (arith, ints) in
    rw (negative_key v c.args.scale c.unsigned_abs-magnitude.result below size)
    c.append_magnitude.ensures

pub returns-else-value-lt0 : goal.returns-else-value-lt0
returns-else-value-lt0 g c =
    let v = c.args.value in
    let size : c.unsigned_abs-magnitude.result ≡ nat_abs v =
    c.unsigned_abs-magnitude.ensures.value ∙ ap nat_abs (to_z-of_z w128 v c.ranges.value) in
    let above : pos 0 ≤ℤ v = omega (arith, ints) in
    rw (positive_key v c.args.scale c.unsigned_abs-magnitude.result above size)
    c.append_magnitude-else-value-lt0.ensures
