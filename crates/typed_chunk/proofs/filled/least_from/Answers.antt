use Rattle.std.proofs.Common.{◌≡◌, ◌+◌, ◌∙◌, ℤ, ap, arith, drop, false, fold, get_or}
use Rattle.std.proofs.Common.{of_z, pos, rules, sym, to_z, true}
use Rattle.std.specs.Int.{int_min, w64}
use Rattle.std.proofs.lemmas.Int.{to_z-of_z}
use Rattle.typed_chunk.proofs.ValueLaws.{none_here, value_here}
use Rattle.typed_chunk.proofs.filled.least_from.Goals as goal
use Rattle.typed_vector.specs.ZoneMap.{set_values}

pub loop-index-preserved-then-not-flag : goal.loop-index-preserved-then-not-flag
loop-index-preserved-then-not-flag c =
    let values = c.args.values.now in
    let has = c.args.has.now in
    let index = c.loop-index.index in
    let none : get_or has index false ≡ false = first_of (search rules, grind arith) in
    ap (fold int_min (to_z w64 c.loop-index.least-bits))
    (sym (none_here values has index (omega (arith, c.loop-index-test.true, c.requires))
    c.loop-index-test.true none))
    ∙ c.loop-index.invariant

pub loop-index-preserved : goal.loop-index-preserved
loop-index-preserved c =
    let values = c.args.values.now in
    let has = c.args.has.now in
    let index = c.loop-index.index in
    let least = to_z w64 c.loop-index.least-bits in
    let rest = set_values (drop (index + 1) values) (drop (index + 1) has) in
    let some : get_or has index false ≡ true = first_of (search rules, grind arith) in
    let step : to_z w64 (of_z w64 c.min-least.result)
    ≡ int_min least (get_or values index (pos 0)) =
    first_of (search (rules, to_z-of_z), grind (arith, to_z-of_z)) in
    ap (λ (z : ℤ). fold int_min z rest) step
    ∙ ap (fold int_min least)
    (sym (value_here values has index (omega (arith, c.loop-index-test.true, c.requires))
    c.loop-index-test.true some))
    ∙ c.loop-index.invariant
