use Rattle.std.proofs.Common.{arith, ◌≡◌, ◌+◌, ◌-◌, ◌*◌, ◌/◌, ◌%◌, ◌∷◌, [], ap, ◌∙◌}
use Rattle.std.proofs.lemmas.Grind.{common_steps}
use Rattle.jsonb_comparable.specs.SplitDigits.{split_pairs, signed}
use Rattle.jsonb_comparable.proofs.Sinks.{going_room, going_on}
use Rattle.jsonb_comparable.proofs.SplitLaws.{last_digits, more_digits, signed_first, no_digits}
use Rattle.jsonb_comparable.proofs.number.append_pairs.Goals as goal
use Rattle.jsonb_comparable.proofs.number.append_pairs.Goals.{else-high-eq0-via-then-high-eq0+else-low-eq0}
use Rattle.jsonb_comparable.proofs.number.append_pairs.Goals.{else-high-eq0-via-else-high-eq0}

pub append_signed-requires : goal.append_signed-requires
append_signed-requires g c =
    let digits = last_digits c.loop-left.left c.loop-left.high c.args.low
    c.power_of_100-power.result (omega arith) c.power_of_100-power.ensures c.if-high-eq0.true
    c.if-low-eq0.true in
    let going = rw digits at c.loop-left.invariant.going in going.has_room

pub returns-then-low-eq0 : goal.returns-then-low-eq0
returns-then-low-eq0 g c =
    let digits = last_digits c.loop-left.left c.loop-left.high c.args.low
    c.power_of_100-power.result (omega arith) c.power_of_100-power.ensures c.if-high-eq0.true
    c.if-low-eq0.true in
    let going = rw digits at c.loop-left.invariant.going in
    going.ends c.append_signed.new.sink c.append_signed.ensures

pub append_signed-requires-in-loop-left : goal.append_signed-requires-in-loop-left
append_signed-requires-in-loop-left g c =
    let high = c.loop-left.high in let left = c.loop-left.left in
    let power = c.power_of_100-power.result in
    let rest = split_pairs (left - 1) (high % power) c.args.low in
    let some : high % power ≡ 0 → c.args.low ≡ 0 → ⊥ = λ x y.
    elim c.else-high-eq0.branch [
      | else-high-eq0-via-then-high-eq0+else-low-eq0 w ↦ w.if-low-eq0.false y
      | else-high-eq0-via-else-high-eq0 w ↦ w.if-high-eq0.false x
    ] in
    let digits = more_digits left high c.args.low power (omega arith)
    c.power_of_100-power.ensures some in
    going_room g.S.Sink.laws c.loop-left.invariant.going
    (signed c.args.negative ((2 * (high / power) + 1) ∷ [])) (signed c.args.negative rest)
    (ap (signed c.args.negative) digits
    ∙ signed_first c.args.negative (2 * (high / power) + 1) rest)

pub loop-left-preserved : goal.loop-left-preserved
loop-left-preserved g c =
    let high = c.loop-left.high in let left = c.loop-left.left in
    let power = c.power_of_100-power.result in
    let rest = split_pairs (left - 1) (high % power) c.args.low in
    let some : high % power ≡ 0 → c.args.low ≡ 0 → ⊥ = λ x y.
    elim c.else-high-eq0.branch [
      | else-high-eq0-via-then-high-eq0+else-low-eq0 w ↦ w.if-low-eq0.false y
      | else-high-eq0-via-else-high-eq0 w ↦ w.if-high-eq0.false x
    ] in
    let digits = more_digits left high c.args.low power (omega arith)
    c.power_of_100-power.ensures some in
    record {
      high = grind (arith, common_steps);
      going = going_on g.S.Sink.laws c.loop-left.invariant.going
          (signed c.args.negative ((2 * (high / power) + 1) ∷ [])) (signed c.args.negative rest)
          (ap (signed c.args.negative) digits
          ∙ signed_first c.args.negative (2 * (high / power) + 1) rest)
          c.append_signed-in-loop-left.new.sink c.append_signed-in-loop-left.ensures;
    }

pub append_signed-requires-2 : goal.append_signed-requires-2
append_signed-requires-2 g c =
    let digits = no_digits c.loop-left.left c.loop-left.high c.args.low (omega arith) in
    let going = rw digits at c.loop-left.invariant.going in going.has_room

pub returns : goal.returns
returns g c =
    let digits = no_digits c.loop-left.left c.loop-left.high c.args.low (omega arith) in
    let going = rw digits at c.loop-left.invariant.going in
    going.ends c.append_signed-2.new.sink c.append_signed-2.ensures
