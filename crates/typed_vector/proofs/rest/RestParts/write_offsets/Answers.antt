use Rattle.std.proofs.Common.{ℕ, ◌≡◌, ◌+◌, ◌-◌, length, arith, subst, sym}
use Rattle.typed_vector.specs.Rest.{IsRest}
use Rattle.typed_vector.proofs.OffsetLaws.{IsPlace, place-moves, place-stays, written-more}
use Rattle.typed_vector.proofs.OffsetLaws.{written-rows}
use Rattle.typed_vector.proofs.rest.RestParts.write_offsets.Goals as goal
use Rattle.typed_vector.proofs.rest.RestParts.write_offsets.Goals.{then-place-self+then-self-place, else-place-self, else-place-self-via-then-place-self+else-self-place, else-place-self-via-else-place-self}

pub loop-row-preserved : goal.loop-row-preserved
loop-row-preserved c =
    let is = c.args.self.now.indices.now in
    let row = c.loop-row.row in
    let place = c.loop-row.place in
    let at = c.loop-row.invariant.place in
    let up = c.requires.stored.increasing in
    let next : IsPlace is (row + 1) c.if-place-self.place =
    elim c.if-place-self.branch [
      | then-place-self+then-self-place w ↦
          subst (λ (n : ℕ). IsPlace is (row + 1) n) (sym w.place-is)
          (place-moves is row place up at w.if-place-self.true w.if-self-place.true)
      | else-place-self w ↦
          subst (λ (n : ℕ). IsPlace is (row + 1) n) (sym w.place-is)
          (elim w.else-place-self.branch [
            | else-place-self-via-then-place-self+else-self-place v ↦
                place-stays is row place up at (λ inside. v.if-self-place.false)
            | else-place-self-via-else-place-self v ↦
                place-stays is row place up at
                (λ inside. absurd (omega (arith, inside, v.if-place-self.false)))
          ])
    ] in
    record {
      place = next;
      written = written-more is c.args.self.now.offsets.now c.loop-row.out row place at
          (omega (arith, c.loop-row-test.true, c.loop-row.auto.out)) c.loop-row.invariant.written;
    }

pub returns : goal.returns
returns c =
    let rest = c.args.self.now in
    let out = c.loop-row.out in
    let same : length out ≡ length c.args.out.now = omega arith in
    let long : length out ≡ length out - 1 + 1 = omega (arith, same, c.requires.some) in
    let stored : IsRest (length out - 1) rest.indices.now rest.bytes.now rest.offsets.now =
    subst (λ (n : ℕ). IsRest (n - 1) rest.indices.now rest.bytes.now rest.offsets.now) (sym same)
    c.requires.stored in
    let written = written-rows (length out - 1) rest.indices.now rest.bytes.now rest.offsets.now
    out stored long
    (λ row low. c.loop-row.invariant.written row (omega (arith, low, c.loop-row-test.false))) in
    record { ascending = written.0; rows = written.1 }
