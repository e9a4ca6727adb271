use Rattle.std.proofs.Common.{subst}
use Rattle.jsonb_codec.specs.Doc.{Payload}
use Rattle.jsonb_codec.proofs.Decision.{known_part}
use Rattle.jsonb.proofs.PayloadLaws.{number_in-given}
use Rattle.jsonb.proofs.number_item.NumberItem.of_part.Goals as goal

pub invariant_of-result : goal.invariant_of-result
invariant_of-result c =
    let part = c.args.part in
    let (t, is) = known_part part.type_code part.payload.now part.fact in
    record {
      means = number_in-given part.payload _
          (subst (λ u. Payload u part.payload.now) (c.number.ensures t is) is.1);
    }
