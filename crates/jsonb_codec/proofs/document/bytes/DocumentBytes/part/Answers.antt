use Rattle.std.proofs.Common.{◌∙◌, arith}
use Rattle.std.proofs.lemmas.Grind.{merely}
use Rattle.jsonb_codec.proofs.Decision.{known_document}
use Rattle.jsonb_codec.proofs.Steps.{reading, length-Read, document_room, document_scalar}
use Rattle.jsonb_codec.proofs.Steps.{document_container, scalar_entry, scalar_in, scalar_count}
use Rattle.jsonb_codec.proofs.Steps.{scalar_document_of}
use Rattle.jsonb_codec.proofs.document.bytes.DocumentBytes.part.Goals as goal

pub unreachable-requires : goal.unreachable-requires
unreachable-requires c =
    let (t, h) = known_document _ c.args.self.fact in
    let room = document_room t _ h in omega (arith, c.in_default.ensures.none)

pub returns-then-header-ne-SCALAR_CONTAINER_TAG-clause-means :
    goal.returns-then-header-ne-SCALAR_CONTAINER_TAG-clause-means
returns-then-header-ne-SCALAR_CONTAINER_TAG-clause-means c =
    let g = c.in-Some.ensures in
    document_container (reading g)
    c.if-header-ne-SCALAR_CONTAINER_TAG.true

pub invariant_of-result : goal.invariant_of-result
invariant_of-result c =
    let g = c.in-Some.ensures in
    let (t, h) = known_document _ c.args.self.fact in
    record {
      fact = merely (
        t,
        document_container (reading g)
            c.if-header-ne-SCALAR_CONTAINER_TAG.true t h,
      );
    }

pub unreachable-requires-in_default-split_entry : goal.unreachable-requires-in_default-split_entry
unreachable-requires-in_default-split_entry c =
    let g = c.in-Some.ensures in
    let (t, h) = known_document _ c.args.self.fact in
    let s =
    document_scalar (reading g) c.if-header-ne-SCALAR_CONTAINER_TAG.false
    t h in
    let room = scalar_entry _ _ g.number t s.1 in
    omega (arith, c.in_default-split_entry.ensures.none)

pub returns-clause-means : goal.returns-clause-means
returns-clause-means c t h =
    let g = c.in-Some.ensures in
    let read = reading c.in-Some-split_entry.ensures in
    let s =
    document_scalar (reading g) c.if-header-ne-SCALAR_CONTAINER_TAG.false
    t h in
    (scalar_in _ _ g.number read t s.1).1

pub invariant_of-result-2 : goal.invariant_of-result-2
invariant_of-result-2 c =
    let g = c.in-Some.ensures in
    let read = reading c.in-Some-split_entry.ensures in
    let (t, h) = known_document _ c.args.self.fact in
    let s =
    document_scalar (reading g) c.if-header-ne-SCALAR_CONTAINER_TAG.false
    t h in
    record { fact = merely (t, (scalar_in _ _ g.number read t s.1).1) }

pub returns-clause-bytes : goal.returns-clause-bytes
returns-clause-bytes c =
    let g = c.in-Some.ensures in
    let read = reading c.in-Some-split_entry.ensures in
    let (t, h) = known_document _ c.args.self.fact in
    let is = c.if-header-ne-SCALAR_CONTAINER_TAG.false in
    let s = document_scalar (reading g) is t h in
    let found = scalar_in _ _ g.number read t s.1 in
    scalar_document_of is (scalar_count _ _ g.number t s.1)
    (λ container. s.0 (found.1.0 ∙ container)) found.0 (reading g) read

pub returns-clause-len : goal.returns-clause-len
returns-clause-len c = omega (
  arith,
  c.ranges.self.0,
  length-Read (reading c.in-Some.ensures),
  length-Read (reading c.in-Some-split_entry.ensures),
)
