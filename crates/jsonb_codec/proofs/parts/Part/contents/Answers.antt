use Rattle.std.proofs.Common.{◌∙◌, arith}
use Rattle.std.proofs.lemmas.Grind.{merely}
use Rattle.jsonb_codec.proofs.Decision.{known_part}
use Rattle.jsonb_codec.proofs.Steps.{reading, length-Read, container_room, array_in, object_in}
use Rattle.jsonb_codec.proofs.Steps.{array_room, array_children}
use Rattle.jsonb_codec.proofs.parts.Part.contents.Goals as goal

pub unreachable-requires : goal.unreachable-requires
unreachable-requires c =
    let (t, h) = known_part _ _ c.args.self.fact in
    omega (arith, container_room t _ (h.0 ∙ c.requires, h.1), c.in_default.ensures.none)

pub split_at-requires : goal.split_at-requires
split_at-requires c =
    let (t, k) = known_part _ _ c.args.self.fact in
    let x = array_in (reading c.in-Some.ensures) c.if-header.true t (k.0 ∙ c.requires, k.1) in
    array_room _ _ x.0 x.1.1

pub returns-then-header-clause-contents : goal.returns-then-header-clause-contents
returns-then-header-clause-contents c t k =
    let x = array_in (reading c.in-Some.ensures) c.if-header.true t (k.0 ∙ c.requires, k.1) in
    let cut = c.split_at.ensures in
    (x.0, (x.1.0, array_children cut.front cut.back cut.front_len x.0 x.1.1))

pub invariant_of-result : goal.invariant_of-result
invariant_of-result c =
    let (t, k) = known_part _ _ c.args.self.fact in
    let x = array_in (reading c.in-Some.ensures) c.if-header.true t (k.0 ∙ c.requires, k.1) in
    let cut = c.split_at.ensures in
    record { fact = merely (x.0, array_children cut.front cut.back cut.front_len x.0 x.1.1) }

pub invariant_of-result-else-header : goal.invariant_of-result-else-header
invariant_of-result-else-header c =
    let (t, k) = known_part _ _ c.args.self.fact in
    let x = object_in (reading c.in-Some.ensures) c.if-header.false t (k.0 ∙ c.requires, k.1) in
    record { fact = merely (x.0, x.1.1) }

pub returns-else-header-clause-contents : goal.returns-else-header-clause-contents
returns-else-header-clause-contents c t k =
    let x = object_in (reading c.in-Some.ensures) c.if-header.false t (k.0 ∙ c.requires, k.1) in
    (x.0, (x.1.0, x.1.1))

pub returns-then-header-clause-inside : goal.returns-then-header-clause-inside
returns-then-header-clause-inside c =
    omega (arith, length-Read (reading c.in-Some.ensures), c.split_at.ensures.back_len)

pub returns-else-header-clause-inside : goal.returns-else-header-clause-inside
returns-else-header-clause-inside c =
    omega (arith, length-Read (reading c.in-Some.ensures))
