use Rattle.std.proofs.Common.{◌∙◌, arith}
use Rattle.std.proofs.lemmas.Grind.{merely}
use Rattle.jsonb_codec.proofs.Decision.{known_part}
use Rattle.jsonb_codec.proofs.Steps.{reading, length-Read, container_room, cut}
use Rattle.jsonb_codec.proofs.Rewriting.{opened_as, opened_room}
use Rattle.jsonb_codec.proofs.parts.Part.container.Goals as goal

pub unreachable-requires : goal.unreachable-requires
unreachable-requires c =
    let (t, h) = known_part _ _ c.args.self.fact in
    omega (arith, container_room t _ (h.0 ∙ c.requires, h.1), c.in_default.ensures.none)

pub split_at-requires : goal.split_at-requires
split_at-requires c =
    let g = c.in-Some.ensures in let w = c.entry_words-words.ensures in
    let (t, h) = known_part _ _ c.args.self.fact in
    opened_room (reading g) _ w.array w.object t (h.0 ∙ c.requires, h.1)

pub returns-clause-opened : goal.returns-clause-opened
returns-clause-opened c t is =
    let g = c.in-Some.ensures in let w = c.entry_words-words.ensures in
    opened_as (reading g) _ w.array w.object c.split_at.ensures.front c.split_at.ensures.back t
    (is.0 ∙ c.requires, is.1)

pub invariant_of-result : goal.invariant_of-result
invariant_of-result c =
    let g = c.in-Some.ensures in let w = c.entry_words-words.ensures in
    let (t, h) = known_part _ _ c.args.self.fact in
    let o =
    opened_as (reading g) _ w.array w.object c.split_at.ensures.front c.split_at.ensures.back t
    (h.0 ∙ c.requires, h.1) in
    record { fact = merely (o.children, o.are) }

pub returns-clause-bytes : goal.returns-clause-bytes
returns-clause-bytes c =
    rw (← cut _ c.split_at.ensures.front c.split_at.ensures.back) c.in-Some.ensures.found

pub returns-clause-len : goal.returns-clause-len
returns-clause-len c = omega (
  arith,
  length-Read (reading c.in-Some.ensures),
  c.split_at.ensures.front_len,
  c.split_at.ensures.back_len,
)
