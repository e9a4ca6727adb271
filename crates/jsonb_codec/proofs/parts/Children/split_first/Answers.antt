use Rattle.std.proofs.lemmas.Grind.{merely}
use Rattle.jsonb_codec.proofs.Decision.{known_children}
use Rattle.jsonb_codec.proofs.Steps.{reading, length-Read, first_child, first_fits, children_end}
use Rattle.jsonb_codec.proofs.parts.Children.split_first.Goals as goal

pub returns-in_default-clause-none : goal.returns-in_default-clause-none
returns-in_default-clause-none c ts h = (children_end ts _ _ c.in_default.ensures.none h).0

pub split_at-requires : goal.split_at-requires
split_at-requires c =
    let (ts, h) = known_children _ _ c.args.self.fact in
    first_fits (reading c.in-Some.ensures) ts _ h

pub returns-clause-first : goal.returns-clause-first
returns-clause-first c =
    first_child (reading c.in-Some.ensures) _ c.split_at.ensures.front c.split_at.ensures.back

pub invariant_of-result : goal.invariant_of-result
invariant_of-result c =
    let (ts, h) = known_children _ _ c.args.self.fact in
    let cut = c.split_at.ensures in
    let f = first_child (reading c.in-Some.ensures) _ cut.front cut.back ts h in
    record { fact = merely (f.first, f.is) }

pub invariant_of-result-2 : goal.invariant_of-result-2
invariant_of-result-2 c =
    let (ts, h) = known_children _ _ c.args.self.fact in
    let cut = c.split_at.ensures in
    let f = first_child (reading c.in-Some.ensures) _ cut.front cut.back ts h in
    record { fact = merely (f.others, f.later) }

pub returns-clause-entries_len : goal.returns-clause-entries_len
returns-clause-entries_len c = length-Read (reading c.in-Some.ensures)
