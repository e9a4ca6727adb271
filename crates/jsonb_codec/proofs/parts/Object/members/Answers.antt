use Rattle.std.proofs.Common.{arith}
use Rattle.std.proofs.lemmas.Grind.{merely}
use Rattle.jsonb_codec.proofs.Decision.{known_object}
use Rattle.jsonb_codec.proofs.Entries.{keys_of, values_of}
use Rattle.jsonb_codec.proofs.KeySteps.{object_room}
use Rattle.jsonb_codec.proofs.PairLaws.{keys_room, pairs_of_object, children_of_keys}
use Rattle.jsonb_codec.proofs.PairLaws.{children_of_values}
use Rattle.jsonb_codec.proofs.parts.Object.members.Goals as goal

pub split_at-requires : goal.split_at-requires
split_at-requires c =
    let (ps, h) = known_object _ _ c.args.self.fact in omega (arith, object_room _ _ ps h)

pub split_at-requires-2 : goal.split_at-requires-2
split_at-requires-2 c =
    let (ps, h) = known_object _ _ c.args.self.fact in
    omega (arith, object_room _ _ ps h, c.split_at.ensures.back_len)

pub split_at-requires-3 : goal.split_at-requires-3
split_at-requires-3 c =
    let one = c.split_at.ensures in let two = c.split_at-2.ensures in
    let (ps, h) = known_object _ _ c.args.self.fact in
    keys_room one.front one.back two.front two.back one.front_len two.front_len _
    c.keys_len.ensures ps h

pub returns-clause-members : goal.returns-clause-members
returns-clause-members c ps h =
    let one = c.split_at.ensures in let two = c.split_at-2.ensures in
    pairs_of_object one.front one.back two.front two.back one.front_len two.front_len _
    c.keys_len.ensures ps h _ _ c.split_at-3.ensures.front c.split_at-3.ensures.back

pub invariant_of-result : goal.invariant_of-result
invariant_of-result c =
    let one = c.split_at.ensures in let two = c.split_at-2.ensures in
    let (ps, h) = known_object _ _ c.args.self.fact in
    let are =
    pairs_of_object one.front one.back two.front two.back one.front_len two.front_len _
    c.keys_len.ensures ps h _ _ c.split_at-3.ensures.front c.split_at-3.ensures.back in
    record { fact = merely (keys_of ps, children_of_keys ps _ _ are.1.0) }

pub invariant_of-result-2 : goal.invariant_of-result-2
invariant_of-result-2 c =
    let one = c.split_at.ensures in let two = c.split_at-2.ensures in
    let (ps, h) = known_object _ _ c.args.self.fact in
    let are =
    pairs_of_object one.front one.back two.front two.back one.front_len two.front_len _
    c.keys_len.ensures ps h _ _ c.split_at-3.ensures.front c.split_at-3.ensures.back in
    record { fact = merely (values_of ps, children_of_values ps _ _ are.1.1) }

pub invariant_of-result-3 : goal.invariant_of-result-3
invariant_of-result-3 c =
    let one = c.split_at.ensures in let two = c.split_at-2.ensures in
    let (ps, h) = known_object _ _ c.args.self.fact in
    let are =
    pairs_of_object one.front one.back two.front two.back one.front_len two.front_len _
    c.keys_len.ensures ps h _ _ c.split_at-3.ensures.front c.split_at-3.ensures.back in
    record { fact = merely (ps, are) }
