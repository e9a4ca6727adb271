use Rattle.std.proofs.Common.{rules, ◌<◌, map, length, refl}
use Rattle.kohiblad.proofs.TypedWritingLaws.{more_types_left, names_later, no_type_left}
use Rattle.kohiblad.proofs.TypedWritingLaws.{one_more_planned}
use Rattle.kohiblad.proofs.typed_writing.plans_of.Goals as goal

pub loop-left-preserved : goal.loop-left-preserved
loop-left-preserved c =
    one_more_planned (map (λ name. name.now) c.args.names.now) c.args.types.now
    (map (λ name. name.now) c.loop-left.left.now) _ _ c.loop-left.types.now
    c.in-Some.others.now c.loop-left.plans.items c.push.new.self.items _ c.loop-left.invariant
    (c.in_ok-push.ensures).items
    (names_later c.loop-left.left.now _ c.in-len1-up.len_at_least) c.in-Some.ensures refl

pub returns-in_default-split_type : goal.returns-in_default-split_type
returns-in_default-split_type c =
    no_type_left (map (λ name. name.now) c.args.names.now) c.args.types.now c.loop-left.left.now
    c.loop-left.types.now c.loop-left.plans.items c.in-len1-up.len_at_least c.loop-left.invariant
    c.in_default-split_type.ensures

pub returns : goal.returns
returns c =
    let some : 0 < length c.loop-left.types.now = search rules in
    more_types_left (map (λ name. name.now) c.args.names.now) c.args.types.now
    c.loop-left.left.now c.loop-left.types.now c.loop-left.plans.items c.in_default.len_below
    c.loop-left.invariant some
