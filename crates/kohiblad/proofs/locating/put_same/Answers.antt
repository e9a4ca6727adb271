use Rattle.std.proofs.Common.{◌≡◌, ◌+◌, ℕ, List, Bor, arith, drop, refl}
use Rattle.kohiblad.proofs.LocatingLaws.{cut_at, none_put, one_more_put}
use Rattle.kohiblad.proofs.locating.put_same.Goals as goal

pub loop-init : goal.loop-init
loop-init c = none_put _ c.args.names.now c.args.at c.args.places.now

pub loop-preserved : goal.loop-preserved
loop-preserved c =
    let names = c.args.names.now in
    let i = c.loop.index in
    let cut = cut_at names i (omega (arith, c.loop-test.true)) in
    one_more_put (λ (name : Bor (List ℕ)) one. one ≡ c.args.place) names (drop i names)
    (drop (i + 1) names) cut.0 c.args.at c.loop.number c.args.places.now c.loop.places c.args.place
    c.loop.invariant cut.1 refl c.requires
