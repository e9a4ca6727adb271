use Rattle.std.proofs.Common.{refl}
use Rattle.jsonb.specs.ItemView.{pair_view}
use Rattle.jsonb.specs.Raw.{raw_bytes}
use Rattle.jsonb.specs.DocumentWalk.{WalksPairs, WalksMembers}
use Rattle.uses.proofs.WholeWalks.{whole_walk, only_memory, WalksPairs-all}
use Rattle.uses.proofs.composition.walks.object_pairs.Goals as goal

pub returns-clause-all : goal.returns-clause-all
returns-clause-all c = λ t h.
    let walks = rw c.in-Some.is at c.in_ok-walk.ensures.document t h in
    whole_walk pair_view (WalksPairs t) (WalksPairs-all t _ walks) walks c.in_ok-pairs.ensures.ran

pub returns-clause-entries : goal.returns-clause-entries
returns-clause-entries c = λ t h.
    let walks = rw c.in-Some.is at c.in_ok-walk.ensures.document t h in
    whole_walk pair_view (WalksMembers (raw_bytes c.args.raw) t) (WalksPairs-all t _ walks)
    (rw c.in-Some.is at c.in_ok-walk.ensures.entries t h) c.in_ok-pairs.ensures.ran

pub returns-in_err-pairs-clause-memory : goal.returns-in_err-pairs-clause-memory
returns-in_err-pairs-clause-memory c = λ t h.
    let walks = rw c.in-Some.is at c.in_ok-walk.ensures.document t h in
    only_memory pair_view (λ e. refl) _ (WalksPairs-all t _ walks) c.in_err-pairs.ensures.err
    c.from_residual-in_err-pairs.ensures.1
