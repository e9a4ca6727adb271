use Rattle.std.proofs.Common.{refl}
use Rattle.jsonb.specs.ItemView.{result_view}
use Rattle.jsonb.specs.DocumentWalk.{WalksKeys}
use Rattle.uses.proofs.WholeWalks.{whole_walk, only_memory, WalksKeys-all}
use Rattle.uses.proofs.composition.walks.object_keys.Goals as goal

pub returns-clause-all : goal.returns-clause-all
returns-clause-all c = λ t h.
    let walks = rw c.in-Some.is at c.in_ok-walk.ensures.document t h in
    whole_walk result_view (WalksKeys t) (WalksKeys-all t _ walks) walks c.in_ok-keys.ensures.ran

pub returns-in_err-keys-clause-memory : goal.returns-in_err-keys-clause-memory
returns-in_err-keys-clause-memory c = λ t h.
    let walks = rw c.in-Some.is at c.in_ok-walk.ensures.document t h in
    only_memory result_view (λ e. refl) _ (WalksKeys-all t _ walks) c.in_err-keys.ensures.err
    c.from_residual-in_err-keys.ensures.1
