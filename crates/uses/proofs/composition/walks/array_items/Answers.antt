use Rattle.std.proofs.Common.{refl}
use Rattle.jsonb.specs.ItemView.{result_view}
use Rattle.jsonb.specs.Raw.{raw_bytes}
use Rattle.jsonb.specs.DocumentWalk.{WalksArray, WalksItems}
use Rattle.uses.proofs.WholeWalks.{whole_walk, only_memory, WalksArray-all}
use Rattle.uses.proofs.composition.walks.array_items.Goals as goal

pub returns-clause-all : goal.returns-clause-all
returns-clause-all c = λ t h.
    let walks = rw c.in-Some.is at c.in_ok-walk.ensures.document t h in
    whole_walk result_view (WalksArray t) (WalksArray-all t _ walks) walks c.in_ok-items.ensures.ran

pub returns-clause-entries : goal.returns-clause-entries
returns-clause-entries c = λ t h.
    let walks = rw c.in-Some.is at c.in_ok-walk.ensures.document t h in
    whole_walk result_view (WalksItems (raw_bytes c.args.raw) t) (WalksArray-all t _ walks)
    (rw c.in-Some.is at c.in_ok-walk.ensures.entries t h) c.in_ok-items.ensures.ran

pub returns-in_err-items-clause-memory : goal.returns-in_err-items-clause-memory
returns-in_err-items-clause-memory c = λ t h.
    let walks = rw c.in-Some.is at c.in_ok-walk.ensures.document t h in
    only_memory result_view (λ e. refl) _ (WalksArray-all t _ walks) c.in_err-items.ensures.err
    c.from_residual-in_err-items.ensures.1
