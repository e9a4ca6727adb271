use Rattle.std.proofs.Common.{refl}
use Rattle.jsonb.specs.ItemView.{result_view}
use Rattle.jsonb.specs.Raw.{raw_bytes}
use Rattle.jsonb.specs.DocumentWalk.{WalksValues, WalksValueItems}
use Rattle.uses.proofs.WholeWalks.{whole_walk, only_memory, WalksValues-all}
use Rattle.uses.proofs.composition.walks.object_values.Goals as goal

pub returns-clause-all : goal.returns-clause-all
returns-clause-all c = λ t h.
    let walks = rw c.in-Some.is at c.in_ok-walk.ensures.document t h in
    whole_walk result_view (WalksValues t) (WalksValues-all t _ walks) walks
    c.in_ok-values.ensures.ran

pub returns-clause-entries : goal.returns-clause-entries
returns-clause-entries c = λ t h.
    let walks = rw c.in-Some.is at c.in_ok-walk.ensures.document t h in
    whole_walk result_view (WalksValueItems (raw_bytes c.args.raw) t) (WalksValues-all t _ walks)
    (rw c.in-Some.is at c.in_ok-walk.ensures.entries t h) c.in_ok-values.ensures.ran

pub returns-in_err-values-clause-memory : goal.returns-in_err-values-clause-memory
returns-in_err-values-clause-memory c = λ t h.
    let walks = rw c.in-Some.is at c.in_ok-walk.ensures.document t h in
    only_memory result_view (λ e. refl) _ (WalksValues-all t _ walks) c.in_err-values.ensures.err
    c.from_residual-in_err-values.ensures.1
