use Rattle.std.proofs.Common.{◌≡◌, ◌-◌, None, Some, slice_get, refl, sym, ap, ◌∙◌, arith}
use Rattle.jsonb.specs.Entries.{entries_of}
use Rattle.jsonb.specs.EntryTrees.{entry_of_part, rest_trees}
use Rattle.jsonb.proofs.EntryTreeLaws.{entry_tree-node, item_entry}
use Rattle.jsonb.proofs.nodes.Items.item_at.Goals as goal

pub returns-clause-tree : goal.returns-clause-tree
returns-clause-tree c =
    let i = c.loop.invariant in
    let all : c.args.index - c.loop.counter ≡ 0 = omega (arith, c.loop-test.false, i.few) in
    sym (
    i.same
    ∙ ap (slice_get (rest_trees (entries_of c.loop.entries))) all
    ∙ ap (λ xs. slice_get (rest_trees xs) 0) c.in_ok-part.ensures.steps
    ∙ ap Some (entry_tree-node c.in_ok-part.part c.of_part.result c.of_part.ensures.means)
    )

-- The entry there.
pub returns-clause-entry : goal.returns-clause-entry
returns-clause-entry c = λ entries are.
    let i = c.loop.invariant in
    let all : c.args.index - c.loop.counter ≡ 0 = omega (arith, c.loop-test.false, i.few) in
    let found = Some (entry_of_part c.in_ok-part.part) in
    item_entry entries c.args.self c.args.index found (Some _) are
    (i.read ∙ ap (slice_get (entries_of c.loop.entries)) all
    ∙ ap (λ xs. slice_get xs 0) c.in_ok-part.ensures.steps)
    (ap (λ x. Some x) c.of_part.ensures.item)

-- There is none.
pub returns-in_err-next_part-clause-entry : goal.returns-in_err-next_part-clause-entry
returns-in_err-next_part-clause-entry c = λ entries are.
    let i = c.loop.invariant in
    rw c.from_residual.ensures
    (item_entry entries c.args.self c.args.index None None are
    (i.read ∙ ap (λ xs. slice_get xs (c.args.index - c.loop.counter))
    c.in_err-next_part.ensures.steps.0) refl)

pub returns-in_err-part-clause-entry : goal.returns-in_err-part-clause-entry
returns-in_err-part-clause-entry c = λ entries are.
    let i = c.loop.invariant in
    rw c.from_residual-in_err-part.ensures
    (item_entry entries c.args.self c.args.index None None are
    (i.read ∙ ap (λ xs. slice_get xs (c.args.index - c.loop.counter))
    c.in_err-part.ensures.steps.0) refl)
