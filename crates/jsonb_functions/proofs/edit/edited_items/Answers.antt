use Rattle.std.proofs.Common.{◌≡◌, refl, subst, true}
use Rattle.jsonb_codec.specs.Contents.{AreChildren}
use Rattle.jsonb_functions.specs.EditSource.{edited_along, here_at, here_of, operation_of}
use Rattle.jsonb_functions.proofs.EditLaws.{items_edited, items_left}
use Rattle.jsonb_functions.proofs.edit.edited_items.Goals as goal

pub returns-in_default-clause-are : goal.returns-in_default-clause-are
returns-in_default-clause-are c ts are =
    let many = c.item_count-count.ensures.count ts are in
    subst (λ us. AreChildren us c.args.items)
    (items_left c.args.step c.args.later.path.now (operation_of c.args.later.change.now)
    (λ t. edited_along c.args.later t) ts (rw many at c.in_default.ensures)) are

pub returns-clause-are : goal.returns-clause-are
returns-clause-are c ts are =
    let many = c.item_count-count.ensures.count ts are in
    let operation = operation_of c.args.later.change.now in
    let what : here_of c.what_at.result ≡ here_at true c.in-Some.position.is_there
    c.is_next.result c.args.later.path.now operation (λ t. edited_along c.args.later t) =
    c.what_at.ensures.what in
    items_edited (record {
      items = c.args.items;
      before = c.in-Some.position.before;
      what = c.what_at.result;
    }) c.args.step c.args.later.path.now operation (λ t. edited_along c.args.later t) ts
    (c.in-Some.position.before, c.in-Some.position.is_there) are
    (rw many at c.in-Some.ensures) refl (rw (rw many at c.is_next.ensures) at what)
