use Rattle.std.proofs.Common.{rules, ◌≡◌, ◌<◌, Err, arith, length}
use Rattle.std.specs.Prelude.{string_bytes}
use Rattle.jsonb.specs.Document.{document_tree}
use Rattle.kohiblad_shell.specs.Templates.{template_values}
use Rattle.kohiblad_shell.proofs.TemplateLaws.{items_more, items_stop, members_more, members_stop}
use Rattle.kohiblad_shell.proofs.TemplateLaws.{next_left}
use Rattle.kohiblad_shell.proofs.template.+template.Goals as goal

pub items_of-loop-item-preserved : goal.items_of-loop-item-preserved
items_of-loop-item-preserved t c =
    let i = c.loop-item.item-index in
    let low : i < length c.deref-item-items.result.now = omega arith in
    let at = next_left c.deref-item-items.result.now c.args.items.now.items i c.item-item.result
    c.deref-item-items.ensures.value low c.item-item.is in
    items_more (template_values (document_tree c.args.document)) c.args.items.now.items i
    c.item-item.result c.loop-item.values.items c.in_ok-more.more.items c.append.new.self.items at
    c.in_ok-more.ensures c.in_ok-append.ensures.items c.loop-item.invariant

pub items_of-returns-in_err-more : goal.items_of-returns-in_err-more
items_of-returns-in_err-more t c =
    let i = c.loop-item.item-index in
    let low : i < length c.deref-item-items.result.now = omega arith in
    let at = next_left c.deref-item-items.result.now c.args.items.now.items i c.item-item.result
    c.deref-item-items.ensures.value low c.item-item.is in
    let is : c.from_residual.result ≡ Err c.in_err-more.field-0.0 = search rules in
    rw is
    (items_stop (template_values (document_tree c.args.document)) c.args.items.now.items i
    c.item-item.result c.loop-item.values.items c.in_err-more.field-0.0 at c.in_err-more.ensures
    c.loop-item.invariant)

pub members_of-loop-name-preserved : goal.members_of-loop-name-preserved
members_of-loop-name-preserved t c =
    let i = c.loop-name.name-index in
    let low : i < length c.deref-name-items.result.now = omega arith in
    let at = next_left c.deref-name-items.result.now c.args.members.now.items i
    c.loop-name-item.result c.deref-name-items.ensures.value low c.loop-name-item.is in
    let key : string_bytes c.in_ok-key.key ≡ string_bytes c.loop-name-item.result.0 =
    search rules in
    members_more (template_values (document_tree c.args.document)) c.args.members.now.items i
    c.loop-name-item.result c.in_ok-key.key c.in_ok-value.value c.loop-name.made.entries
    c.insert_member.new.members.entries at key c.in_ok-value.ensures
    c.in_ok-insert_member.ensures.ok c.loop-name.invariant

pub members_of-returns-in_err-value : goal.members_of-returns-in_err-value
members_of-returns-in_err-value t c =
    let i = c.loop-name.name-index in
    let low : i < length c.deref-name-items.result.now = omega arith in
    let at = next_left c.deref-name-items.result.now c.args.members.now.items i
    c.loop-name-item.result c.deref-name-items.ensures.value low c.loop-name-item.is in
    let is : c.from_residual.result ≡ Err c.in_err-value.field-0.0 = search rules in
    rw is
    (members_stop (template_values (document_tree c.args.document)) c.args.members.now.items i
    c.loop-name-item.result c.loop-name.made.entries c.in_err-value.field-0.0 at
    c.in_err-value.ensures c.loop-name.invariant)
