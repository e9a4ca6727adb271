use Rattle.std.proofs.Common.{◌≡◌, ◌∙◌, ap, arith, map, refl, subst, sym}
use Rattle.std.proofs.lemmas.List.{with_items_is}
use Rattle.std.specs.Vec.{with_items}
use Rattle.jsonb.specs.Document.{document_bytes, document_tree}
use Rattle.jsonb_codec.specs.Doc.{IsDocument}
use Rattle.kohiblad_shell.specs.Groups.{HoldDocuments, kept_group, with_entry}
use Rattle.kohiblad_shell.specs.Totals.{with_amounts}
use Rattle.kohiblad_shell.proofs.GroupLaws.{hold_more, hold_set, row_begins, row_joins}
use Rattle.kohiblad_shell.proofs.groups.Groups.add.Goals as goal

pub returns-in-Some-clause-ok : goal.returns-in-Some-clause-ok
returns-in-Some-clause-ok c =
    let bytes = document_bytes c.args.document in
    row_joins c.args.key bytes c.args.amounts.now c.self.inside.kept.entries c.in-Some.index
    c.index_mut.result.now
    (record {
      first = c.index_mut.result.now.first;
      totals = with_items c.index_mut.result.now.totals c.add_amounts.new.totals;
    })
    (sym c.in-Some.ensures.index) c.index_mut.ensures.value refl
    (with_items_is c.index_mut.result.now.totals c.add_amounts.new.totals (omega arith)
    ∙ c.add_amounts.ensures
    ∙ ap (λ totals. with_amounts totals c.args.amounts.now) c.deref_mut.ensures.value)
    ∙ ap (λ groups. with_entry c.args.key.items bytes c.args.amounts.now groups) c.self.view_is

pub returns-in_ok-insert-in-None-clause-ok : goal.returns-in_ok-insert-in-None-clause-ok
returns-in_ok-insert-in-None-clause-ok c =
    let bytes = document_bytes c.args.document in
    ap (map kept_group) c.in_ok-insert-in-None.ensures.entries
    ∙ row_begins c.args.key bytes c.args.amounts.now c.self.inside.kept.entries
    c.in_ok-group-in-None.group
    (sym c.in-None.ensures.found) (c.in_ok-group-in-None.ensures.first ∙ c.as_bytes.ensures.bytes)
    c.in_ok-group-in-None.ensures.totals
    ∙ ap (λ groups. with_entry c.args.key.items bytes c.args.amounts.now groups) c.self.view_is

pub invariant_of-self : goal.invariant_of-self
invariant_of-self c =
    hold_set c.self.inside.kept.entries c.in-Some.index c.index_mut.result.now
    (record {
      first = c.index_mut.result.now.first;
      totals = with_items c.index_mut.result.now.totals c.add_amounts.new.totals;
    })
    c.index_mut.ensures.value refl c.self.invariant

pub invariant_of-self-in-None : goal.invariant_of-self-in-None
invariant_of-self-in-None c =
    let bytes = document_bytes c.args.document in
    let groups = map kept_group c.self.inside.kept.entries in
    let made : map kept_group c.insert.new.self.entries
    ≡ with_entry c.args.key.items bytes c.args.amounts.now groups =
    ap (map kept_group) c.in_ok-insert-in-None.ensures.entries
    ∙ row_begins c.args.key bytes c.args.amounts.now c.self.inside.kept.entries
    c.in_ok-group-in-None.group
    (sym c.in-None.ensures.found) (c.in_ok-group-in-None.ensures.first ∙ c.as_bytes.ensures.bytes)
    c.in_ok-group-in-None.ensures.totals in
    subst HoldDocuments (sym made)
    (hold_more c.args.key.items bytes c.args.amounts.now groups
    (subst IsDocument c.as_bytes.ensures.bytes
    (document_tree c.args.document, c.as_bytes.ensures.document)) c.self.invariant)
