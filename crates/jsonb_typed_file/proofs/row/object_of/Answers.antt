use Rattle.std.proofs.Common.{◌≡◌, refl, Err, rules}
use Rattle.jsonb_value.specs.Tree.{object}
use Rattle.jsonb_codec.specs.Canon.{pairs_shapes, shape_of}
use Rattle.jsonb_codec.proofs.Encoding.{limits}
use Rattle.jsonb_codec.proofs.MadeLaws.{made_ok, made_passed_on}
use Rattle.jsonb_typed_file.specs.ValueViews.{members_view}
use Rattle.jsonb_typed_file.proofs.RowLaws.{are_stored, members_mean}
use Rattle.jsonb_typed_file.proofs.row.object_of.Goals as goal

pub append_document-requires : goal.append_document-requires
append_document-requires c =
    let ps = members_view c.args.members.now.entries in
    (shape_of (object ps), (pairs_shapes ps, (refl, are_stored c.args.members.now.entries)))

pub returns-in_err-append_document-clause-limits :
    goal.returns-in_err-append_document-clause-limits
returns-in_err-append_document-clause-limits c =
    let es = c.args.members.now.entries in
    let a = c.append_document in
    let e = c.in_err-append_document.field-0.0 in
    let handed : c.from_residual.result ≡ Err e = search rules in
    let refused : a.result ≡ Err e = search rules in
    made_passed_on _ _ e handed refused (λ fits. fits, λ fits. fits)
    (limits _ (object (members_view es)) (pairs_shapes (members_view es), (refl, are_stored es))
    a.result _ _ a.ensures.appended a.ensures.past a.ensures.memory a.ensures.only)

pub returns-clause-canonical : goal.returns-clause-canonical
returns-clause-canonical c =
    let es = c.args.members.now.entries in
    let (fits, made) = c.in_ok-append_document.ensures.appended
    (shape_of (object (members_view es)))
    (pairs_shapes (members_view es), (refl, are_stored es)) in
    rw (c.new.ensures, made, c.new-bytes.ensures.items) refl

pub returns-clause-means : goal.returns-clause-means
returns-clause-means c =
    let es = c.args.members.now.entries in
    let (fits, made) = c.in_ok-append_document.ensures.appended
    (shape_of (object (members_view es)))
    (pairs_shapes (members_view es), (refl, are_stored es)) in
    members_mean es _ c.requires c.in_ok-append_document.ensures.held fits
    (returns-clause-canonical c)

pub returns-clause-limits : goal.returns-clause-limits
returns-clause-limits c =
    let es = c.args.members.now.entries in
    made_ok c.new.result
    (c.in_ok-append_document.ensures.appended (shape_of (object (members_view es)))
    (pairs_shapes (members_view es), (refl, are_stored es))).0
