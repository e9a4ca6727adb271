use Rattle.std.proofs.Common.{◌≡◌, false, refl, sym, subst, true, ap, ◌∙◌, arith}
use Rattle.jsonb_value.specs.Tree.{pair_count}
use Rattle.jsonb_codec.specs.Parts.{IsObject}
use Rattle.jsonb_codec.proofs.Unique.{pairs_unique}
use Rattle.jsonb_functions.specs.declared.edit.EditedMembers.{EditedMembers}
use Rattle.jsonb_functions.specs.EditSource.{edited_along, here_at, here_of, operation_of}
use Rattle.jsonb_functions.proofs.EditLaws.{few_pairs, key_edited, members_count, pairs_left}
use Rattle.jsonb_functions.proofs.edit.edited_object.Goals as goal

pub returns-in_default : goal.returns-in_default
returns-in_default c = record {
  is = λ ps are. subst (λ qs. IsObject c.args.object.count c.args.object.body.now qs)
      (pairs_left c.args.step c.args.later.path.now (operation_of c.args.later.change.now)
      (λ t. edited_along c.args.later t) ps c.in_default.not-Key) are;
  size = omega arith;
}

pub count_after-requires : goal.count_after-requires
count_after-requires c = few_pairs c.args.object

pub returns-clause-is : goal.returns-clause-is
returns-clause-is c ps object =
    let are = c.members-members.ensures.members ps object in
    let place = c.position_of_key-position.ensures ps are in
    let operation = operation_of c.args.later.change.now in
    let what : here_of c.what_at-what.result
    ≡ here_at false c.position_of_key-position.result.is_there true c.args.later.path.now operation
    (λ t. edited_along c.args.later t) = c.what_at-what.ensures.what in
    let x : EditedMembers = record {
      members = c.members-members.result;
      before = c.position_of_key-position.result.before;
      key = c.in-Key.key;
      what = c.what_at-what.result;
    } in
    let means = key_edited x c.in-Key.key c.args.step c.args.later.path.now operation
    (λ t. edited_along c.args.later t) ps c.in-Key.is are refl (ap (λ p. p.0) place)
    (rw (ap (λ p. p.1) place) at what) in (
      means,
      c.count_after.ensures ∙ members_count x c.args.object.count _ means
          (λ qs h. sym object.0 ∙ ap pair_count (pairs_unique ps qs _ _ _ _ are h)),
    )
