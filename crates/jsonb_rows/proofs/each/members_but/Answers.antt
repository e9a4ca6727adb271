use Rattle.std.proofs.Common.{rules, ◌≡◌, ◌∙◌, None, ap}
use Rattle.std.specs.Prelude.{nat_eq, string_cmp}
use Rattle.std.specs.BTreeMap.{IsFromIterResult}
use Rattle.std.specs.Cmp.Lexicographic.{pointwise}
use Rattle.jsonb_rows.specs.Each.{child_if}
use Rattle.jsonb_rows.proofs.EachLaws.{members_end, members_more}
use Rattle.jsonb_rows.proofs.each.members_but.Goals as goal

pub loop-member-preserved : goal.loop-member-preserved
loop-member-preserved c ps are =
    let (us, (whole, left)) = c.loop-member.invariant ps are in
    let f = c.in-Some.ensures.first us left in
    let is : c.eq.result ≡ pointwise nat_eq c.args.name.now c.in-Some.member.key.now =
    search rules in (
      f.others,
      (
        members_more (pointwise nat_eq c.args.name.now) (λ t. None) _ _ c.in_ok-child.child whole
            f.are (c.in_ok-child.ensures.ok f.value f.is
            ∙ ap (λ b. child_if b (λ t. None) f.value) is) c.in_ok-push_member.ensures.ok,
        f.left,
      ),
    )

pub returns-clause-ok : goal.returns-clause-ok
returns-clause-ok c ps are =
    let (us, (whole, left)) = c.loop-member.invariant ps are in
    let es = c.loop-member.pairs.items in
    let made : IsFromIterResult string_cmp es c.in_ok-collect.field-0 = search rules in
    members_end (pointwise nat_eq c.args.name.now) (λ t. None) es c.in_ok-collect.field-0 ps us
    are.0 whole (c.in_default.ensures.none us left) made
