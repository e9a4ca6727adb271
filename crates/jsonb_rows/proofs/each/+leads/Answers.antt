use Rattle.std.proofs.Common.{rules, ◌∙◌, arith}
use Rattle.jsonb_value.specs.Tree.{count}
use Rattle.jsonb_rows.specs.Each.{leads}
use Rattle.jsonb_rows.specs.Reach.{leads_to_item, leads_to_member}
use Rattle.jsonb_rows.proofs.EachLaws.{item_on}
use Rattle.jsonb_rows.proofs.EachLaws.{member_on}
use Rattle.jsonb_rows.proofs.each.+leads.Goals as goal

pub some_item-loop-child-preserved : goal.some_item-loop-child-preserved
some_item-loop-child-preserved t c =
    let l = c.loop-child in let k = c.in-Some.ensures in record {
      left = λ ts are.
          let (us, (whole, left)) = l.invariant.left ts are in
          let first = k.first us left in (
            first.others,
            (
              whole ∙ item_on (leads_to_item c.args.step.now (count ts)) (leads c.args.rest.now)
                  l.index us first.others first.first first.are (search rules),
              first.later,
            ),
          );
      place = omega (arith, k.entries_len, l.invariant.place);
    }

pub some_member-loop-member-preserved : goal.some_member-loop-member-preserved
some_member-loop-member-preserved t c ps are =
    let (us, (whole, left)) = c.loop-member.invariant ps are in
    let first = c.in-Some.ensures.first us left in (
      first.others,
      (
        whole ∙ member_on (leads_to_member c.args.step.now) (leads c.args.rest.now) us
            first.others c.in-Some.member.key.now first.value first.are (search rules),
        first.left,
      ),
    )
