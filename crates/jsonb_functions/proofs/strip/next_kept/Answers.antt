use Rattle.std.proofs.Common.{arith, sym, ◌∙◌}
use Rattle.jsonb_functions.proofs.StripLaws.{kept_first, left_out}
use Rattle.jsonb_functions.proofs.strip.next_kept.Goals as goal

pub returns-then-member-ne-NULL_TAG-clause-first :
    goal.returns-then-member-ne-NULL_TAG-clause-first
returns-then-member-ne-NULL_TAG-clause-first c ps h =
    let (qs, (are, same)) = c.loop-member.invariant.same ps h in
    let f = c.in-Some.ensures.first qs are in record {
      first = f.value;
      others = f.others;
      are = same ∙ kept_first qs f.others c.in-Some.member.key.now f.value f.are
          (λ e. c.if-member-ne-NULL_TAG.true (sym f.is.0 ∙ e));
      is = f.is;
      left = f.left;
    }

pub loop-member-preserved : goal.loop-member-preserved
loop-member-preserved c = record {
  same = λ ps h.
      let (qs, (are, same)) = c.loop-member.invariant.same ps h in
      let f = c.in-Some.ensures.first qs are in (
        f.others,
        (
          f.left,
          same ∙ left_out qs f.others c.in-Some.member.key.now f.value f.are
              (f.is.0 ∙ c.if-member-ne-NULL_TAG.false),
        ),
      );
  size = omega (
    arith,
    c.loop-member.invariant.size,
    c.in-Some.ensures.values_len,
    c.in-Some.ensures.entries_len,
  );
}
