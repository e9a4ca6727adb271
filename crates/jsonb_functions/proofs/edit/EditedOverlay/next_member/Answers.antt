use Rattle.std.proofs.Common.{◌≡◌, ◌-◌, ap, arith, refl, ◌∙◌}
use Rattle.jsonb_functions.specs.EditSource.{here_of, pairs_done_after}
use Rattle.jsonb_functions.proofs.EditLaws.{no_pair_after, pair_after, pair_within}
use Rattle.jsonb_functions.proofs.edit.EditedOverlay.next_member.Goals as goal

pub returns-in_err-key-clause-first : goal.returns-in_err-key-clause-first
returns-in_err-key-clause-first c ps (qs, ((are, within), e)) =
    let x = c.args.members in
    rw c.from_residual.ensures (e ∙ no_pair_after x.key.now (here_of x.what) x.before qs
    c.if-members-gt0.true (c.in_err-key.ensures.none qs are))

pub returns-then-members-gt0-clause-first : goal.returns-then-members-gt0-clause-first
returns-then-members-gt0-clause-first c ps (qs, ((are, within), e)) =
    let x = c.args.members in
    let key = c.in_ok-key.field-0.key.now in
    let f = c.in_ok-key.ensures.first qs are in
    let some = c.if-members-gt0.true in
    record {
      first = f.value;
      others = pairs_done_after x.key.now (here_of x.what) (x.before - 1) f.others;
      are = e ∙ pair_after x.key.now (here_of x.what) x.before qs f.others key f.value some f.are;
      is = f.is;
      left = (
        f.others,
        (
          (f.left, pair_within (here_of x.what) x.before qs f.others key f.value some f.are within),
          refl,
        ),
      );
    }

pub returns-in_err-key-2-clause-first :
    goal.returns-in_err-key-2-clause-first
returns-in_err-key-2-clause-first c ps (qs, ((are, within), e)) =
    let x = c.args.members in
    let here : x.before ≡ 0 = omega (arith, c.if-members-gt0.false) in
    rw c.from_residual-in_err-key-2.ensures (e
    ∙ ap (λ n. pairs_done_after x.key.now (here_of x.what) n qs) here
    ∙ c.in_err-key-2.ensures.first qs are)

pub returns-clause-first : goal.returns-clause-first
returns-clause-first c ps (qs, ((are, within), e)) =
    let x = c.args.members in
    let f = c.in_ok-key-2.ensures.first qs are in
    let here : x.before ≡ 0 = omega (arith, c.if-members-gt0.false) in
    record {
      first = f.first;
      others = f.others;
      are = e ∙ ap (λ n. pairs_done_after x.key.now (here_of x.what) n qs) here ∙ f.are;
      is = f.is;
      left = f.left;
    }
