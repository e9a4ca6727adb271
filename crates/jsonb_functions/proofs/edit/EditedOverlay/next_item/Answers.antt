use Rattle.std.proofs.Common.{◌≡◌, ◌-◌, ap, arith, refl, ◌∙◌}
use Rattle.jsonb_functions.specs.EditSource.{done_after, here_of}
use Rattle.jsonb_functions.proofs.EditLaws.{none_after, one_after, one_within}
use Rattle.jsonb_functions.proofs.edit.EditedOverlay.next_item.Goals as goal

pub returns-in_err-part-clause-first : goal.returns-in_err-part-clause-first
returns-in_err-part-clause-first c ts (us, ((are, within), e)) =
    rw c.from_residual.ensures (e ∙ none_after (here_of c.args.items.what) c.args.items.before us
    c.if-items-gt0.true (c.in_err-part.ensures.none us are))

pub returns-then-items-gt0-clause-first : goal.returns-then-items-gt0-clause-first
returns-then-items-gt0-clause-first c ts (us, ((are, within), e)) =
    let x = c.args.items in
    let f = c.in_ok-part.ensures.first us are in
    let some = c.if-items-gt0.true in
    record {
      first = f.first;
      others = done_after (here_of x.what) (x.before - 1) f.others;
      are = e ∙ one_after (here_of x.what) x.before us f.others f.first some f.are;
      is = f.is;
      left = (
        f.others,
        (
          (f.later, one_within (here_of x.what) x.before us f.others f.first some f.are within),
          refl,
        ),
      );
    }

pub returns-in_err-child-clause-first : goal.returns-in_err-child-clause-first
returns-in_err-child-clause-first c ts (us, ((are, within), e)) =
    let x = c.args.items in
    let here : x.before ≡ 0 = omega (arith, c.if-items-gt0.false) in
    rw c.from_residual-in_err-child.ensures (e
    ∙ ap (λ n. done_after (here_of x.what) n us) here ∙ c.in_err-child.ensures.first us are)

pub returns-clause-first : goal.returns-clause-first
returns-clause-first c ts (us, ((are, within), e)) =
    let x = c.args.items in
    let f = c.in_ok-child.ensures.first us are in
    let here : x.before ≡ 0 = omega (arith, c.if-items-gt0.false) in
    record {
      first = f.first;
      others = f.others;
      are = e ∙ ap (λ n. done_after (here_of x.what) n us) here ∙ f.are;
      is = f.is;
      left = f.left;
    }
