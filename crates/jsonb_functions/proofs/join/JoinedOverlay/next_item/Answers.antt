use Rattle.std.proofs.Common.{refl, ap, ◌∙◌}
use Rattle.jsonb_value.specs.Tree.{no_trees}
use Rattle.jsonb_functions.specs.Joined.{append_trees}
use Rattle.jsonb_functions.proofs.join.JoinedOverlay.next_item.Goals as goal

pub returns-in-Some-clause-first : goal.returns-in-Some-clause-first
returns-in-Some-clause-first c ts ((us, vs), (h, e)) =
    let f = c.in-Some.ensures.first us h.0 in
    record {
      first = f.first;
      others = append_trees f.others vs;
      are = e ∙ ap (λ y. append_trees y vs) f.are;
      is = f.is;
      left = ((f.others, vs), ((f.later, h.1), refl));
    }

pub returns-in_err-part-clause-first : goal.returns-in_err-part-clause-first
returns-in_err-part-clause-first c ts ((us, vs), (h, e)) =
    rw c.from_residual.ensures (e ∙ ap (λ y. append_trees y vs) (c.in_default.ensures.first us h.0)
    ∙ c.in_err-part.ensures.first vs h.1)

pub returns-clause-first : goal.returns-clause-first
returns-clause-first c ts ((us, vs), (h, e)) =
    let f = c.in_ok-part.ensures.first vs h.1 in
    record {
      first = f.first;
      others = f.others;
      are = e ∙ ap (λ y. append_trees y vs) (c.in_default.ensures.first us h.0) ∙ f.are;
      is = f.is;
      left = ((no_trees, f.others), ((refl, f.later), refl));
    }
