use Rattle.std.proofs.Common.{ap, arith, refl, rules, true}
use Rattle.jsonb.specs.Node.{node_tree}
use Rattle.jsonb_functions.proofs.ContainLaws.{sorted_found, too_few}
use Rattle.jsonb_functions.proofs.ScalarLaws.{searched}
use Rattle.jsonb_functions.proofs.WalkLaws.{scalar_type}
use Rattle.jsonb_functions.proofs.scalars.Scalars.has.Goals as goal

pub returns : goal.returns
returns c ts work h =
    let is = sorted_found (node_tree c.args.wanted) work ts true refl
    (scalar_type c.args.wanted c.requires) in (
      searched ts c.args.self.now c.args.wanted c.binary_search.result c.is_ok.result c.requires h
          (rw c.deref.ensures.value at c.binary_search.ensures.bound)
          (rw c.deref.ensures.value at c.binary_search.ensures.position) c.is_ok.ensures.value,
      omega (arith, c.in_ok-take.ensures, c.cost_of.ensures, ap (λ w. w.steps) is),
    )

pub returns-in_err-take : goal.returns-in_err-take
returns-in_err-take c ts work h =
    let is = sorted_found (node_tree c.args.wanted) work ts true refl
    (scalar_type c.args.wanted c.requires) in
    too_few _ _ _ _ c.args.steps.now _ (search rules) c.in_err-take.ensures.0
    (omega (arith, c.in_err-take.ensures.1, c.cost_of.ensures, ap (λ w. w.steps) is))
