use Rattle.std.proofs.Common.{arith}
use Rattle.jsonb_functions.proofs.ScalarLaws.{appended_scalar, scalar_weighed}
use Rattle.jsonb_functions.proofs.scalars.keep_scalar.Goals as goal

pub returns-in-Ok : goal.returns-in-Ok
returns-in-Ok c = record {
  kept = λ ts rest h. appended_scalar ts rest c.args.list.now.items c.push.new.self.items
      c.args.item c.in-Ok.ensures.items h;
  cost = omega (
    arith,
    c.in_ok-take.ensures,
    c.cost_of.ensures,
    scalar_weighed c.args.item c.in_default.not-Container,
  );
}
