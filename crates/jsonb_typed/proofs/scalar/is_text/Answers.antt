use Rattle.std.proofs.Common.{rules, refl}
use Rattle.jsonb.specs.Node.{node_tree}
use Rattle.jsonb_typed.specs.Types.{IsText}
use Rattle.jsonb_typed.proofs.scalar.is_text.Goals as goal

pub returns-in-String : goal.returns-in-String
returns-in-String c =
    let is : IsText c.in-String.field-0.now (node_tree c.args.member) = search rules in
    (λ e. (c.in-String.field-0.now, is), λ e. refl)
