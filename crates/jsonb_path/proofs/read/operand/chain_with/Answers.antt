use Rattle.std.proofs.Common.{rules, ◌≡◌, ◌++◌, ◌∷◌, ◌∙◌, [], IsTrue, ap, arith, subst, sym}
use Rattle.std.specs.List.{list_all}
use Rattle.jsonb_path.specs.PathParts.{is_accessor, is_source}
use Rattle.jsonb_path.specs.PathTree.{accessors_of, expression, primary_of}
use Rattle.jsonb_path.specs.Syntax.{chain}
use Rattle.jsonb_path.proofs.GrowthLaws.{accessors_onto, all_onto, both_true}
use Rattle.jsonb_path.proofs.read.operand.chain_with.Goals as goal

pub returns-clause-node : goal.returns-clause-node
returns-clause-node c = λ nodes.
    let pushed : c.push.new.self.items ≡ c.args.accessors.items ++ (c.args.accessor ∷ []) =
    first_of (search rules, grind arith) in
    ap (λ steps. expression (chain (primary_of nodes c.args.source) steps))
    (ap (accessors_of nodes) pushed
    ∙ accessors_onto nodes c.args.accessors.items c.args.accessor)

pub returns-clause-part : goal.returns-clause-part
returns-clause-part c = λ ps s all one.
    let pushed : c.push.new.self.items ≡ c.args.accessors.items ++ (c.args.accessor ∷ []) =
    first_of (search rules, grind arith) in
    both_true (is_source ps c.args.source) (list_all (is_accessor ps) c.push.new.self.items) s
    (subst (λ steps. IsTrue (list_all (is_accessor ps) steps)) (sym pushed)
    (all_onto (is_accessor ps) c.args.accessors.items c.args.accessor all one))
