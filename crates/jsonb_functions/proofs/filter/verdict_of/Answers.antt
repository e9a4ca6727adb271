use Rattle.std.proofs.Common.{sym, ap, ◌∙◌, ◌∷◌, ◌-◌, [], arith, length, length-append, take}
use Rattle.jsonb.specs.Node.{node_tree}
use Rattle.jsonb_functions.specs.Filter.{verdict_before}
use Rattle.jsonb_functions.proofs.ConditionLaws.{last_first, last_split, one_deeper}
use Rattle.jsonb_functions.proofs.filter.verdict_of.Goals as goal

pub loop-left-preserved : goal.loop-left-preserved
loop-left-preserved c =
    let t = node_tree c.args.node in
    let v = c.loop-left.verdict in
    let left = c.loop-left.left.now in
    let rest = take (length left - 1) left in
    let term = c.term-item.result in
    let split = last_split left term c.in-len1-up.len_at_least (sym c.term-item.is) in record {
      same = c.loop-left.invariant.same ∙ ap (λ xs. verdict_before t v xs) split
          ∙ last_first t v rest term
          ∙ ap (λ x. verdict_before t x rest) (sym c.after_term-verdict.ensures);
      deep = omega (
        arith,
        c.loop-left.invariant.deep,
        one_deeper t term v,
        ap (λ x. x.passing) c.after_term-verdict.ensures,
        ap length split,
        length-append rest (term ∷ []),
      );
    }
