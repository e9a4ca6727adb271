use Rattle.std.proofs.Common.{◌-◌, rules}
use Rattle.jsonb.proofs.Classes.{shown_count_of_set}
use Rattle.jsonb.proofs.builder.distinct.ArrayDistinctBuilder.pop_jsonb_item.Goals as goal

pub returns-clause-counts : goal.returns-clause-counts
returns-clause-counts c =
    shown_count_of_set c.args.self.now c.self.inside.counts.entries _ _ _
    (search rules) c.in-Ok.ensures.set (λ n. n - 1) (search rules)
