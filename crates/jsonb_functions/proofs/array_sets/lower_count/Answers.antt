use Rattle.std.proofs.Common.{sym, ◌∙◌}
use Rattle.jsonb_functions.proofs.ArraySetLaws.{none_left, none_set}
use Rattle.jsonb_functions.proofs.array_sets.lower_count.Goals as goal

pub returns-in_default-clause-lowered : goal.returns-in_default-clause-lowered
returns-in_default-clause-lowered c =
    none_set c.args.counts.now.entries c.args.node
    (sym c.count_of.ensures ∙ none_left c.count_of.result c.in_default.ensures)
