use Rattle.std.proofs.Common.{refl}
use Rattle.std.proofs.lemmas.Grind.{merely}
use Rattle.jsonb_value.specs.Tree.{no_trees}
use Rattle.jsonb_functions.proofs.edit.no_items.Goals as goal

pub invariant_of-result : goal.invariant_of-result
invariant_of-result c =
    record { fact = merely (no_trees, record { no_entries = refl; no_payloads = refl }) }
