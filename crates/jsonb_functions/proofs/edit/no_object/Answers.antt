use Rattle.std.proofs.lemmas.Grind.{merely}
use Rattle.jsonb_value.specs.Tree.{no_pairs}
use Rattle.jsonb_functions.proofs.EditLaws.{empty_object}
use Rattle.jsonb_functions.proofs.edit.no_object.Goals as goal

pub invariant_of-result : goal.invariant_of-result
invariant_of-result c = record { fact = merely (no_pairs, empty_object) }
