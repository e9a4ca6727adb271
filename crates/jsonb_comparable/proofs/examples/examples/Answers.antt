use Rattle.jsonb_comparable.proofs.ExampleLaws.{number_keys, tree_keys}
use Rattle.jsonb_comparable.proofs.examples.examples.Goals as goal

pub returns : goal.returns
returns c = record { numbers = number_keys; trees = tree_keys }
