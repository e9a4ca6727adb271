use Rattle.jsonb_functions.proofs.ExampleLaws.{changed, containment, path_texts, paths}
use Rattle.jsonb_functions.proofs.examples.examples.Goals as goal

pub returns : goal.returns
returns c = record {
  paths = paths;
  path_texts = path_texts;
  containment = containment;
  changed = changed;
}
