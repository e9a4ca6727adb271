use Rattle.jsonb_value.proofs.ExampleLaws.{extension_payloads, json_exponents, json_texts}
use Rattle.jsonb_value.proofs.ExampleLaws.{number_order, number_payloads, tree_examples, tree_order, tree_texts}
use Rattle.jsonb_value.proofs.ExampleLaws.{written_numbers}
use Rattle.jsonb_value.proofs.examples.examples.Goals as goal

pub returns : goal.returns
returns c = record {
  number_payloads = number_payloads;
  written_numbers = written_numbers;
  extension_payloads = extension_payloads;
  trees = tree_examples;
  number_order = number_order;
  tree_order = tree_order;
  texts = tree_texts;
  json = json_texts;
  exponents = json_exponents;
}
