use Rattle.jsonb_path.proofs.ExampleLaws as laws
use Rattle.jsonb_path.proofs.examples.examples.Goals as goal

pub returns : goal.returns
returns c = record {
  member = laws.member_examples;
  subscript = laws.subscript_examples;
  descendant = laws.descendant_examples;
  filter = laws.filter_examples;
  test = laws.test_examples;
  number = laws.number_examples;
  text = laws.text_examples;
}
