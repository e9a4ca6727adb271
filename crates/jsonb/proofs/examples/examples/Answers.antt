use Rattle.jsonb.proofs.ExampleLaws.{built, items, kinds, look_ups, meanings}
use Rattle.jsonb.proofs.examples.examples.Goals as goal

pub returns : goal.returns
returns c = record {
  kinds = kinds;
  items = items;
  look_ups = look_ups;
  meanings = meanings;
  built = built;
}
