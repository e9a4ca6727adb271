use Rattle.jsonb_codec.proofs.WellFormed.{IsTree-Doc}
use Rattle.jsonb_comparable.proofs.KeyLaws.{keys_followed, keys_order, keys_equal, keys_apart}
use Rattle.jsonb_comparable.proofs.KeyLaws.{lists_order, keys_cut, keys_both_cut}
use Rattle.jsonb_comparable.proofs.KeyLaws.{array_key, object_key, key_of_tree}
use Rattle.jsonb_comparable.proofs.laws.key_laws.Goals as goal

pub returns : goal.returns
returns c = record {
  order = keys_order;
  equal = keys_equal;
  followed = keys_followed;
  no_beginning = keys_apart;
  lists = lists_order;
  cut = keys_cut;
  cut_both = keys_both_cut;
  array = array_key;
  object = object_key;
  meaning = key_of_tree;
  documents = IsTree-Doc;
}
