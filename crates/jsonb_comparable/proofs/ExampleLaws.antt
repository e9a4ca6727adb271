-- The examples, by computing.
use Rattle.std.proofs.Common.{refl}
use Rattle.jsonb_comparable.specs.Escaped.{escaped}
use Rattle.jsonb_comparable.specs.ExtensionKey.{biased_32, biased_64}
use Rattle.jsonb_comparable.specs.NumberKey.{digit_pairs, key_of_pairs, natural_key, scaled_value}
use Rattle.jsonb_comparable.specs.TreeKey.{meaning_key, pairs_key, tree_key, trees_key}
use Rattle.jsonb_comparable.specs.Examples.{NumberKeys, TreeKeys}

pub number_keys : NumberKeys
unfolding tree_key digit_pairs key_of_pairs natural_key scaled_value
number_keys = record {
  of_zero = refl;
  of_one = refl;
  of_five = refl;
  of_five_with_sign = refl;
  of_five_with_scale = refl;
  of_two_pairs = refl;
  of_hundred = refl;
  of_fraction = refl;
  of_hundredth = refl;
  of_negative = refl;
}

pub tree_keys : TreeKeys
unfolding tree_key trees_key pairs_key meaning_key escaped biased_32 biased_64
    digit_pairs key_of_pairs natural_key scaled_value
tree_keys = record {
  of_null = refl;
  of_true = refl;
  of_false = refl;
  of_string = refl;
  of_low_bytes = refl;
  of_no_items = refl;
  of_items = refl;
  of_no_members = refl;
  of_members = refl;
  of_bytes = refl;
  of_date = refl;
  of_zone = refl;
  of_newer_kind = refl;
  of_other_bytes = refl;
  shorter_first = refl;
  documents_first = refl;
}
