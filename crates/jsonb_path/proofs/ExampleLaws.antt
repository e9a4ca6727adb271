-- The examples, by computing.
use Rattle.std.proofs.Common.{refl}
use Rattle.jsonb_path.specs.Examples.{DescendantExamples, FilterExamples, MemberExamples}
use Rattle.std.specs.Str.{chars}
use Rattle.jsonb_value.specs.Reader.Reading.{read_items, read_members, read_text, read_value}
use Rattle.jsonb_path.specs.Dotted.{called, levels_after, method_of, pair_part, pairs_of}
use Rattle.jsonb_path.specs.Escape.{escape_at, low_half, unicode}
use Rattle.jsonb_path.specs.Examples.{NumberExamples, SubscriptExamples, TestExamples, TextExamples}
use Rattle.jsonb_path.specs.Grammar.{accessor_at, all_accessors, all_infixed, all_subscripts}
use Rattle.jsonb_path.specs.Grammar.{chain_at, closed_test, deeper, exists_at, filtered}
use Rattle.jsonb_path.specs.Grammar.{in_parentheses, signed_at}
use Rattle.jsonb_path.specs.Grammar.{index_at, items_within, operand, operation_of_mark}
use Rattle.jsonb_path.specs.Grammar.{operation_of_marks, path_of_lexemes, ranked, subscript_at}
use Rattle.jsonb_path.specs.Grammar.{with_sign_before}
use Rattle.jsonb_path.specs.Literal.{numeral_value, worded}
use Rattle.jsonb_path.specs.Numeral.{numeral_at}
use Rattle.jsonb_path.specs.Token.{content_of, mark_at, number_at, slash_at, text_at}
use Rattle.jsonb_path.specs.Token.{tokens_after, variable_at, word_at}

pub member_examples : MemberExamples
member_examples = record {
  member = refl;
  no_member = refl;
  of_items = refl;
  of_array = refl;
  unwrapped_once = refl;
  of_each_item = refl;
  of_number = refl;
  all = refl;
  all_of_array = refl;
  names = refl;
}

pub subscript_examples : SubscriptExamples
subscript_examples = record {
  of_number = refl;
  of_no_array = refl;
  past_the_end = refl;
  out_of_bounds = refl;
  in_their_order = refl;
  cut_towards_zero = refl;
  below_zero = refl;
  text = refl;
  past_32_bits = refl;
  turned = refl;
  last_of_none = refl;
  of_the_document = refl;
  array = refl;
}

pub descendant_examples : DescendantExamples
descendant_examples = record {
  at_a_level = refl;
  scalars = refl;
  of_scalar = refl;
  met_twice = refl;
  forgiven = refl;
}

pub filter_examples : FilterExamples
filter_examples = record {
  of_array = refl;
  of_items = refl;
  unwrapped_again = refl;
  differing = refl;
  not_known = refl;
  error_within = refl;
  nothing_within = refl;
  unknown_or_true = refl;
  sum_within = refl;
  type_of_items = refl;
  then_member = refl;
  variable_missing = refl;
}

pub test_examples : TestExamples
test_examples = record {
  some_in_lax = refl;
  none_in_strict = refl;
  not_known = refl;
  no_pair = refl;
  error_on_the_right = refl;
  null_and_true = refl;
  null_and_false = refl;
  value_before_error = refl;
  error_before_value = refl;
  starts = refl;
  type_of_unknown = refl;
  no_null = refl;
}

pub number_examples : NumberExamples
number_examples = record {
  two_numbers = refl;
  one_item = refl;
  array = refl;
  negative = refl;
  product = refl;
  absolute = refl;
  floor = refl;
  sizes = refl;
  size_of_number = refl;
}

pub text_examples : TextExamples
unfolding called levels_after method_of pair_part pairs_of escape_at low_half unicode accessor_at
    all_accessors all_infixed all_subscripts chain_at closed_test deeper exists_at filtered in_parentheses
    index_at items_within operand operation_of_mark operation_of_marks path_of_lexemes ranked
    signed_at subscript_at with_sign_before numeral_value worded numeral_at content_of mark_at number_at
    slash_at text_at tokens_after variable_at word_at read_value read_items read_members read_text chars
    lib.Utf8.encode
text_examples = record {
  in_strict = refl;
  keys = refl;
  tighter = refl;
  to_the_left = refl;
  in_parentheses = refl;
  negative = refl;
  twice_negative = refl;
  sign_of_a_chain = refl;
  chain_goes_on = refl;
  type_of_test = refl;
  and_before_or = refl;
  begins_so = refl;
  filtered = refl;
  last_ones = refl;
  below = refl;
  empty = refl;
  compared_twice = refl;
  two_expressions = refl;
  test_compared = refl;
  current_without_filter = refl;
  last_without_subscript = refl;
  denied_twice = refl;
  existence_known = refl;
}
