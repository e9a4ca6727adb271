-- The examples, by computing.
use Rattle.std.proofs.Common.{arith, refl, inl, inr, lit<}
use Rattle.std.specs.Prelude.{[], pos}
use Rattle.std.specs.Str.{is_utf8, chars}
use Rattle.std.specs.Fmt.{digits}
use Rattle.std.proofs.lemmas.Str.{is_utf8-from_IsUtf8}
use Rattle.jsonb_value.specs.declared.parser.number.Exponents.TheVariants.{Forbidden, Allowed}
use Rattle.jsonb_value.specs.Notation.{hex}
use Rattle.jsonb_value.specs.Examples.{ExtensionPayloads, JsonExponents, JsonTexts, NumberOrder}
use Rattle.jsonb_value.specs.Examples.{NumberPayloads}
use Rattle.jsonb_value.specs.Examples.{TreeExamples, TreeOrderExamples, TreeTexts, WrittenNumbers}
use Rattle.jsonb_value.specs.Reader.Reading.{read_value, read_items, read_members, read_text}
use Rattle.jsonb_value.proofs.Codes.{NumCode-first}
use Rattle.jsonb_value.proofs.ExtCodes.{date_after, no_other}
use Rattle.jsonb_value.proofs.PayloadLengths.{NumCode-decimal, NumCode-whole, NumCode-zero}
use Rattle.jsonb_value.proofs.Json.ValueLaws.{document-found}
use Rattle.jsonb_value.proofs.Json.Documents.{nothing_read}

pub number_payloads : NumberPayloads
number_payloads = record {
  zero = inl (refl, refl);
  signed_zero = (_, (refl, inl record { len = refl; value = refl }));
  one_byte = (_, (refl, inl record { len = refl; value = refl }));
  two_bytes = (_, (refl, inr (inl record { len = refl; value = refl })));
  more_than_needed = (_, (refl, inr (inr (inl record { len = refl; value = refl }))));
  unsigned = inr (_, (refl, inr (inl record { len = refl; value = refl })));
  greatest = inr (_, (refl, inr (inr (inr record { len = refl; value = refl }))));
  decimal = (_, (refl, (hex "00000000000004d2", (refl, record { len = refl; value = refl }))));
  wide_decimal = (
    _,
    (
      refl,
      inl
          (hex "000000000000000000000000000004d2", (refl, record { len = refl; value = refl })),
    ),
  );
  old_decimal = (
    _,
    (
      refl,
      inr (
        hex "000000000000000000000000000004d2",
        (0x26, (refl, record { len = refl; value = refl })),
      ),
    ),
  );
  none_of_no_bytes = λ x h. grind arith;
  none_after_zero = λ x h. omega (arith, (NumCode-zero 0 1 refl _ refl).1 (x, h));
  none_of_other_tags = λ x h. omega (arith, NumCode-first _ _ x h);
  none_of_three_bytes = λ x h. omega (arith, (NumCode-whole 64 3 (inl refl) _ refl).1 (x, h));
  none_of_ten_bytes = λ x h. omega (arith, (NumCode-decimal 112 10 refl _ refl).1 (x, h));
}

pub written_numbers : WrittenNumbers
written_numbers = record {
  signed_zero = refl;
  least_in_one_byte = refl;
  negative_in_two_bytes = refl;
  positive_in_two_bytes = refl;
  unsigned_in_one_byte = refl;
  unsigned_in_two_bytes = refl;
  in_eight_bytes = refl;
  decimal = refl;
  zeros_are_one = refl;
  others_are_kept = refl;
}

pub extension_payloads : ExtensionPayloads
extension_payloads = record {
  of_bytes = refl;
  of_date = (_, (refl, record { len = refl; value = refl }));
  of_timestamp = (_, (refl, record { len = refl; value = refl }));
  of_zone = (
    _,
    (
      refl,
      inl record {
        value_bytes = hex "000640d6b7238000";
        offset_bytes = hex "00007080";
        parts = refl;
        value = record { len = refl; value = refl };
        offset = record { len = refl; value = refl };
      },
    ),
  );
  of_zone_in_hours = (
    _,
    (
      refl,
      inr record {
        value_bytes = hex "000640d6b7238000";
        hour_bytes = hex "08";
        hours = pos 8;
        parts = refl;
        value = record { len = refl; value = refl };
        hour = record { len = refl; value = refl };
        offset = refl;
      },
    ),
  );
  of_interval = (
    _,
    (
      refl,
      record {
        month_bytes = hex "0000000a";
        day_bytes = hex "00000014";
        micro_bytes = hex "000000000000012c";
        parts = refl;
        months = record { len = refl; value = refl };
        days = record { len = refl; value = refl };
        micros = record { len = refl; value = refl };
      },
    ),
  );
  of_newer_kind = (record { least = omega arith; step = refl }, refl);
  none_of_short_date = λ e h. omega (arith, (date_after 16 _ e refl h).1.len);
  none_of_other_tag = λ e h.
      no_other 0x51 [] (omega arith) (omega arith) (omega arith) (omega arith)
      (omega arith) (λ is. omega (arith, is.step)) e h;
  none_of_no_bytes = λ e h. grind arith;
  written_zone = refl;
  least_newer_tag = record { least = omega arith; step = refl };
  greatest_newer_tag = record { least = omega arith; step = refl };
  no_newer_tag = λ is. omega (arith, is.least);
}

pub tree_examples : TreeExamples
unfolding is_utf8 chars lib.Utf8.encode
tree_examples = record {
  two_items = refl;
  one_pair = refl;
  ascending = (tt, (refl, (refl, (refl, tt))));
  descending = λ h. cc (h.1.0);
  repeated = λ h. cc (h.1.0);
  depth_of_scalar = refl;
  depth_of_empty = refl;
  depth_of_nested = refl;
  in_range = lit< tt;
  out_of_range = λ h. omega (arith, h);
  not_utf8 = λ h. grind (arith, is_utf8-from_IsUtf8 _ h);
}

pub number_order : NumberOrder
number_order = record {
  of_other_kind = refl;
  of_other_scale = refl;
  one_below_two = refl;
  minus_one_below_two_tenths = refl;
  least_of_great_scale = refl;
  greatest = refl;
}

pub tree_order : TreeOrderExamples
tree_order = record {
  null_array = refl;
  array_object = refl;
  object_string = refl;
  string_number = refl;
  number_truth = refl;
  true_false = refl;
  truth_extension = refl;
  nulls = refl;
  strings = refl;
  shorter_string = refl;
  shorter_array = refl;
  first_item = refl;
  key_first = refl;
  then_value = refl;
  bytes_before_date = refl;
  interval_after_zone = refl;
  document_before_others = refl;
  other_bytes_by_bytes = refl;
}

pub tree_texts : TreeTexts
unfolding digits
tree_texts = record {
  of_decimal = refl;
  of_negative = refl;
  of_small = refl;
  of_zero = refl;
  of_no_scale = refl;
  of_escapes = refl;
  of_object = refl;
  of_bytes = refl;
  of_zone = refl;
  of_interval = refl;
  pretty_empty = refl;
  pretty_nested = refl;
}

pub json_texts : JsonTexts
unfolding read_value read_items read_members read_text lib.Utf8.encode
json_texts = record {
  with_blanks = document-found Forbidden _ _ refl;
  decimal = document-found Forbidden _ _ refl;
  negative_zero = document-found Forbidden _ _ refl;
  negative_decimal_zero = document-found Forbidden _ _ refl;
  negative = document-found Forbidden _ _ refl;
  past_64_bits = document-found Forbidden _ _ refl;
  escapes = document-found Forbidden _ _ refl;
  last_of_equal_keys = document-found Forbidden _ _ refl;
  no_exponent = λ t. nothing_read Forbidden _ t refl;
  no_leading_zero = λ t. nothing_read Forbidden _ t refl;
  no_128_bits = λ t. nothing_read Forbidden _ t refl;
  no_lone_surrogate = λ t. nothing_read Forbidden _ t refl;
  no_control_character = λ t. nothing_read Forbidden _ t refl;
  no_comma_at_end = λ t. nothing_read Forbidden _ t refl;
  no_two_values = λ t. nothing_read Forbidden _ t refl;
  no_byte_order_mark = λ t. nothing_read Forbidden _ t refl;
  no_text = λ t. nothing_read Forbidden _ t refl;
}

pub json_exponents : JsonExponents
unfolding read_value
json_exponents = record {
  positive = document-found Allowed _ _ refl;
  negative = document-found Allowed _ _ refl;
  within_scale = document-found Allowed _ _ refl;
  with_signs = document-found Allowed _ _ refl;
  past_64_bits = document-found Allowed _ _ refl;
  of_zero = document-found Allowed _ _ refl;
  without = document-found Allowed _ _ refl;
  not_in_128_bits = λ t. nothing_read Allowed _ t refl;
  scale_too_great = λ t. nothing_read Allowed _ t refl;
  no_digits = λ t. nothing_read Allowed _ t refl;
  two_signs = λ t. nothing_read Allowed _ t refl;
  no_fraction = λ t. nothing_read Allowed _ t refl;
}
