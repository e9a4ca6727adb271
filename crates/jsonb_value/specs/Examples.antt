-- Examples of the definitions of this crate, checked by computing.
use Rattle.std.specs.Prelude.{◌≡◌, pos, true, false, [], ◌∷◌, ◌++◌, codes}
use Rattle.std.specs.declared.cmp.Ordering.TheVariants.{Less, Equal, Greater}
use Rattle.jsonb_value.specs.declared.number.Number.{Number}
use Rattle.jsonb_value.specs.declared.number.Number.TheVariants.{Int64, UInt64}
use Rattle.jsonb_value.specs.Notation.{hex, neg, whole, scaled, wide, string, items, fields}
use Rattle.jsonb_value.specs.Notation.{members}
use Rattle.jsonb_value.specs.Opaque.{IsOpaqueTag}
use Rattle.jsonb_value.specs.Tree.{Extension, binary, date, timestamp, timestamp_tz, interval}
use Rattle.jsonb_value.specs.Tree.{opaque, Tree, null, boolean, number, text, extension, count}
use Rattle.jsonb_value.specs.Tree.{no_trees, tree, pair_count, Ascend}
use Rattle.jsonb_value.specs.Depth.{depth}
use Rattle.jsonb_value.specs.NumCode.{NumCode, number_payload}
use Rattle.jsonb_value.specs.ExtCode.{ExtCode, extension_payload}
use Rattle.jsonb_value.specs.Norm.{norm}
use Rattle.jsonb_value.specs.WellFormed.{IsTree}
use Rattle.jsonb_value.specs.Order.{number_cmp, extension_cmp}
use Rattle.jsonb_value.specs.TreeOrder.{tree_cmp}
use Rattle.jsonb_value.specs.Meaning.{document, other_bytes, meaning_cmp}
use Rattle.jsonb_value.specs.Text.{compact, pretty}
use Rattle.jsonb_value.specs.Json.Syntax.{Json, JsonWithExponents}

-- What payloads mean as numbers, and payloads that mean none.
pub record NumberPayloads : Type 0 where
  pub zero : NumCode (hex "00") (UInt64 0)
  pub signed_zero : NumCode (hex "40 00") (Int64 (pos 0))
  pub one_byte : NumCode (hex "40 9c") (Int64 (neg 100))
  pub two_bytes : NumCode (hex "40 ff7f") (Int64 (neg 129))
  pub more_than_needed : NumCode (hex "40 00000080") (Int64 (pos 128))
  pub unsigned : NumCode (hex "50 ffff") (UInt64 65535)
  pub greatest : NumCode (hex "50 ffffffffffffffff") (UInt64 18446744073709551615)
  pub decimal : NumCode (hex "70 00000000000004d2 02") (scaled (pos 1234) 2)
  pub wide_decimal : NumCode (hex "70 000000000000000000000000000004d2 02") (wide (pos 1234) 2)
  pub old_decimal : NumCode (hex "70 000000000000000000000000000004d2 26 02") (wide (pos 1234) 2)
  pub none_of_no_bytes : (x : Number) → NumCode [] x → ⊥
  pub none_after_zero : (x : Number) → NumCode (hex "00 00") x → ⊥
  pub none_of_other_tags : (x : Number) → NumCode (hex "60 0000000000000000") x → ⊥
  pub none_of_three_bytes : (x : Number) → NumCode (hex "40 000001") x → ⊥
  pub none_of_ten_bytes : (x : Number) → NumCode (hex "70 00000000000004d2 26 02") x → ⊥

-- The payloads that are written for numbers.
pub record WrittenNumbers : Type 0 where
  pub signed_zero : number_payload (Int64 (pos 0)) ≡ hex "00"
  pub least_in_one_byte : number_payload (Int64 (neg 128)) ≡ hex "40 80"
  pub negative_in_two_bytes : number_payload (Int64 (neg 129)) ≡ hex "40 ff7f"
  pub positive_in_two_bytes : number_payload (Int64 (pos 128)) ≡ hex "40 0080"
  pub unsigned_in_one_byte : number_payload (UInt64 255) ≡ hex "50 ff"
  pub unsigned_in_two_bytes : number_payload (UInt64 256) ≡ hex "50 0100"
  pub in_eight_bytes : number_payload (UInt64 18446744073709551615) ≡ hex "50 ffffffffffffffff"
  pub decimal : number_payload (scaled (neg 5) 1) ≡ hex "70 fffffffffffffffb 01"
  pub zeros_are_one : norm (number (Int64 (pos 0))) ≡ whole 0
  pub others_are_kept : norm (number (Int64 (pos 5))) ≡ number (Int64 (pos 5))

-- Eight hours east of UTC.
abbrev in_zone : Extension
in_zone = timestamp_tz record { offset = pos 28800; value = pos 1760140800000000 }

abbrev span : Extension
span = interval record { months = pos 10; days = pos 20; micros = pos 300 }

-- What payloads mean as extension values, and payloads that mean none.
pub record ExtensionPayloads : Type 0 where
  pub of_bytes : ExtCode (hex "00 010203") (binary (hex "010203"))
  pub of_date : ExtCode (hex "10 ffffffff") (date record { value = neg 1 })
  pub of_timestamp : ExtCode (hex "20 0000000000000001") (timestamp record { value = pos 1 })
  pub of_zone : ExtCode (hex "30 000640d6b7238000 00007080") in_zone
  pub of_zone_in_hours : ExtCode (hex "30 000640d6b7238000 08") in_zone
  pub of_interval : ExtCode (hex "40 0000000a 00000014 000000000000012c") span
  pub of_newer_kind : ExtCode (hex "50 ab01") (opaque 0x50 (hex "ab01"))
  pub none_of_short_date : (e : Extension) → ExtCode (hex "10 ffff") e → ⊥
  pub none_of_other_tag : (e : Extension) → ExtCode (hex "51") e → ⊥
  pub none_of_no_bytes : (e : Extension) → ExtCode [] e → ⊥
  pub written_zone : extension_payload in_zone ≡ hex "30 000640d6b7238000 00007080"
  pub least_newer_tag : IsOpaqueTag 0x50
  pub greatest_newer_tag : IsOpaqueTag 0xf0
  pub no_newer_tag : IsOpaqueTag 0x40 → ⊥

-- Trees: their counts and depths, keys that ascend, and trees that no value has.
pub record TreeExamples : Type 0 where
  pub two_items : count (tree null (tree null no_trees)) ≡ 2
  pub one_pair : pair_count (fields (("a", null) ∷ [])) ≡ 1
  pub ascending : Ascend (fields (("", null) ∷ ("a", null) ∷ ("aa", null) ∷ ("b", null) ∷ []))
  pub descending : Ascend (fields (("b", null) ∷ ("a", null) ∷ [])) → ⊥
  pub repeated : Ascend (fields (("a", null) ∷ ("a", null) ∷ [])) → ⊥
  pub depth_of_scalar : depth (whole 1) ≡ 0
  pub depth_of_empty : depth (items []) ≡ 1
  pub depth_of_nested : depth (members (("a", items (whole 1 ∷ [])) ∷ [])) ≡ 2
  pub in_range : IsTree (whole 18446744073709551615)
  pub out_of_range : IsTree (whole 18446744073709551616) → ⊥
  pub not_utf8 : IsTree (text (hex "ff")) → ⊥

-- The order of numbers is that of their exact values.
pub record NumberOrder : Type 0 where
  pub of_other_kind : number_cmp (UInt64 5) (Int64 (pos 5)) ≡ Equal
  pub of_other_scale : number_cmp (UInt64 5) (wide (pos 50) 1) ≡ Equal
  pub one_below_two : number_cmp (Int64 (pos 1)) (UInt64 2) ≡ Less
  pub minus_one_below_two_tenths : number_cmp (Int64 (neg 1)) (scaled (neg 2) 1) ≡ Less
  pub least_of_great_scale :
      number_cmp (Int64 (neg 1)) (wide (neg 170141183460469231731687303715884105728) 255) ≡ Less
  pub greatest :
      number_cmp (wide (pos 170141183460469231731687303715884105727) 0) (scaled (pos 1) 255)
      ≡ Greater

-- The order of trees, and of byte strings that are none.
pub record TreeOrderExamples : Type 0 where
  pub null_array : tree_cmp null (items []) ≡ Greater
  pub array_object : tree_cmp (items []) (members []) ≡ Greater
  pub object_string : tree_cmp (members []) (string "") ≡ Greater
  pub string_number : tree_cmp (string "") (whole 0) ≡ Greater
  pub number_truth : tree_cmp (whole 0) (boolean true) ≡ Greater
  pub true_false : tree_cmp (boolean true) (boolean false) ≡ Greater
  pub truth_extension : tree_cmp (boolean false) (extension (binary [])) ≡ Greater
  pub nulls : tree_cmp null null ≡ Equal
  pub strings : tree_cmp (string "B") (string "a") ≡ Less
  pub shorter_string : tree_cmp (string "a") (string "ab") ≡ Less
  pub shorter_array : tree_cmp (items (whole 1 ∷ [])) (items (whole 1 ∷ whole 0 ∷ [])) ≡ Less
  pub first_item : tree_cmp (items (whole 2 ∷ [])) (items (whole 1 ∷ whole 0 ∷ [])) ≡ Greater
  pub key_first : tree_cmp (members (("a", whole 1) ∷ [])) (members (("b", whole 0) ∷ [])) ≡ Less
  pub then_value : tree_cmp (members (("a", whole 0) ∷ [])) (members (("a", whole 1) ∷ [])) ≡ Less
  pub bytes_before_date : extension_cmp (binary (hex "ff")) (date record { value = neg 1 }) ≡ Less
  pub interval_after_zone : extension_cmp span in_zone ≡ Greater
  pub document_before_others : meaning_cmp (document null) (other_bytes []) ≡ Less
  pub other_bytes_by_bytes : meaning_cmp (other_bytes []) (other_bytes (hex "01020304")) ≡ Less

-- The texts of trees.
pub record TreeTexts : Type 0 where
  pub of_decimal : compact (number (scaled (pos 1234) 2)) ≡ codes "12.34"
  pub of_negative : compact (number (scaled (neg 5) 1)) ≡ codes "-0.5"
  pub of_small : compact (number (scaled (pos 5) 2)) ≡ codes "0.05"
  pub of_zero : compact (number (scaled (pos 0) 2)) ≡ codes "0.00"
  pub of_no_scale : compact (number (scaled (neg 7) 0)) ≡ codes "-7"
  pub of_escapes :
      compact (text (hex "61 22 5c 0a 01 7f 2f c3a9"))
      ≡ codes "\"a\\\"\\\\\\n\\u0001" ++ hex "7f 2f c3a9 22"
  pub of_object : compact (members (("a", whole 1) ∷ ("b", items (null ∷ boolean true ∷ [])) ∷ []))
      ≡ codes "{\"a\":1,\"b\":[null,true]}"
  pub of_bytes : compact (extension (binary (hex "0102ab"))) ≡ codes "\"0102ab\""
  pub of_zone : compact (extension in_zone) ≡ codes "\"1760140800000000 28800\""
  pub of_interval : compact (extension span) ≡ codes "\"10 20 300\""
  pub pretty_empty : pretty (members (("a", items []) ∷ ("b", members []) ∷ []))
      ≡ codes "{\n  \"a\": [],\n  \"b\": {}\n}"
  pub pretty_nested : pretty (items (items (whole 1 ∷ whole 2 ∷ []) ∷ string "" ∷ []))
      ≡ codes "[\n  [\n    1,\n    2\n  ],\n  \"\"\n]"

-- The values of JSON texts, and texts that are no JSON.
pub record JsonTexts : Type 0 where
  pub with_blanks : Json (codes " [ 1 ,\ttrue,\n{ } ]\r")
      (items (whole 1 ∷ boolean true ∷ members [] ∷ []))
  pub decimal : Json (codes "1.50") (number (scaled (pos 150) 2))
  pub negative_zero : Json (codes "-0") (whole 0)
  pub negative_decimal_zero : Json (codes "-0.0") (number (scaled (pos 0) 1))
  pub negative : Json (codes "-7") (number (Int64 (neg 7)))
  pub past_64_bits : Json (codes "18446744073709551616")
      (number (wide (pos 18446744073709551616) 0))
  pub escapes : Json (codes "\"\\u00e9\\n\\/\\ud83d\\ude00\"") (text (hex "c3a9 0a 2f f09f9880"))
  pub last_of_equal_keys : Json (codes "{\"b\":1,\"a\":[ ],\"b\":true}")
      (members (("a", items []) ∷ ("b", boolean true) ∷ []))
  pub no_exponent : (t : Tree) → Json (codes "1e5") t → ⊥
  pub no_leading_zero : (t : Tree) → Json (codes "01") t → ⊥
  pub no_128_bits : (t : Tree) → Json (codes "170141183460469231731687303715884105728") t → ⊥
  pub no_lone_surrogate : (t : Tree) → Json (codes "\"\\ud83d\"") t → ⊥
  pub no_control_character : (t : Tree) → Json (34 ∷ 10 ∷ 34 ∷ []) t → ⊥
  pub no_comma_at_end : (t : Tree) → Json (codes "[1,]") t → ⊥
  pub no_two_values : (t : Tree) → Json (codes "null null") t → ⊥
  pub no_byte_order_mark : (t : Tree) → Json (0xfeff ∷ codes "null") t → ⊥
  pub no_text : (t : Tree) → Json [] t → ⊥

-- The values of numbers with exponents, and numbers that have none.
pub record JsonExponents : Type 0 where
  pub positive : JsonWithExponents (codes "1.0e5") (whole 100000)
  pub negative : JsonWithExponents (codes "25e-1") (number (scaled (pos 25) 1))
  pub within_scale : JsonWithExponents (codes "1.50e1") (number (scaled (pos 150) 1))
  pub with_signs : JsonWithExponents (codes "-3E+2") (number (Int64 (neg 300)))
  pub past_64_bits : JsonWithExponents (codes "6.02e23")
      (number (wide (pos 602000000000000000000000) 0))
  pub of_zero : JsonWithExponents (codes "0e99") (whole 0)
  pub without : JsonWithExponents (codes "1.50") (number (scaled (pos 150) 2))
  pub not_in_128_bits : (t : Tree) → JsonWithExponents (codes "1e39") t → ⊥
  pub scale_too_great : (t : Tree) → JsonWithExponents (codes "0e-256") t → ⊥
  pub no_digits : (t : Tree) → JsonWithExponents (codes "1e+") t → ⊥
  pub two_signs : (t : Tree) → JsonWithExponents (codes "1e-+1") t → ⊥
  pub no_fraction : (t : Tree) → JsonWithExponents (codes "1.e1") t → ⊥
