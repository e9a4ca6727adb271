-- Examples of keys, byte by byte.
use Rattle.std.specs.Prelude.{◌≡◌, pos, true, false, [], ◌∷◌}
use Rattle.std.specs.Ordering.{nat_cmp}
use Rattle.std.specs.Cmp.Lexicographic.{slice_cmp}
use Rattle.std.specs.declared.cmp.Ordering.TheVariants.{Less}
use Rattle.jsonb_value.specs.declared.number.Number.TheVariants.{Int64}
use Rattle.jsonb_value.specs.Notation.{hex, neg, whole, scaled, wide, string, items, members}
use Rattle.jsonb_value.specs.Tree.{null, boolean, number, text, extension, binary, date}
use Rattle.jsonb_value.specs.Tree.{timestamp_tz, opaque}
use Rattle.jsonb_value.specs.Meaning.{document, other_bytes}
use Rattle.jsonb_comparable.specs.TreeKey.{tree_key, meaning_key}

-- The keys of numbers: one for each value.
pub record NumberKeys : Type 0 where
  pub of_zero : tree_key (whole 0) ≡ hex "80"
  pub of_one : tree_key (whole 1) ≡ hex "82 02"
  pub of_five : tree_key (whole 5) ≡ hex "82 0a"
  pub of_five_with_sign : tree_key (number (Int64 (pos 5))) ≡ hex "82 0a"
  pub of_five_with_scale : tree_key (number (wide (pos 50) 1)) ≡ hex "82 0a"
  pub of_two_pairs : tree_key (whole 255) ≡ hex "83 05 6e"
  pub of_hundred : tree_key (whole 100) ≡ hex "83 02"
  pub of_fraction : tree_key (number (scaled (pos 150) 2)) ≡ hex "82 03 64"
  pub of_hundredth : tree_key (number (scaled (pos 1) 2)) ≡ hex "81 80 02"
  pub of_negative : tree_key (number (Int64 (neg 1))) ≡ hex "7d fd"

-- The keys of other documents, and of bytes that are none.
pub record TreeKeys : Type 0 where
  pub of_null : tree_key null ≡ hex "d0"
  pub of_true : tree_key (boolean true) ≡ hex "21"
  pub of_false : tree_key (boolean false) ≡ hex "20"
  pub of_string : tree_key (string "Oslo") ≡ hex "a0 4f736c6f 01"
  pub of_low_bytes : tree_key (text (hex "00 01 02 03")) ≡ hex "a0 0201 0202 0203 03 01"
  pub of_no_items : tree_key (items []) ≡ hex "c0 00"
  pub of_items : tree_key (items (whole 1 ∷ null ∷ [])) ≡ hex "c0 8202 d0 00"
  pub of_no_members : tree_key (members []) ≡ hex "b0 00"
  pub of_members : tree_key (members (("id", whole 3) ∷ ("town", string "Oslo") ∷ []))
      ≡ hex "b0 6964 01 8206 746f776e 01 a0 4f736c6f 01 00"
  pub of_bytes : tree_key (extension (binary (hex "01ab"))) ≡ hex "10 0202 ab 01"
  pub of_date : tree_key (extension (date record { value = neg 1 })) ≡ hex "11 7fffffff"
  pub of_zone : tree_key (extension (timestamp_tz record { offset = pos 0; value = pos 7 }))
      ≡ hex "13 8000000000000007 80000000"
  pub of_newer_kind : tree_key (extension (opaque 0x50 (hex "ab"))) ≡ hex "15 50 ab 01"
  pub of_other_bytes : meaning_key (other_bytes (hex "01020304")) ≡ hex "ff 0202 0203 03 04 01"
  pub shorter_first :
      slice_cmp nat_cmp (tree_key (items (whole 1 ∷ []))) (tree_key (items (whole 1 ∷ whole 0 ∷ [])))
      ≡ Less
  pub documents_first :
      slice_cmp nat_cmp (meaning_key (document null)) (meaning_key (other_bytes [])) ≡ Less
