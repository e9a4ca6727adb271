-- Examples of kinds, items, look-ups, texts of bytes, and of what is built.
use Rattle.std.specs.Prelude.{◌≡◌, ℕ, true, false, List, [], ◌∷◌, codes}
use Rattle.std.specs.Prelude.{Some, None, Ok, Err}
use Rattle.std.specs.Str.{bytes_eq}
use Rattle.std.specs.declared.cmp.Ordering.TheVariants.{Equal, Less, Greater}
use Rattle.jsonb_value.specs.declared.error.Error.TheVariants.{InvalidEOF, InvalidJson}
use Rattle.jsonb_value.specs.declared.error.Error.TheVariants.{InvalidJsonb}
use Rattle.jsonb_value.specs.Notation.{hex, whole, items, members}
use Rattle.jsonb_value.specs.Tree.{Tree}
use Rattle.jsonb_value.specs.Meaning.{document, other_bytes, meaning_cmp}
use Rattle.jsonb.specs.declared.item_type.JsonbItemType.TheVariants as kinds
use Rattle.jsonb.specs.declared.iterator.ChildKind.TheVariants.{ArrayItem, ObjectKey}
use Rattle.jsonb.specs.Kind.{kind, rank_order}
use Rattle.jsonb.specs.ItemView.{null, boolean, raw}
use Rattle.jsonb.specs.Item.{item_in}
use Rattle.jsonb.specs.Walk.{children_walk}
use Rattle.jsonb.specs.Lookup.{find, words_read}
use Rattle.jsonb.specs.Entry.{Code}
use Rattle.jsonb.specs.Building.{array_bytes, object_bytes, in_order}
use Rattle.jsonb.specs.ItemMeaning.{meaning_of}
use Rattle.jsonb.specs.Texts.{display_text, pretty_display_text}
use Rattle.jsonb.specs.Canonical.{RewritesTo}
use Rattle.jsonb.specs.Parsing.{ParsesTo}

-- Kinds, which the first two words determine.
pub record KindExamples : Type 0 where
  pub of_array : kind (hex "9fffffff") ≡ Ok (kinds.Array 536870911)
  pub of_object : kind (hex "40000002") ≡ Ok (kinds.Object 2)
  pub of_string : kind (hex "20000000 10000003") ≡ Ok kinds.String
  pub of_text : kind (hex "3132333435363738") ≡ Ok kinds.Boolean
  pub of_container : kind (hex "20000000 50000004 80000000") ≡ Err InvalidJsonb
  pub of_no_kind : kind (hex "00000000") ≡ Err InvalidJsonb
  pub of_no_bytes : kind [] ≡ Err InvalidEOF
  pub of_no_entry : kind (hex "20000000") ≡ Err InvalidEOF
  pub null_highest : rank_order kinds.Null (kinds.Array 3) ≡ Some Greater
  pub extension_lowest : rank_order kinds.Extension kinds.Boolean ≡ Some Less
  pub both_null : rank_order kinds.Null kinds.Null ≡ Some Equal
  pub both_arrays : rank_order (kinds.Array 3) (kinds.Array 3) ≡ None

-- Items, and the results of iterators.
pub record ItemExamples : Type 0 where
  pub of_true : item_in (hex "20000000 40000000") ≡ Ok (boolean true)
  pub of_array : item_in (hex "9fffffff") ≡ Ok (raw (hex "9fffffff"))
  pub past_the_end : item_in (hex "20000000 10000003 6173") ≡ Err InvalidJsonb
  pub type_seven : item_in (hex "20000000 70000000") ≡ Err InvalidJsonb
  pub of_items : children_walk ArrayItem (hex "80000002 30000000 40000000")
      ≡ Ok (Some record { count = 2; rest = Ok (boolean false) ∷ Ok (boolean true) ∷ [] })
  pub error_last : children_walk ArrayItem (hex "80000003 70000000 30000000 40000000")
      ≡ Ok (Some record { count = 3; rest = Err InvalidJsonb ∷ [] })
  pub of_other_kind : children_walk ObjectKey (hex "80000000") ≡ Ok None

-- {"aa":1,"ab":[2]}
abbrev two_keys : Tree
two_keys = members (("aa", whole 1) ∷ ("ab", items (whole 2 ∷ [])) ∷ [])

-- Look-ups by name, and how many words they read.
pub record LookupExamples : Type 0 where
  pub second : find (bytes_eq (codes "ab")) 2 two_keys ≡ Some (items (whole 2 ∷ []))
  pub first : find (bytes_eq (codes "aa")) 2 two_keys ≡ Some (whole 1)
  pub nothing : find (bytes_eq (codes "zz")) 2 two_keys ≡ None
  pub of_length : find (λ key. true) 1 two_keys ≡ None
  pub in_array : find (λ key. true) 0 (items []) ≡ None
  pub reads_of_second : words_read (bytes_eq (codes "ab")) 2 two_keys ≡ 5
  pub reads_of_first : words_read (bytes_eq (codes "aa")) 2 two_keys ≡ 4
  pub reads_of_nothing : words_read (bytes_eq (codes "zz")) 2 two_keys ≡ 3
  pub reads_in_scalar : words_read (bytes_eq (codes "zz")) 2 (whole 1) ≡ 1

-- {"a":1,"b":"123"}
abbrev two_members : List ℕ
two_members = hex "40000002 10000001 10000001 20000002 10000003 61 62 5001 313233"

-- What byte strings mean and print as.
pub record MeaningExamples : Type 0 where
  pub of_document : meaning_of (hex "80000000") ≡ document (items [])
  pub of_other_bytes : meaning_of (hex "9fffffff") ≡ other_bytes (hex "9fffffff")
  pub document_first : meaning_cmp (meaning_of (hex "80000000")) (meaning_of []) ≡ Less
  pub text_of_document : display_text two_members ≡ codes "{\"a\":1,\"b\":\"123\"}"
  pub text_of_text : display_text (hex "3132333435363738") ≡ codes "12345678"
  pub text_of_no_bytes : display_text [] ≡ codes "null"
  pub lines_of_document : pretty_display_text two_members
      ≡ codes "{\n  \"a\": 1,\n  \"b\": \"123\"\n}"
  pub lines_of_text : pretty_display_text (hex "3132333435363738") ≡ codes "null"

-- The entry of a number, and that of null.
abbrev number_code : List ℕ → Code
number_code payload = record { type = 0x20000000; payload = payload }

abbrev null_code : Code
null_code = record { type = 0; payload = [] }

-- What is built, rewritten and parsed.
pub record BuiltExamples : Type 0 where
  pub no_items : array_bytes [] ≡ hex "80000000"
  pub two_items : array_bytes (number_code (hex "5001") ∷ null_code ∷ [])
      ≡ hex "80000002 20000002 00000000 5001"
  pub two_pairs : object_bytes (codes "a" ∷ codes "b" ∷ [])
      (number_code (hex "5002") ∷ number_code (hex "5001") ∷ [])
      ≡ hex "40000002 10000001 10000001 20000002 20000002 61 62 5002 5001"
  pub by_keys : in_order {A = ℕ} ((codes "b", 1) ∷ (codes "a", 2) ∷ [])
      ≡ (codes "a", 2) ∷ (codes "b", 1) ∷ []
  pub rewritten : RewritesTo
      (hex "20000000 20000013 70 000000000000000000000000000004d2 26 02")
      (Ok (hex "20000000 20000012 70 000000000000000000000000000004d2 02"))
  pub not_rewritten : RewritesTo (hex "9fffffff") (Err InvalidJsonb)
  pub parsed : ParsesTo (codes "[false,true]") (Ok (hex "80000002 30000000 40000000"))
  pub not_parsed : ParsesTo (codes "1e5") (Err InvalidJson)
