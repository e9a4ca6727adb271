-- Examples of documents, of byte strings that are none, and of what is written.
use Rattle.std.specs.Prelude.{◌≡◌, ◌++◌, [], ◌∷◌, pos, true, false, Ok, Err}
use Rattle.jsonb_value.specs.declared.error.Error.TheVariants.{InvalidEOF, InvalidJsonb}
use Rattle.jsonb_value.specs.declared.number.Number.TheVariants.{Int64, UInt64}
use Rattle.jsonb_value.specs.Tree.{null, boolean, number, extension, binary, date}
use Rattle.jsonb_value.specs.Tree.{timestamp_tz, interval, opaque}
use Rattle.jsonb_value.specs.Notation.{hex, neg, whole, scaled, wide, string, items, members}
use Rattle.jsonb_codec.specs.WordBytes.{word, word_at, header_at}
use Rattle.jsonb_codec.specs.JEntry.{jentry_of}
use Rattle.jsonb_codec.specs.Doc.{Doc, IsDocument}
use Rattle.jsonb_codec.specs.Canon.{canon}

-- Documents of scalars.
pub record ScalarDocuments : Type 0 where
  pub of_null : Doc (hex "20000000 00000000") null
  pub of_true : Doc (hex "20000000 40000000") (boolean true)
  pub of_false : Doc (hex "20000000 30000000") (boolean false)
  pub of_string : Doc (hex "20000000 10000003 617364") (string "asd")
  pub of_no_characters : Doc (hex "20000000 10000000") (string "")
  pub of_signed : Doc (hex "20000000 20000002 409c") (number (Int64 (neg 100)))
  pub of_unsigned : Doc (hex "20000000 20000003 50ffff") (number (UInt64 65535))
  pub of_zero : Doc (hex "20000000 20000001 00") (whole 0)
  pub of_signed_zero : Doc (hex "20000000 20000002 4000") (number (Int64 (pos 0)))
  pub of_decimal : Doc (hex "20000000 2000000a 70 00000000000004d2 02")
      (number (scaled (pos 1234) 2))
  pub of_old_decimal : Doc (hex "20000000 20000013 70 000000000000000000000000000004d2 26 02")
      (number (wide (pos 1234) 2))
  pub of_bytes : Doc (hex "20000000 60000004 00 010203") (extension (binary (hex "010203")))
  pub of_date : Doc (hex "20000000 60000005 10 ffffffff")
      (extension (date record { value = neg 1 }))
  pub of_zone_in_hours : Doc (hex "20000000 6000000a 30 000640d6b7238000 08")
      (extension (timestamp_tz record { offset = pos 28800; value = pos 1760140800000000 }))

-- Documents of arrays and objects.
pub record ContainerDocuments : Type 0 where
  pub of_no_items : Doc (hex "80000000") (items [])
  pub of_no_members : Doc (hex "40000000") (members [])
  pub of_truths : Doc (hex "80000002 30000000 40000000") (items (boolean false ∷ boolean true ∷ []))
  pub of_array_in_array : Doc
      (hex "80000003 20000002 10000005 50000016 5001 68656c6c6f"
      ++ hex "80000003 20000002 20000002 20000002 5001 5002 5003")
      (items (whole 1 ∷ string "hello" ∷ items (whole 1 ∷ whole 2 ∷ whole 3 ∷ []) ∷ []))
  pub of_two_members : Doc
      (hex "40000002 10000001 10000001 20000002 10000003 61 62 5001 313233")
      (members (("a", whole 1) ∷ ("b", string "123") ∷ []))
  pub of_array_in_object : Doc
      (hex "40000001 10000003 50000008 617272 80000001 30000000")
      (members (("arr", items (boolean false ∷ [])) ∷ []))
  pub of_object_in_object : Doc
      (hex "40000001 10000003 50000011 6f626a 40000001 10000005 40000000 6669656c64")
      (members (("obj", members (("field", boolean true) ∷ [])) ∷ []))

-- Byte strings that are no document.
pub record NoDocuments : Type 0 where
  pub no_bytes : IsDocument [] → ⊥
  pub other_header : IsDocument (hex "00000000") → ⊥
  pub text_of_digits : IsDocument (hex "3132333435363738") → ⊥
  pub count_in_scalar : IsDocument (hex "20000001 00000000") → ⊥
  pub no_entry : IsDocument (hex "20000000") → ⊥
  pub top_bit_of_entry : IsDocument (hex "20000000 80000000") → ⊥
  pub type_seven : IsDocument (hex "20000000 70000000") → ⊥
  pub null_with_length : IsDocument (hex "20000000 00000001 00") → ⊥
  pub array_in_scalar : IsDocument (hex "20000000 50000004 80000000") → ⊥
  pub not_utf8 : IsDocument (hex "20000000 10000001 ff") → ⊥
  pub byte_after_zero : IsDocument (hex "20000000 20000002 0000") → ⊥
  pub payload_cut : IsDocument (hex "20000000 10000003 6173") → ⊥
  pub byte_left_over : IsDocument (hex "20000000 10000003 61736400") → ⊥
  pub entries_cut : IsDocument (hex "9fffffff") → ⊥
  pub top_bit_in_array : IsDocument (hex "80000001 80000000") → ⊥
  pub scalar_in_array : IsDocument (hex "80000001 50000008 20000000 00000000") → ⊥
  pub keys_descend : IsDocument (hex "40000002 10000001 10000001 00000000 00000000 62 61") → ⊥
  pub keys_equal : IsDocument (hex "40000002 10000001 10000001 00000000 00000000 61 61") → ⊥
  pub key_no_string : IsDocument (hex "40000001 00000000 00000000") → ⊥
  pub after_object :
      IsDocument (hex "40000002 10000001 10000001 20000002 10000003 61 62 5001 313233 00") → ⊥

-- Words, entry words and headers.
pub record WordExamples : Type 0 where
  pub most_significant_first : word 0x50000016 ≡ hex "50000016"
  pub read : word_at (hex "ff 80000002") 1 ≡ Ok 0x80000002
  pub cut : word_at (hex "ff 80000002") 2 ≡ Err InvalidEOF
  pub entry : jentry_of 0x50000016 ≡ record { type_code = 0x50000000; length = 0x16 }
  pub entry_without_top_bit : jentry_of 0x80000003 ≡ record { type_code = 0; length = 3 }
  pub header : header_at (hex "9fffffff") 0 ≡ Ok (0x80000000, 536870911)
  pub no_header : header_at (hex "00000001") 0 ≡ Err InvalidJsonb

-- What is written for trees.
pub record CanonicalDocuments : Type 0 where
  pub of_signed_zero : canon (number (Int64 (pos 0))) ≡ hex "20000000 20000001 00"
  pub of_least_in_one_byte : canon (number (Int64 (neg 128))) ≡ hex "20000000 20000002 4080"
  pub of_two_bytes : canon (number (Int64 (neg 32768))) ≡ hex "20000000 20000003 408000"
  pub of_wide_decimal : canon (number (wide (pos 1234) 2))
      ≡ hex "20000000 20000012 70 000000000000000000000000000004d2 02"
  pub of_zone :
      canon (extension (timestamp_tz record { offset = pos 28800; value = pos 1760140800000000 }))
      ≡ hex "20000000 6000000d 30 000640d6b7238000 00007080"
  pub of_interval :
      canon (extension (interval record { months = pos 10; days = pos 20; micros = pos 300 }))
      ≡ hex "20000000 60000011 40 0000000a 00000014 000000000000012c"
  pub of_newer_kind : canon (extension (opaque 0x50 (hex "ab01"))) ≡ hex "20000000 60000003 50 ab01"
  pub of_nested : canon (items (boolean false ∷ whole 10 ∷ members (("k", string "v") ∷ []) ∷ []))
      ≡ hex "80000003 30000000 20000002 5000000e 500a 40000001 10000001 10000001 6b 76"
  pub of_decimals :
      canon (members (("a", number (Int64 (neg 7))) ∷ ("b", number (scaled (pos 150) 2)) ∷ []))
      ≡ hex "40000002 10000001 10000001 20000002 2000000a 61 62 40f9 70 0000000000000096 02"
