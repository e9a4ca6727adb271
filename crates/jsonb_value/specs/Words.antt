-- The names that the clauses of this crate cite, passed on from one place.
pub use Rattle.std.specs.BTreeMap.{IsFromIterResult, insert_entry}
pub use Rattle.std.specs.Bool.{OnTrue}
pub use Rattle.std.specs.Char.{digit_value, is_ascii_digit}
pub use Rattle.std.specs.Cmp.{IsTotalOrder}
pub use Rattle.std.specs.Cmp.Lexicographic.{slice_cmp}
pub use Rattle.std.specs.Fmt.{WritesStyledOnOk, digit_glyph}
pub use Rattle.std.specs.Int.{to_be_bytes, w128, w32, w64}
pub use Rattle.std.specs.List.{list_all, prefix_len}
pub use Rattle.std.specs.Ordering.{int_cmp, nat_cmp}
pub use Rattle.std.specs.Simd.Lanes.{mask_l}
pub use Rattle.std.specs.Str.Parse.{digits_value}
pub use Rattle.std.specs.declared.cmp.Ordering.TheVariants.{Less}
pub use Rattle.jsonb_value.specs.Appended.{Appends}
pub use Rattle.jsonb_value.specs.Ast.{AllAscend, AscendEverywhere, PairsAscend, ast_pairs_view}
pub use Rattle.jsonb_value.specs.Ast.{ast_tree, asts_view}
pub use Rattle.jsonb_value.specs.ErrorName.{name_of}
pub use Rattle.jsonb_value.specs.ExtCode.{ExtCode, HasKnownTag, IsInterval, IsOldZoned, IsZoned}
pub use Rattle.jsonb_value.specs.ExtCode.{extension_of, extension_payload, opaque_bytes, opaque_tag}
pub use Rattle.jsonb_value.specs.Json.Characters.{is_blank, is_not_blank, is_exponent_mark}
pub use Rattle.jsonb_value.specs.Json.Numeral.{decimal_number, number_of, scaled_number}
pub use Rattle.jsonb_value.specs.Json.Numeral.{signed_number, whole_number}
pub use Rattle.jsonb_value.specs.Json.Piece.{escape_value, is_plain, pair_character, unit4}
pub use Rattle.jsonb_value.specs.Json.Piece.{unit_character, unit_value}
pub use Rattle.jsonb_value.specs.Json.Syntax.{Json, JsonText, JsonWithExponents}
pub use Rattle.jsonb_value.specs.Meaning.{meaning_cmp}
pub use Rattle.jsonb_value.specs.Norm.{norm}
pub use Rattle.jsonb_value.specs.NumCode.{NumCode, decimal_payload, int_payload, is_within}
pub use Rattle.jsonb_value.specs.NumCode.{number_payload, uint_payload}
pub use Rattle.jsonb_value.specs.Order.{extension_cmp, fraction_of, number_cmp}
pub use Rattle.jsonb_value.specs.ParseErrorName.{parse_error_name}
pub use Rattle.jsonb_value.specs.Payload.{IsDecimalLength, IsSigned, IsSignedNumber}
pub use Rattle.jsonb_value.specs.Payload.{IsUnsignedNumber, IsWholeLength}
pub use Rattle.jsonb_value.specs.Reader.Content.{members_held}
pub use Rattle.jsonb_value.specs.Reader.Digits.{AreDigits, IsCounted, HasInteger, IsShort}
pub use Rattle.jsonb_value.specs.Reader.Gives.{Fails, Gives}
pub use Rattle.jsonb_value.specs.Reader.Kind.{kind_view}
pub use Rattle.jsonb_value.specs.Reader.Reading.{after_digits, expect, expect_all, front_digits}
pub use Rattle.jsonb_value.specs.Reader.Reading.{number_kind, read_array, read_character}
pub use Rattle.jsonb_value.specs.Reader.Reading.{read_either_sign, read_element, read_escape}
pub use Rattle.jsonb_value.specs.Reader.Reading.{read_exponent, read_fraction, read_integer}
pub use Rattle.jsonb_value.specs.Reader.Reading.{read_kind, read_member, read_number, read_object}
pub use Rattle.jsonb_value.specs.Reader.Reading.{read_piece, read_second, read_sign, read_text}
pub use Rattle.jsonb_value.specs.Reader.Reading.{read_unit, read_value, read_whole, read_word}
pub use Rattle.jsonb_value.specs.Reader.Reading.{skip_blank, string_kind}
pub use Rattle.jsonb_value.specs.Text.{NoneEscaped, byte_text, decimal_text, ends, escape}
pub use Rattle.jsonb_value.specs.Text.{extension_text, hex_byte, hex_text, is_escaped, number_text}
pub use Rattle.jsonb_value.specs.Text.{length_64, point_text, string_text}
pub use Rattle.jsonb_value.specs.TextDepth.{HasDepthOfSpelled, level_after, state_after, text_depth}
pub use Rattle.jsonb_value.specs.Tree.{Ascend, Extension, Tree, date, interval, object, text}
pub use Rattle.jsonb_value.specs.Tree.{timestamp, timestamp_tz}
pub use Rattle.jsonb_value.specs.TreeOrder.{rank_of, tree_cmp}
pub use Rattle.jsonb_value.specs.Value.{cow_bytes, pairs_view, tree_of}
pub use Rattle.jsonb_value.specs.declared.error.Error.TheVariants.{OutOfMemory}
pub use Rattle.jsonb_value.specs.declared.number.Number.{Number}
pub use Rattle.jsonb_value.specs.declared.within.ParseError.TheVariants.{Refused}
