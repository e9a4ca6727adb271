-- The names that the clauses of this crate cite, passed on from one place.
pub use Rattle.std.specs.Map.{keys_of, values_of}
pub use Rattle.jsonb_value.specs.ExtCode.{extension_of}
pub use Rattle.jsonb_value.specs.Json.Numeral.{number_of}
pub use Rattle.jsonb_value.specs.Meaning.{Meaning, document, meaning_cmp, other_bytes}
pub use Rattle.jsonb_value.specs.Text.{compact, length_64, pretty}
pub use Rattle.jsonb_value.specs.TextDepth.{text_depth}
pub use Rattle.jsonb_value.specs.Tree.{Extension, Tree, boolean, extension, null, number, text}
pub use Rattle.jsonb_value.specs.WellFormed.{IsExtension}
pub use Rattle.jsonb_value.specs.declared.error.Error.{Error}
pub use Rattle.jsonb_value.specs.declared.number.Number.{Number}
pub use Rattle.json_fault.specs.Fault.{IsFaultUnder, IsJsonUnder}
pub use Rattle.jsonb_codec.specs.Canon.{canon}
pub use Rattle.jsonb_codec.specs.Canonical.{IsCanonical}
pub use Rattle.jsonb_codec.specs.Contents.{PartMeans}
pub use Rattle.jsonb_codec.specs.Depth.{IsDocumentWithin, depth}
pub use Rattle.jsonb_codec.specs.Doc.{Doc, IsDocument}
pub use Rattle.jsonb_codec.specs.Parts.{HasPayload, IsPayloadOf}
pub use Rattle.jsonb.specs.Code.{scalar_bytes}
pub use Rattle.jsonb.specs.Building.{AreTexts}
pub use Rattle.jsonb.specs.Document.{document_bytes, document_tree}
pub use Rattle.jsonb.specs.Entry.{IsEntryIn, entry_there}
pub use Rattle.jsonb.specs.ItemMeaning.{meaning_of}
pub use Rattle.jsonb.specs.Kind.{kind, kind_of_tree}
pub use Rattle.jsonb.specs.Node.{node_tree}
pub use Rattle.jsonb.specs.Owned.{result_bytes}
pub use Rattle.jsonb.specs.Parsing.{ParsesUnder}
pub use Rattle.jsonb.specs.Results.{document_pair}
pub use Rattle.jsonb.specs.SortKey.{key_meaning}
pub use Rattle.jsonb.specs.Texts.{display_text, lined_text, other_text, plain_text}
pub use Rattle.jsonb.specs.Texts.{pretty_display_text}
pub use Rattle.jsonb.specs.Within.{meaning_within}
pub use Rattle.jsonb.specs.declared.entries.Entry.{Entry}
pub use Rattle.jsonb_comparable.specs.KeyLaws.{IsKeyOf}
pub use Rattle.jsonb_comparable.specs.TreeKey.{meaning_key}
pub use Rattle.jsonb_functions.specs.IndexHash.{tree_hashes}
pub use Rattle.jsonb_functions.specs.Joined.{joined}
pub use Rattle.jsonb_functions.specs.Patched.{patched}
pub use Rattle.jsonb_functions.specs.Stripped.{stripped}
pub use Rattle.jsonb_functions.specs.TopKeys.{top_hashes}
pub use Rattle.kohiblad.specs.Children.{CanMove, IsBegun, IsChildWithin, child_at_cursor}
pub use Rattle.kohiblad.specs.Children.{cursor_after, cursor_at, first_value, key_answer, layout_in}
pub use Rattle.kohiblad.specs.Children.{numbered_child, value_answer}
pub use Rattle.kohiblad.specs.EntryTexts.{IsPayloadWithin, IsPrintedPart, entry_fault}
pub use Rattle.kohiblad.specs.Functions.{AreKeysWritten, IsConcatLength, IsContainedAnswer}
pub use Rattle.kohiblad.specs.Functions.{IsEditLength, IsEdited}
pub use Rattle.kohiblad.specs.Functions.{MakesOfOne, MakesOfTwo, WritesTo}
pub use Rattle.kohiblad.specs.Functions.{exists_answer, operation_in, operation_asked}
pub use Rattle.kohiblad.specs.KindAnswer.{kind_answer}
pub use Rattle.kohiblad.specs.Output.{IsLongWrittenOut, IsReadWithin, IsRewrittenWithin}
pub use Rattle.kohiblad.specs.Output.{IsWrittenOut, ReadsAs, rule_of}
pub use Rattle.kohiblad.specs.Parts.{IsPartDocument, is_entry_type, is_too_long, part_document}
pub use Rattle.kohiblad.specs.Places.{AreBothInside, AreMemberPlaces, IsInside, IsItemPlace}
pub use Rattle.kohiblad.specs.Places.{IsMemberHandedOver, IsPartPlace, IsPlaceFound}
pub use Rattle.kohiblad.specs.Places.{IsPlaceHandedOver, IsValuePlace, entry_document}
pub use Rattle.kohiblad.specs.Places.{member_places, part_in, place_answer, place_of_item}
pub use Rattle.kohiblad.specs.Prefix.{IsIndexSought, IsKeySought, prefix_answer}
pub use Rattle.kohiblad.specs.Results.{AreWithin, BuildsArray, BuildsObject, IsMember}
pub use Rattle.kohiblad.specs.Results.{IsOneOfRows, are_pairs, are_rows}
pub use Rattle.kohiblad.specs.Rows.{are_offsets, row_pairs}
pub use Rattle.typed_vector.specs.Cells.{rows, rows_from}
pub use Rattle.kohiblad.specs.Scalars.{IsDecimalOf, IsGivenBy, IsShortExtension, IsShortPayload}
pub use Rattle.kohiblad.specs.Scalars.{coefficient, data_answer, data_of, extension_answer}
pub use Rattle.kohiblad.specs.Scalars.{from_halves, int64_answer, int64_number, is_nonzero}
pub use Rattle.kohiblad.specs.Scalars.{no_decimal, no_extension, no_integer, no_place, no_truth}
pub use Rattle.kohiblad.specs.Scalars.{scale, text_place, truth_answer, why_none}
pub use Rattle.kohiblad.specs.SortOrder.{AreRowsOrdered, IsOrderOf}
pub use Rattle.kohiblad.specs.Status.{IsAnswered, IsHandedOver, IsRefused, code, sign, status_name}
pub use Rattle.kohiblad.specs.Status.{IsLongHandedOver, IsOneAnswered, path_status_name, too_deep}
pub use Rattle.kohiblad.specs.TextFaults.{IsTextExpected, IsTextFault, no_classes, no_fault}
pub use Rattle.kohiblad.specs.TextFaults.{reason_status}
