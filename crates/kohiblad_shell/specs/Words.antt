-- The names that the clauses of this crate cite, passed on from one place.
pub use Rattle.std.specs.Io.BufRead.{strip_last}
pub use Rattle.std.specs.Io.KnownBytes.{Appends, Keeps}
pub use Rattle.answer_lines.specs.Output.{AppendsPrefix}
pub use Rattle.std.specs.IoError.{error_kind}
pub use Rattle.std.specs.Cmp.{on_equiv, on_per, on_po, on_total, partial_equiv_from_equiv}
pub use Rattle.std.specs.Cmp.Lexicographic.{nat_list_cmp_total, nat_list_eq_equiv, pointwise}
pub use Rattle.std.specs.Cmp.Lexicographic.{slice_cmp, texts_po, texts_ties}
pub use Rattle.std.specs.Ordering.{nat_cmp}
pub use Rattle.jsonb_comparable.specs.TreeKey.{tree_key}
pub use Rattle.jsonb_comparable.specs.NumberKey.{complemented}
pub use Rattle.kohiblad_shell.specs.Keys.{AppendsKey, directed, path_key, path_keys, row_key}
pub use Rattle.kohiblad_shell.specs.KeyOrder.{KeysDecide}
pub use Rattle.kohiblad_shell.specs.SortPaths.{SaysDirection}
pub use Rattle.kohiblad_shell.specs.KeyProofs.{key_laws}
pub use Rattle.kohiblad_shell.specs.Sorts.{AreSorted, arranged, distinct, has_key, key_and_line}
pub use Rattle.kohiblad_shell.specs.Sorts.{keyed_bytes, keyed_key, keyed_line, turned}
pub use Rattle.kohiblad_shell.specs.Halts.{IsWriteHalt, halt_of_read, halt_of_write}
pub use Rattle.kohiblad_shell.specs.Halts.{halt_of_fault, halt_reason, halt_status}
pub use Rattle.kohiblad_shell.specs.Halts.{both, of_reports, run_status, stopped_at_start, summary_status}
pub use Rattle.kohiblad_shell.specs.declared.halt.Halt.TheVariants.{Memory}
pub use Rattle.jsonb_codec.specs.Canon.{canon, Fits}
pub use Rattle.jsonb_codec.specs.Depth.{IsDocumentWithin}
pub use Rattle.jsonb_codec.specs.Doc.{IsDocument}
pub use Rattle.json_fault.specs.Fault.{IsFaultUnder, IsJsonUnder}
pub use Rattle.jsonb.specs.Owned.{owned_bytes, result_bytes}
pub use Rattle.jsonb.specs.Parsing.{ParsesUnderWithin}
pub use Rattle.jsonb_functions.specs.MadeWithMemory.{MadeWithMemory}
pub use Rattle.clap.specs.Matches.{first_value, found_of}
pub use Rattle.kohiblad_shell.specs.Arguments.{IsFlag, are_documents, are_texts, is_pretty}
pub use Rattle.kohiblad_shell.specs.Arguments.{are_items, are_values, is_raw, is_tsv}
pub use Rattle.kohiblad_shell.specs.Arguments.{colors_of, exponents_of, form_of, shows_of}
pub use Rattle.kohiblad_shell.specs.Arguments.{stops_of, text_or}
pub use Rattle.kohiblad_shell.specs.Arguments.{value_of, values_of}
pub use Rattle.kohiblad_shell.specs.Commands.{passes_empty_lines}
pub use Rattle.kohiblad_shell.specs.Escapes.{escape, escaped_text, escaped_unit, is_escaped}
pub use Rattle.kohiblad_shell.specs.Escapes.{shown_char}
pub use Rattle.kohiblad_shell.specs.Expected.{expected_text, explained_text, found_text}
pub use Rattle.kohiblad_shell.specs.Expected.{listed_classes, mark_before}
pub use Rattle.kohiblad_shell.specs.Faults.{bad_document, fault_line, is_cut, plain_fault}
pub use Rattle.kohiblad_shell.specs.Faults.{array_fault_name, reason_name, reason_text}
pub use Rattle.kohiblad_shell.specs.Inputs.{AppendsHeld, AppendsHeldLine, ReadsLine, ReadsPart}
pub use Rattle.kohiblad_shell.specs.Inputs.{ReadsRow, framed, is_passed_over}
pub use Rattle.kohiblad_shell.specs.Inputs.{made_row}
pub use Rattle.kohiblad_shell.specs.Kinds.{compressed_kind, foreign_kind, input_kind}
pub use Rattle.kohiblad_shell.specs.Kinds.{is_document_start, is_text_start, kind_words}
pub use Rattle.kohiblad_shell.specs.Marks.{PassesMark}
pub use Rattle.kohiblad_shell.specs.Outcomes.{AnswersNext, IsAnswer, IsOutcome, KeepsRule, LineRule}
pub use Rattle.kohiblad_shell.specs.Outcomes.{after_answer, gives_nothing, row_count, stops_at}
pub use Rattle.kohiblad_shell.specs.Rows.{IsCharacterAt, IsNotJson, IsParsed}
pub use Rattle.kohiblad_shell.specs.Rows.{IsRefusedLine, IsRefusedRow, IsRow}
pub use Rattle.kohiblad_shell.specs.Rows.{line_reason, unanswered_of}
pub use Rattle.kohiblad_shell.specs.Extracts.{IsCsvLine, IsField, IsFieldAt, IsFieldBy}
pub use Rattle.kohiblad_shell.specs.Extracts.{IsFieldOf, IsScalarField, IsTableLine, IsTypedLine}
pub use Rattle.kohiblad_shell.specs.Extracts.{plain_text, value_text}
pub use Rattle.kohiblad_shell.specs.TableTexts.{absent_field, csv_text, doubled, ends_field}
pub use Rattle.kohiblad_shell.specs.TableTexts.{escape_letter, is_quoted, separator, text_field}
pub use Rattle.kohiblad_shell.specs.TableTexts.{tsv_text}
pub use Rattle.kohiblad_shell.specs.Columns.{IsColumnWord, IsPlainName, column_words, heading}
pub use Rattle.kohiblad_shell.specs.Columns.{heading_line, is_column, is_equals, is_name_byte}
pub use Rattle.kohiblad_shell.specs.Columns.{is_named}
pub use Rattle.kohiblad_shell.specs.Extracts.{IsDatedField, IsShownField}
pub use Rattle.kohiblad_shell.specs.Extracts.{ShowsDate, ShowsTimestamp, ShowsZoned}
pub use Rattle.kohiblad_shell.specs.IsoForms.{IsBeyondClock, IsBeyondYears, IsDayText}
pub use Rattle.kohiblad_shell.specs.IsoForms.{IsPlainOffset, IsPlainTime, IsWallText}
pub use Rattle.kohiblad_shell.specs.IsoForms.{IsZonedText, ends_in_zero, is_minute_offset}
pub use Rattle.kohiblad_shell.specs.IsoTexts.{SaysDate, SaysTimestamp, SaysZoned, begins_time}
pub use Rattle.kohiblad_shell.specs.IsoTexts.{calendar_day, clock_second, digit_or_zero}
pub use Rattle.kohiblad_shell.specs.IsoTexts.{digit_pair, digits_millionths, is_utc, iso_day}
pub use Rattle.kohiblad_shell.specs.IsoTexts.{iso_millionths, iso_offset, iso_second, iso_wall}
pub use Rattle.kohiblad_shell.specs.IsoTexts.{iso_zoned, offset_of_parts, wall_micros}
pub use Rattle.kohiblad_shell.specs.IsoTexts.{wall_of_parts, wall_said}
pub use Rattle.kohiblad_shell.specs.Ranges.{is_in_range, is_tree_in}
pub use Rattle.kohiblad_shell.specs.Removals.{IsRemoved, begins_path, path_count, without}
pub use Rattle.kohiblad_shell.specs.Removals.{without_each, without_one}
pub use Rattle.kohiblad_shell.specs.Sizes.{EndsInLetter, HasUnit, IsCount, IsDecimal}
pub use Rattle.kohiblad_shell.specs.Sizes.{IsLetter, IsMemory, IsScaled, IsSize, digits_value}
pub use Rattle.kohiblad_shell.specs.Runs.{BeginsRun, IsRun}
pub use Rattle.kohiblad_shell.specs.Searches.{is_match, is_searched, text_of}
pub use Rattle.kohiblad_shell.specs.Surveys.{container_count_lines, count_line}
pub use Rattle.kohiblad_shell.specs.Surveys.{extension_count_lines, length_lines}
pub use Rattle.kohiblad_shell.specs.Surveys.{number_count_lines, row_count_lines}
pub use Rattle.kohiblad_shell.specs.Surveys.{scale_lines, survey_lines, time_count_lines}
pub use Rattle.kohiblad_shell.specs.Surveys.{document_rule, with_row}
pub use Rattle.kohiblad_shell.specs.SurveyJson.{container_count_members, count_member}
pub use Rattle.kohiblad_shell.specs.SurveyJson.{count_members}
pub use Rattle.kohiblad_shell.specs.SurveyJson.{extension_count_members, length_members}
pub use Rattle.kohiblad_shell.specs.SurveyJson.{number_count_members, row_count_members}
pub use Rattle.kohiblad_shell.specs.SurveyJson.{scales_json, survey_json, time_count_members}
pub use Rattle.kohiblad_shell.specs.declared.input.Form.TheVariants.{Documents}
pub use Rattle.kohiblad_shell.specs.declared.outcome.Unanswered.TheVariants.{OutOfMemory, Wrong}
pub use Rattle.hex.specs.Hex.{encode_lower}
pub use Rattle.jsonb_value.specs.ExtCode.{extension_of}
pub use Rattle.jsonb_value.specs.Json.Characters.{is_blank}
pub use Rattle.jsonb_value.specs.Text.{compact, extension_text, number_text}
pub use Rattle.jsonb_typed.specs.Types.{IsBinary, IsText}
pub use Rattle.jsonb_typed.specs.declared.scalar.ScalarType.{ScalarType}
pub use Rattle.jsonb.specs.Document.{document_bytes, document_tree}
pub use Rattle.jsonb.specs.Node.{HoldsNoScalar, node_tree}
pub use Rattle.kohiblad_shell.specs.Operations.{IsCanonicalRow, IsResultOf}
pub use Rattle.kohiblad_shell.specs.Operations.{IsRowAnswer, changed, document_line, kept_row}
pub use Rattle.kohiblad_shell.specs.Operations.{raw_text, read_row_rule, row_rule}
pub use Rattle.kohiblad_shell.specs.Operations.{value_line, value_lines}
