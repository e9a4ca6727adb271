-- The names that the clauses of this crate cite, passed on from one place.
pub use Rattle.jsonb_value.specs.Json.Numeral.{number_of}
pub use Rattle.jsonb_value.specs.Tree.{number}
pub use Rattle.jsonb.specs.StoredRow.{row_bytes}
pub use Rattle.jsonb_typed.specs.Scalars.{type_bytes}
pub use Rattle.jsonb_typed.specs.declared.scalar.ScalarType.{ScalarType}
pub use Rattle.jsonb_typed_file.specs.Layout.{Contents, HasOtherVersion, IsColumn, IsLayout, Parts}
pub use Rattle.jsonb_typed_file.specs.Layout.{column_bytes, columns_bytes, header}
pub use Rattle.jsonb_typed_file.specs.Layout.{magic, EndsEarly, HasNoMagic}
pub use Rattle.jsonb_typed_file.specs.Layout.{HasTrailingData, IsCutOff}
pub use Rattle.jsonb_typed_file.specs.Views.{buffers_view, layout_view}
pub use Rattle.jsonb_typed_file.specs.Values.{AreColumnTexts, Column, HasRows, HasTexts, IsChecked}
pub use Rattle.jsonb_typed_file.specs.Values.{IsSpanAt, IsTextOfRow, cell_within, column_cell}
pub use Rattle.jsonb_typed_file.specs.Values.{date_in, extension_at, fixed_value, interval_in}
pub use Rattle.jsonb_typed_file.specs.Values.{is_set, number_at, number_size, string_at}
pub use Rattle.jsonb_typed_file.specs.Values.{timestamp_in, value_size, value_tree}
pub use Rattle.jsonb_typed_file.specs.Values.{zoned_timestamp_in}
pub use Rattle.jsonb_typed_file.specs.ValueViews.{members_view, stored_view, value_code}
pub use Rattle.jsonb_typed_file.specs.File.{AscendNames, HaveRows, HaveTexts, IsFile, IsFileWithin}
pub use Rattle.jsonb_typed_file.specs.File.{IsInForm, IsLayoutTold, IsRestAt, LengthsFit}
pub use Rattle.jsonb_typed_file.specs.File.{NestWithin, column_named, rest_at, row_count}
pub use Rattle.jsonb_typed_file.specs.Rows.{IsMadeRow, column_members, row_tree, with_fields}
pub use Rattle.jsonb_value.specs.ExtCode.{extension_of}
pub use Rattle.jsonb_value.specs.Norm.{norm}
pub use Rattle.jsonb_value.specs.Tree.{Ascend, Ascends, object, pair}
pub use Rattle.jsonb_value.specs.WellFormed.{IsExtension, IsNumber, IsTree}
pub use Rattle.jsonb_codec.specs.Canon.{Fits, canon}
pub use Rattle.jsonb_codec.specs.Code.{code_of}
pub use Rattle.jsonb_codec.specs.Depth.{IsDocumentWithin}
pub use Rattle.jsonb_codec.specs.Doc.{Doc}
pub use Rattle.jsonb_codec.specs.Made.{MadeIfFit}
pub use Rattle.jsonb.specs.Document.{document_bytes, document_tree}
pub use Rattle.jsonb.specs.Node.{HoldsNoScalar, node_tree, value_of_key}
pub use Rattle.jsonb.specs.Owned.{owned_bytes}
