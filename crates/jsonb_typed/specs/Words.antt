-- The names that the clauses of this crate cite, passed on from one place.
pub use Rattle.std.specs.Int.{w128}
pub use Rattle.std.specs.List.{after_first, before_first}
pub use Rattle.jsonb_value.specs.ExtCode.{extension_of}
pub use Rattle.jsonb_value.specs.Json.Numeral.{number_of}
pub use Rattle.jsonb_value.specs.Order.{fraction_of}
pub use Rattle.jsonb_value.specs.Tree.{Tree, boolean, date, extension, interval, timestamp}
pub use Rattle.jsonb_value.specs.Tree.{timestamp_tz}
pub use Rattle.jsonb_codec.specs.Doc.{Doc, IsDocument}
pub use Rattle.jsonb_codec.specs.Made.{MadeIfFit}
pub use Rattle.jsonb.specs.Code.{HasDocument, IsSignedZero}
pub use Rattle.jsonb.specs.Document.{document_tree}
pub use Rattle.jsonb.specs.declared.document.Document.{Document}
pub use Rattle.jsonb.specs.Node.{HoldsNoScalar, IsContainer, node_tree, node_view}
pub use Rattle.jsonb.specs.Owned.{owned_bytes}
pub use Rattle.jsonb_functions.specs.Found.{found_at}
pub use Rattle.jsonb_functions.specs.declared.path.Step.{Step}
pub use Rattle.typed_vector.specs.Cells.{Cell, rest_cell}
pub use Rattle.jsonb_typed.specs.Cells.{HasCell, IsCellAt, IsCellOf, IsCellOfRow}
pub use Rattle.jsonb_typed.specs.Numbers.{IsNumberAt}
pub use Rattle.jsonb_typed.specs.Types.{HoldsScalars, IsAtScale, IsBinary, IsDecimalAt, IsInt64}
pub use Rattle.jsonb_typed.specs.Types.{IsText, IsUInt64, extension_tree}
pub use Rattle.jsonb_typed.specs.Scalars.{IsOfScalarType, ScalarOf, Stands, type_bytes}
pub use Rattle.jsonb_typed.specs.ScalarLaws.{scalar_boolean, scalar_extension, scalar_number}
pub use Rattle.jsonb_typed.specs.LeastTypes.{IsFirstHeld, IsHeldAt, IsHeldIn, IsValueOf}
pub use Rattle.jsonb_typed.specs.LeastTypes.{member_scale, rows_scale, types_in_order}
pub use Rattle.jsonb_typed.specs.TypeNames.{IsScale, IsType, ends_word, scale_of_digits}
pub use Rattle.jsonb_typed.specs.TypeNames.{scalar_type_named, scalar_type_word, type_named}
pub use Rattle.jsonb_typed.specs.TypeNames.{type_text, type_word}
pub use Rattle.jsonb_typed.specs.TypeValues.{LeavesNull, StandsIn, ValueOf}
pub use Rattle.jsonb_typed.specs.Surveys.{cell_found, is_tree, member_cell, no_rows, one_more}
pub use Rattle.jsonb_typed.specs.Surveys.{survey_of, widened, with_cell, with_extension}
pub use Rattle.jsonb_typed.specs.Surveys.{with_number, with_number_kind, with_row, with_text}
pub use Rattle.jsonb_typed.specs.Surveys.{with_tree}
pub use Rattle.jsonb_typed.specs.declared.lattice.LeastType.{LeastType}
pub use Rattle.jsonb_typed.specs.declared.lattice.LeastType.TheVariants.{Mixed}
pub use Rattle.jsonb_typed.specs.declared.numbers.Fit.{Fit}
pub use Rattle.jsonb_typed.specs.declared.scalar.ScalarType.{ScalarType}
