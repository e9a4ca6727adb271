-- The names that the clauses of this crate cite, passed on from one place.
pub use Rattle.std.specs.BTreeMap.{insert_entry}
pub use Rattle.std.specs.Bool.{OnTrue}
pub use Rattle.std.specs.Cmp.{partial_order_from_own_ties}
pub use Rattle.std.specs.Cmp.Rules.{comparing}
pub use Rattle.std.specs.Ordering.{as_partial_cmp}
pub use Rattle.jsonb_value.specs.Ast.{AscendEverywhere, ast_tree}
pub use Rattle.jsonb_value.specs.ExtCode.{extension_of}
pub use Rattle.jsonb_value.specs.Norm.{norm}
pub use Rattle.jsonb_value.specs.Plain.{IsPlain}
pub use Rattle.jsonb_value.specs.Text.{compact, pretty}
pub use Rattle.jsonb_value.specs.Tree.{Pairs, Tree, Trees, extension, no_pairs, no_trees, number}
pub use Rattle.jsonb_value.specs.Tree.{text}
pub use Rattle.jsonb_value.specs.Value.{items_view, pairs_view, tree_of}
pub use Rattle.jsonb_value.specs.WellFormed.{IsTree}
pub use Rattle.jsonb_value.specs.declared.value.Value.{Value}
pub use Rattle.jsonb_codec.specs.Ascii.{IsAsciiWithin}
pub use Rattle.jsonb_codec.specs.Canon.{canon, document_of, shape_of}
pub use Rattle.jsonb_codec.specs.Canonical.{AreWritten, IsCanonical, IsWritten}
pub use Rattle.jsonb_codec.specs.Code.{code_of, scalar_code}
pub use Rattle.jsonb_codec.specs.Contents.{AreChildren, AreContents, AreInside, AreMembers}
pub use Rattle.jsonb_codec.specs.Contents.{FirstMember, PartMeans}
pub use Rattle.jsonb_codec.specs.Decoder.{input_of}
pub use Rattle.jsonb_codec.specs.Depth.{size}
pub use Rattle.jsonb_codec.specs.Doc.{Doc, IsDocument, Payload}
pub use Rattle.jsonb_codec.specs.DocumentBytes.{bytes_of}
pub use Rattle.jsonb_codec.specs.DocumentLaws.{DocumentLaws}
pub use Rattle.jsonb_codec.specs.Encoder.{ast_buffer, buffer}
pub use Rattle.jsonb_codec.specs.Fault.{IsDecoderFault, IsTreeFault}
pub use Rattle.jsonb_codec.specs.JEntry.{jentry_at, jentry_cmp, jentry_of}
pub use Rattle.jsonb_codec.specs.PartSource.{part_laws, part_meaning}
pub use Rattle.jsonb_codec.specs.Made.{MadeIfFit}
pub use Rattle.jsonb_codec.specs.Parts.{IsFaultOf, IsObject}
pub use Rattle.jsonb_codec.specs.Reread.{MeansAgain}
pub use Rattle.jsonb_codec.specs.Rewriting.{ContainerParts, FirstChild}
pub use Rattle.jsonb_codec.specs.Room.{AppendsBytes, HasRoom, HasWordsAt}
pub use Rattle.jsonb_codec.specs.Shape.{AllFit, FitsEntry, FitsInside, Shape, Shapes, body}
pub use Rattle.jsonb_codec.specs.Shape.{shape_count}
pub use Rattle.jsonb_codec.specs.Shape.{document, entries, key_entries, key_payloads, payload}
pub use Rattle.jsonb_codec.specs.Shape.{payloads, shape_type}
pub use Rattle.jsonb_codec.specs.Source.{LevelIs, LevelHeld, level_size}
pub use Rattle.jsonb_codec.specs.Stored.{code_of_some, part_code, stored_laws, stored_meaning}
pub use Rattle.jsonb_codec.specs.ValueSource.{ast_laws, ast_meaning, value_laws, value_meaning}
pub use Rattle.jsonb_codec.specs.WordBytes.{header_at, header_of, word, word_at}
pub use Rattle.jsonb_codec.specs.Writing.{AreFew, CanGoOn, CanWrite, TakesLeft}
