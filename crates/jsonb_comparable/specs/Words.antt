-- The names that the clauses of this crate cite, passed on from one place.
pub use Rattle.std.specs.Cmp.{on_equiv, on_per, on_po, on_total, partial_equiv_from_equiv}
pub use Rattle.std.specs.Cmp.Lexicographic.{nat_list_cmp_total, nat_list_eq_equiv, pointwise}
pub use Rattle.std.specs.Cmp.Lexicographic.{slice_cmp, texts_po, texts_ties}
pub use Rattle.std.specs.Cmp.Rules.{hashing}
pub use Rattle.std.specs.Iterator.{YieldsFirstBy}
pub use Rattle.std.specs.Ordering.{nat_cmp, ordering_then}
pub use Rattle.jsonb_value.specs.ExtCode.{extension_of}
pub use Rattle.jsonb_value.specs.Meaning.{document}
pub use Rattle.jsonb_value.specs.Order.{extension_kind}
pub use Rattle.jsonb_value.specs.Tree.{Tree}
pub use Rattle.jsonb_value.specs.TreeOrder.{tree_cmp}
pub use Rattle.jsonb_value.specs.Value.{trees_of}
pub use Rattle.jsonb_value.specs.WellFormed.{AreTrees, IsTree}
pub use Rattle.jsonb_codec.specs.Doc.{Doc}
pub use Rattle.jsonb_codec.specs.Room.{AppendsBytes, HasRoom}
pub use Rattle.jsonb.specs.Document.{document_tree}
pub use Rattle.jsonb.specs.EntryTrees.{rest_pairs, rest_trees}
pub use Rattle.jsonb.specs.ItemMeaning.{meaning_of}
pub use Rattle.jsonb.specs.Node.{HoldsNoScalar, IsContainer, array_of, member_tree, node_tree}
pub use Rattle.jsonb.specs.Node.{object_of, pairs_of}
pub use Rattle.jsonb.specs.SortKey.{key_meaning}
pub use Rattle.jsonb.specs.Within.{meaning_within}
pub use Rattle.jsonb_comparable.specs.ComparableKey.{comparable_bytes}
pub use Rattle.jsonb_comparable.specs.Escaped.{escaped}
pub use Rattle.jsonb_comparable.specs.ExtensionKey.{biased, biased_32, biased_64, extension_key}
pub use Rattle.jsonb_comparable.specs.ExtensionKey.{fields_key}
pub use Rattle.jsonb_comparable.specs.KeyLaws.{IsKeyOf, KeyLaws}
pub use Rattle.jsonb_comparable.specs.NumberKey.{count_bytes, decimal_key, natural_key, number_key}
pub use Rattle.jsonb_comparable.specs.Sink.{CountsBytes, SinkLaws, length_64}
pub use Rattle.jsonb_comparable.specs.SinkProofs.{length_laws, vec_laws}
pub use Rattle.jsonb_comparable.specs.SplitDigits.{digits_value, signed, split_pairs}
pub use Rattle.jsonb_comparable.specs.TreeKey.{meaning_key, member_key, pairs_key}
pub use Rattle.jsonb_comparable.specs.TreeKey.{tree_key, trees_key}
