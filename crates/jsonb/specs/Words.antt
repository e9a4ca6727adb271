-- The names that the clauses of this crate cite, passed on from one place.
pub use Rattle.std.specs.Cmp.{IsTotalOrder, eq_by_cmp_equiv, on_total, partial_equiv_from_equiv}
pub use Rattle.std.specs.Cmp.{partial_order_from_total}
pub use Rattle.std.specs.Cmp.Lexicographic.{pointwise, slice_cmp}
pub use Rattle.std.specs.Cmp.Rules.{comparing}
pub use Rattle.std.specs.Fmt.{WritesStyledOnOk, formatter_writer}
pub use Rattle.std.specs.Fn.{FnReturnsAtPair}
pub use Rattle.std.specs.Iterator.{IsFinite, MakesProgress, YieldsFirstBy, item_count}
pub use Rattle.std.specs.List.{AllByRecursion}
pub use Rattle.std.specs.List.Sorted.{IsStable, IsStrictlySortedBy}
pub use Rattle.std.specs.Map.{keys_of, values_of}
pub use Rattle.std.specs.Ordering.{as_partial_cmp, eq_by_cmp, nat_cmp, on}
pub use Rattle.jsonb_value.specs.ExtCode.{ExtCode, extension_of}
pub use Rattle.jsonb_value.specs.Json.Syntax.{Json, JsonText, JsonWithExponents}
pub use Rattle.jsonb_value.specs.Meaning.{document, meaning_cmp, other_bytes}
pub use Rattle.jsonb_value.specs.Norm.{norm}
pub use Rattle.jsonb_value.specs.NumCode.{NumCode}
pub use Rattle.jsonb_value.specs.Plain.{IsPlain}
pub use Rattle.jsonb_value.specs.Text.{colon_text, compact, extension_text, in_one_line}
pub use Rattle.jsonb_value.specs.Text.{inside, laid_out}
pub use Rattle.jsonb_value.specs.Text.{length_64, line_start}
pub use Rattle.jsonb_value.specs.Text.{pretty, quoted_text}
pub use Rattle.jsonb_value.specs.Tree.{Extension, Pairs, Tree, Trees, array, no_pairs, no_trees}
pub use Rattle.jsonb_value.specs.Tree.{pair, text, tree}
pub use Rattle.jsonb_value.specs.TreeOrder.{tree_cmp}
pub use Rattle.jsonb_value.specs.Value.{cow_bytes, tree_of}
pub use Rattle.jsonb_value.specs.WellFormed.{IsTree}
pub use Rattle.jsonb_value.specs.declared.number.Number.{Number}
pub use Rattle.jsonb_value.specs.declared.number.Number.TheVariants.{Int64}
pub use Rattle.jsonb_codec.specs.Canon.{Fits, canon}
pub use Rattle.jsonb_codec.specs.Canonical.{IsCanonical}
pub use Rattle.jsonb_codec.specs.Made.{MadeIfFit}
pub use Rattle.jsonb_codec.specs.Code.{code_of, payload_bytes}
pub use Rattle.jsonb_codec.specs.Contents.{AreMembers}
pub use Rattle.jsonb_codec.specs.Depth.{IsDocumentWithin, depth}
pub use Rattle.jsonb_codec.specs.Doc.{Doc, IsDocument}
pub use Rattle.jsonb_codec.specs.Fault.{IsTreeFault}
pub use Rattle.jsonb_codec.specs.JEntry.{jentry_at}
pub use Rattle.jsonb_codec.specs.Reread.{MeansAgain}
pub use Rattle.jsonb_codec.specs.Stored.{code_of_some}
pub use Rattle.jsonb_codec.specs.WordBytes.{header_at, word_at}
pub use Rattle.jsonb_codec.specs.declared.constants.TheConstants.{CONTAINER_TAG, EXTENSION_TAG}
pub use Rattle.jsonb_codec.specs.declared.constants.TheConstants.{NUMBER_TAG}
pub use Rattle.jsonb_codec.specs.declared.constants.TheConstants.{OBJECT_CONTAINER_TAG}
pub use Rattle.jsonb.specs.Building.{AreKeys, FitArray, FitObject, IsArrayOf, IsObjectOf, has_key}
pub use Rattle.jsonb.specs.Building.{in_order, with_pair}
pub use Rattle.jsonb.specs.Canonical.{RewritesTo}
pub use Rattle.jsonb.specs.Children.{AreShown, AreShownAt, HasSameEntry, ItemPairs, pairs_by}
pub use Rattle.jsonb.specs.Children.{raw_view}
pub use Rattle.jsonb.specs.Code.{CanBeStored, HasDocument, IsSignedZero, ItemMeans}
pub use Rattle.jsonb.specs.Code.{extension_bytes, item_document, number_bytes, scalar_bytes}
pub use Rattle.jsonb.specs.Contents.{AreStoredIn, contents_tree}
pub use Rattle.jsonb.specs.CutKeys.{IsFirstUnread, NoneOfSize}
pub use Rattle.jsonb.specs.Document.{document_bytes, document_tree}
pub use Rattle.jsonb.specs.DocumentWalk.{IsItemIn, IsItemOf, WalksChildren, WalksEntries}
pub use Rattle.jsonb.specs.DocumentWalk.{WalksMembers, WalksPairs}
pub use Rattle.jsonb.specs.Entry.{IsEntryIn, entry_read, entry_there}
pub use Rattle.jsonb.specs.Entries.{entries_of}
pub use Rattle.jsonb.specs.EntryTrees.{part_tree, rest_pairs, rest_trees}
pub use Rattle.jsonb.specs.Item.{extension_item, item_in, item_of, number_item}
pub use Rattle.jsonb.specs.Item.{scalar_item, text_item}
pub use Rattle.jsonb.specs.ItemMeaning.{item_meaning, meaning_of, owned_meaning, raw_meaning}
pub use Rattle.jsonb.specs.ItemMeaning.{view_meaning}
pub use Rattle.jsonb.specs.ItemValues.{extension_of_item, extension_source, number_of_item}
pub use Rattle.jsonb.specs.ItemValues.{number_source}
pub use Rattle.jsonb.specs.ItemView.{ItemView, extension, item_view, null, pair_view, result_view}
pub use Rattle.jsonb.specs.Kind.{kind, kind_of_tree, kind_of_type, kind_rank, rank_order}
pub use Rattle.jsonb.specs.Lines.{HasIndentRoom, next_key, pair_text}
pub use Rattle.jsonb.specs.Lookup.{AnswersBy, IsItemFound, IsRefusal, LooksUp, LooksUpBytes}
pub use Rattle.jsonb.specs.Lookup.{LooksUpIn, LooksUpInBytes, find, find_pair, count_in_header}
pub use Rattle.jsonb.specs.Lookup.{FindsEntry, FindsKey, FindsWord, found_view, value_view}
pub use Rattle.jsonb.specs.Node.{HoldsNoScalar, IsContainer, array_of, container_of, first_key_of}
pub use Rattle.jsonb.specs.Node.{item_at_index, items_of, members_of, node_tree, node_view}
pub use Rattle.jsonb.specs.Node.{object_of, value_of_key, words_for_key}
pub use Rattle.jsonb.specs.Owned.{result_bytes, owned_bytes}
pub use Rattle.jsonb.specs.Parts.{HasParts, IsPlaceOf, part_length, part_start}
pub use Rattle.jsonb.specs.Payloads.{extension_error}
pub use Rattle.jsonb.specs.Prefix.{AsksAtMost, FindsPlace, IsFoundInDocument, IsKeyProgress}
pub use Rattle.jsonb.specs.Prefix.{IsIndexProgress, index_stops, is_name, key_stops, next_stop}
pub use Rattle.jsonb.specs.Raw.{raw_bytes}
pub use Rattle.jsonb.specs.Written.{written_text}
pub use Rattle.jsonb.specs.Results.{AllMean, AllMeanAt, AreWithinLimits, IsArrayOfDocuments}
pub use Rattle.jsonb.specs.Results.{IsArrayOfInputs, IsArrayUpToZeros, IsObjectOfDocuments}
pub use Rattle.jsonb.specs.Results.{IsObjectOfInputs, IsObjectUpToZeros, MakeNoObject}
pub use Rattle.jsonb.specs.Results.{PairsExceedLimits, TakesAll, TakesUpTo, document_pair}
pub use Rattle.jsonb.specs.Results.{AreDistinctWith, PairsAreWithinLimits, input_pair, raw_pairs}
pub use Rattle.jsonb.specs.SortKey.{key_meaning}
pub use Rattle.jsonb.specs.StoredEntries.{IsEntryAt, IsFoundIn, IsItemFoundIn, entry_item}
pub use Rattle.jsonb.specs.StoredRow.{BeginsWith, row_bytes}
pub use Rattle.jsonb.specs.Storage.{IsHeld, IsStored, document_code, pair_of, stored_code}
pub use Rattle.jsonb.specs.Tally.{CountsOneLess, CountsOneMore, Lists, SetsCount, Tally, count_at}
pub use Rattle.jsonb.specs.Tally.{count_of, has_equal, list_with}
pub use Rattle.jsonb.specs.Parsing.{IsParsed, IsParsedUnder, IsParsedWithExponents, ParsesTo}
pub use Rattle.jsonb.specs.Parsing.{ParsesUnder, ParsesUnderWithin, ParsesWithExponentsTo}
pub use Rattle.jsonb.specs.Parsing.{ParsesWithExponentsWithin, ParsesWithin, IsReadAgain, IsTextOf}
pub use Rattle.jsonb.specs.Texts.{display_text, layout_of, lossy_text, other_text}
pub use Rattle.jsonb.specs.Texts.{pretty_display_text}
pub use Rattle.jsonb.specs.Values.{bytes_in}
pub use Rattle.jsonb.specs.ItemAnswers.{kind_of_view, raw_in, text_in}
pub use Rattle.jsonb.specs.Walk.{Advances, IsBounded, Walk, child_run, children_walk}
pub use Rattle.jsonb.specs.Walk.{container_tag, count_under, item_read, items_read, key_of}
pub use Rattle.jsonb.specs.Walk.{pair_read, pairs_walk}
pub use Rattle.jsonb.specs.Within.{meaning_within}
pub use Rattle.jsonb.specs.declared.item.JsonbItem.{JsonbItem}
