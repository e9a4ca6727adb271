-- The names that the clauses of this crate cite, passed on from one place.
pub use Rattle.std.specs.Cmp.Lexicographic.{slice_cmp}
pub use Rattle.std.specs.Iterator.{YieldsFirstBy}
pub use Rattle.std.specs.Ordering.{nat_cmp}
pub use Rattle.jsonb_value.specs.Order.{extension_data}
pub use Rattle.jsonb_value.specs.Tree.{Ascend, Pairs, Tree, Trees, count, no_pairs, no_trees}
pub use Rattle.jsonb_value.specs.Tree.{array, object, pair, pair_count, text}
pub use Rattle.jsonb_value.specs.Value.{tree_of, trees_of}
pub use Rattle.jsonb_value.specs.WellFormed.{IsTree}
pub use Rattle.jsonb_codec.specs.Canon.{Fits, canon, shape_of}
pub use Rattle.jsonb_codec.specs.Code.{code_of}
pub use Rattle.jsonb_codec.specs.Contents.{AreChildren, AreMembers, PartMeans}
pub use Rattle.jsonb_codec.specs.Doc.{Doc}
pub use Rattle.jsonb_codec.specs.Made.{MadeIfFit}
pub use Rattle.jsonb_codec.specs.PartSource.{items_size, part_meaning}
pub use Rattle.jsonb_codec.specs.Parts.{IsObject}
pub use Rattle.jsonb_codec.specs.Shape.{Shape}
pub use Rattle.jsonb_codec.specs.Source.{LevelIs, level_size}
pub use Rattle.jsonb.specs.Document.{document_tree}
pub use Rattle.jsonb.specs.EntryTrees.{part_tree, rest_pairs, rest_trees}
pub use Rattle.jsonb.specs.ItemValues.{extension_of_item}
pub use Rattle.jsonb.specs.Node.{HoldsNoScalar, IsContainer, member_tree, node_tree, object_of}
pub use Rattle.jsonb.specs.Node.{pairs_of, value_of_key}
pub use Rattle.jsonb.specs.Owned.{owned_bytes}
pub use Rattle.jsonb_functions.specs.ArraySets.{are_equal, difference, distinct, distinct_items}
pub use Rattle.jsonb_functions.specs.ArraySets.{intersection}
pub use Rattle.jsonb_functions.specs.ArraySets.{matched_array, matched_items, overlaps, some_shared}
pub use Rattle.jsonb_functions.specs.ChosenSource.{FirstKept, kept_pairs, listed_trees}
pub use Rattle.jsonb_functions.specs.Conditions.{AnyOf, any_terms, meets_any}
pub use Rattle.jsonb_functions.specs.Contains.{contained, contains_whole, has_top_key}
pub use Rattle.jsonb_functions.specs.Contains.{items_contained, items_or_none, members_contained}
pub use Rattle.jsonb_functions.specs.Contains.{is_there, some_tree}
pub use Rattle.jsonb_functions.specs.ContainSteps.{are_many, compare_steps, contained_work}
pub use Rattle.jsonb_functions.specs.ContainSteps.{contains_work, find_work, first_work, from_key}
pub use Rattle.jsonb_functions.specs.ContainSteps.{members_work, passing_steps, scalar_weight}
pub use Rattle.jsonb_functions.specs.ContainSteps.{scalar_weights, sort_work, steps_alone}
pub use Rattle.jsonb_functions.specs.ContainSteps.{work_until}
pub use Rattle.jsonb_functions.specs.ContainWalks.{array_work, found_work, length_or_none}
pub use Rattle.jsonb_functions.specs.EditSource.{comes, count_done, edit_operation}
pub use Rattle.jsonb_functions.specs.EditSource.{edited_along, first_done, first_pair_done, here_at}
pub use Rattle.jsonb_functions.specs.EditSource.{here_of, keys_before, made_size, made_tree}
pub use Rattle.jsonb_functions.specs.EditSource.{operation_of, pairs_have_key, plan_size, what_size}
pub use Rattle.jsonb_functions.specs.Edited.{can_wrap, edited, edited_items, edited_pairs}
pub use Rattle.jsonb_functions.specs.Edited.{edited_whole, makes_container, new_child, wrapped}
pub use Rattle.jsonb_functions.specs.Filter.{after_open, after_term, compares, holds}
pub use Rattle.jsonb_functions.specs.Filter.{passes, verdict_of}
pub use Rattle.jsonb_functions.specs.Found.{child_at, found_at}
pub use Rattle.jsonb_functions.specs.IndexHash.{AppendsSome, AreAmong, IsAmong, hash_64}
pub use Rattle.jsonb_functions.specs.IndexHash.{items_hashes, members_hashes, tree_hashes}
pub use Rattle.jsonb_functions.specs.ItemCounts.{CountsEquals, SetsEqualsCount, equals_count}
pub use Rattle.jsonb_functions.specs.JoinSource.{FirstMerged, FirstOfRun, IsNoObject, MaybeMembers}
pub use Rattle.jsonb_functions.specs.JoinSource.{MaybeObject, RunIs, keys_size, maybe_keys_size}
pub use Rattle.jsonb_functions.specs.JoinSource.{maybe_members_size, maybe_object_size, run_size}
pub use Rattle.jsonb_functions.specs.Joined.{items_or_one, joined, merged}
pub use Rattle.jsonb_functions.specs.Keys.{key_array, key_texts}
pub use Rattle.jsonb_functions.specs.MadeWithMemory.{MadeWithMemory}
pub use Rattle.jsonb_functions.specs.PatchSource.{AreBoth, AreChanged, FirstPatched, IsFirstOf}
pub use Rattle.jsonb_functions.specs.PatchSource.{IsNextOf}
pub use Rattle.jsonb_functions.specs.PatchSource.{MaybeMeans, both_keys_size, both_size, maybe_size}
pub use Rattle.jsonb_functions.specs.PatchSource.{next_keys_size, next_size}
pub use Rattle.jsonb_functions.specs.Patched.{pairs_or_none, pairs_patched, patched}
pub use Rattle.jsonb_functions.specs.Path.{is_next, item_place, position_view}
pub use Rattle.jsonb_functions.specs.PathDocument.{path_tree, step_tree, stored_step}
pub use Rattle.jsonb_functions.specs.PathText.{AreTerms, StepBegins, BeginsWithLiteral}
pub use Rattle.jsonb_functions.specs.PathText.{BeginsWithStep, BeginsWithTerm, BeginsWithTest}
pub use Rattle.jsonb_functions.specs.PathText.{EndsName, IsComparison, IsFilter, IsFilterPath}
pub use Rattle.jsonb_functions.specs.PathText.{IsLiteralWord, PathText, StepsText, list_count}
pub use Rattle.jsonb_functions.specs.PathText.{Reads, ReadsStep, SelectorView, StopsAt, TermView}
pub use Rattle.jsonb_functions.specs.PathText.{after_spaces, all_are, back_in, bound_in}
pub use Rattle.jsonb_functions.specs.PathText.{capped_number, comparison_in, counted_in, ends_in}
pub use Rattle.jsonb_functions.specs.PathText.{ends_in_space, from_end_of, indexes, indexes_in}
pub use Rattle.jsonb_functions.specs.PathText.{is_in_name, is_in_word, is_not, is_space}
pub use Rattle.jsonb_functions.specs.PathText.{items_in, mark_in, member_step, name_len, path_view}
pub use Rattle.jsonb_functions.specs.PathText.{place_in, range_in, state_after, tail_after}
pub use Rattle.jsonb_functions.specs.PathText.{scalar_tree, selector_view, single_step}
pub use Rattle.jsonb_functions.specs.PathText.{single_steps, tail_after_not, tail_after_two}
pub use Rattle.jsonb_functions.specs.PathText.{tail_after_word, term_view, terms_view}
pub use Rattle.jsonb_functions.specs.PathText.{AreFilterSteps, IsExists, ends_path, exists_in}
pub use Rattle.jsonb_functions.specs.PathText.{finds, steps_view, tail_after_exists}
pub use Rattle.jsonb_functions.specs.Picked.{AreSorted, is_named, keeps, picked}
pub use Rattle.jsonb_functions.specs.Selected.{first_tree, indexes_of, items_before}
pub use Rattle.jsonb_functions.specs.Selected.{items_through, selected, step_at}
pub use Rattle.jsonb_functions.specs.Steps.{DoneBy, FoundBy}
pub use Rattle.jsonb_functions.specs.StoredPath.{StepView, path_in, step_in, step_to, step_view}
pub use Rattle.jsonb_functions.specs.StripSource.{FirstStripped}
pub use Rattle.jsonb_functions.specs.Stripped.{members_stripped, stripped}
pub use Rattle.jsonb_functions.specs.TopKeys.{hash_of_key, item_hashes, member_hashes, text_hashes}
pub use Rattle.jsonb_functions.specs.TopKeys.{top_hashes}
pub use Rattle.jsonb_functions.specs.Weight.{pair_weights, weight, weights}
