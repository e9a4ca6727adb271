-- The names that the clauses of this crate cite, passed on from one place.
pub use Rattle.std.specs.Cmp.Lexicographic.{pointwise}
pub use Rattle.jsonb_value.specs.Norm.{norm}
pub use Rattle.jsonb_value.specs.Text.{compact}
pub use Rattle.jsonb_value.specs.Tree.{Tree}
pub use Rattle.jsonb_value.specs.Value.{tree_of}
pub use Rattle.jsonb_codec.specs.Canon.{Fits, canon}
pub use Rattle.jsonb_codec.specs.Doc.{Doc}
pub use Rattle.jsonb.specs.DocumentWalk.{WalksArray, WalksItems, WalksKeys, WalksMembers}
pub use Rattle.jsonb.specs.DocumentWalk.{WalksPairs, WalksValueItems, WalksValues}
pub use Rattle.jsonb.specs.ItemView.{item_view}
pub use Rattle.jsonb.specs.Lookup.{IsItemFound, find}
pub use Rattle.jsonb.specs.Node.{value_of_key, words_for_key}
pub use Rattle.jsonb.specs.Raw.{raw_bytes}
pub use Rattle.jsonb.specs.StoredEntries.{IsFoundIn}
pub use Rattle.uses.specs.Question.{AnswersOf, walk_of_items, walk_of_pairs}
