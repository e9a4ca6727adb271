-- The results of calls on a document, as those on its tree.
use Rattle.std.specs.Prelude.{◌≡◌, ℕ, List, length, map, nat_eq, Option, None, Some, option_map}
use Rattle.std.specs.Prelude.{Result, Ok, string_bytes}
use Rattle.std.specs.Borrow.{Bor}
use Rattle.std.specs.Cmp.Lexicographic.{pointwise}
use Rattle.jsonb_value.specs.declared.error.Error.{Error}
use Rattle.jsonb_value.specs.Meaning.{document, meaning_cmp}
use Rattle.jsonb_value.specs.Text.{compact, pretty}
use Rattle.jsonb_value.specs.Tree.{Tree}
use Rattle.jsonb_value.specs.TreeOrder.{tree_cmp}
use Rattle.jsonb_codec.specs.Doc.{Doc, IsDocument}
use Rattle.uses.specs.declared.composition.Answers.{Answers}
use Rattle.jsonb.specs.declared.item.JsonbItem.{JsonbItem}
use Rattle.jsonb.specs.Kind.{kind_of_tree}
use Rattle.jsonb.specs.ItemMeaning.{meaning_of}
use Rattle.jsonb.specs.Lookup.{find, IsItemFound}
use Rattle.jsonb.specs.Node.{value_of_key, words_for_key}
use Rattle.jsonb.specs.ItemView.{ItemView, item_view, pair_view}
use Rattle.jsonb.specs.Walk.{Walk}
use Rattle.jsonb.specs.StoredEntries.{IsFoundIn}
use Rattle.jsonb.specs.DocumentWalk.{WalksArray, WalksKeys, WalksValues, WalksPairs, WalksItems}
use Rattle.jsonb.specs.DocumentWalk.{WalksValueItems, WalksMembers, IsItemIn}

-- The iterator that has yielded exactly these results.
abbrev pub walk_of : {A : Type 0} → List (Result A Error) → Walk A
walk_of xs = record { count = length xs; rest = xs }

-- The iterator over these items, if there was one.
abbrev pub walk_of_items : Option (List JsonbItem) → Result (Option (Walk ItemView)) Error
walk_of_items items = Ok (option_map (λ xs. walk_of (map (λ x. Ok (item_view x)) xs)) items)

-- The iterator over these pairs, if there was one.
abbrev pub walk_of_pairs : Option (List (Bor (List ℕ) × JsonbItem))
    → Result (Option (Walk (List ℕ × ItemView))) Error
walk_of_pairs pairs = Ok (option_map (λ xs. walk_of (map (λ x. pair_view (Ok x)) xs)) pairs)

-- Each answer of the bytes is that of the tree: its kind, its texts, its item, its order beside the
-- other bytes, its children in order, and the value whose key is the name with the words that were
-- read for it; children and values are the items of the entries that are stored.
pub record AnswersOf (bytes : List ℕ) (t : Tree) (name other : List ℕ)
    (answers : Answers) : Type 0 where
  pub kind : answers.kind ≡ kind_of_tree t
  pub text : string_bytes answers.text ≡ compact t
  pub pretty_text : string_bytes answers.pretty ≡ pretty t
  pub display : string_bytes answers.display ≡ compact t
  pub item : IsItemIn t bytes (item_view answers.item)
  pub order : answers.order ≡ meaning_cmp (document t) (meaning_of other)
  pub document_order : (u : Tree) → Doc other u → answers.document_order ≡ Some (tree_cmp t u)
  pub no_order : (IsDocument other → ⊥) → answers.document_order ≡ None
  pub items : WalksArray t (walk_of_items (option_map (λ xs. xs.items) answers.items))
  pub keys : WalksKeys t (walk_of_items (option_map (λ xs. xs.items) answers.keys))
  pub values : WalksValues t (walk_of_items (option_map (λ xs. xs.items) answers.values))
  pub pairs : WalksPairs t (walk_of_pairs (option_map (λ xs. xs.items) answers.pairs))
  pub item_entries : WalksItems bytes t (walk_of_items (option_map (λ xs. xs.items) answers.items))
  pub value_entries : WalksValueItems bytes t
      (walk_of_items (option_map (λ xs. xs.items) answers.values))
  pub pair_entries : WalksMembers bytes t
      (walk_of_pairs (option_map (λ xs. xs.items) answers.pairs))
  pub found : IsItemFound (find (pointwise nat_eq name) (length name) t)
      (option_map item_view answers.found)
  pub counted : IsItemFound (value_of_key name t) (option_map item_view answers.counted)
  pub counted_entry : IsFoundIn (pointwise nat_eq name) (length name) bytes t
      (option_map item_view answers.counted)
  pub reads : answers.reads ≡ words_for_key name t
  pub found_entry : IsFoundIn (pointwise nat_eq name) (length name) bytes t
      (option_map item_view answers.found)
