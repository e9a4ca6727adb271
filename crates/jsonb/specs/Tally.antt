-- The contents of a builder of distinct items, independent of its data structures. Items that mean
-- the same form a class.
use Rattle.std.specs.Prelude.{ℕ, Bool, Option, Some, is_some, List, if◌then◌else◌, ◌+◌, ◌-◌, ◌≡◌}
use Rattle.std.specs.Prelude.{◌++◌, [], ◌∷◌, unwrap_or}
use Rattle.std.specs.List.{list_any}
use Rattle.std.specs.Map.{lookup}
use Rattle.std.specs.Ordering.{on, eq_by_cmp}
use Rattle.jsonb_value.specs.Meaning.{meaning_cmp}
use Rattle.jsonb.specs.declared.item.JsonbItem.{JsonbItem}
use Rattle.jsonb.specs.ItemView.{ItemView, item_view}
use Rattle.jsonb.specs.ItemMeaning.{view_meaning}

-- The first item of each class, in order of insertion, and the counts of classes, in any order.
pub record Tally : Type 0 where
  pub list : List ItemView
  pub counts : List (JsonbItem × ℕ)

-- Two items mean the same.
abbrev pub same_meaning : ItemView → ItemView → Bool
same_meaning = eq_by_cmp (on view_meaning meaning_cmp)

-- The list has an item of the same class.
abbrev pub has_equal : List ItemView → ItemView → Bool
has_equal list x = list_any (same_meaning x) list

-- The count of the item's class, if it has one.
abbrev pub count_at : List (JsonbItem × ℕ) → ItemView → Option ℕ
count_at counts x = lookup (λ key. same_meaning x (item_view key)) counts

-- The count of the item's class becomes n, and all others are unchanged.
abbrev pub SetsCount : List (JsonbItem × ℕ) → List (JsonbItem × ℕ) → ItemView → ℕ → Type 0
SetsCount old new x n = (item : JsonbItem)
    → count_at new (item_view item)
    ≡ (if same_meaning x (item_view item) then Some n else count_at old (item_view item))

-- A class has a count exactly if the list has an item of it.
abbrev pub Lists : List ItemView → List (JsonbItem × ℕ) → Type 0
Lists list counts = (item : JsonbItem)
    → is_some (count_at counts (item_view item)) ≡ has_equal list (item_view item)

-- The count of the item's class; 0 if it has none.
abbrev pub count_of : Tally → ItemView → ℕ
count_of tally x = unwrap_or (count_at tally.counts x) 0

-- The list after an item was pushed.
abbrev pub list_with : List ItemView → ItemView → List ItemView
list_with list x = if has_equal list x then list else list ++ x ∷ []

-- The count of the item's class is raised by one, and all others are unchanged.
abbrev pub CountsOneMore : Tally → Tally → ItemView → Type 0
CountsOneMore old new x = (item : JsonbItem)
    → count_of new (item_view item)
    ≡ (if same_meaning x (item_view item) then count_of old (item_view item) + 1
    else count_of old (item_view item))

-- The count of the item's class is lowered by one, and all others are unchanged.
abbrev pub CountsOneLess : Tally → Tally → ItemView → Type 0
CountsOneLess old new x = (item : JsonbItem)
    → count_of new (item_view item)
    ≡ (if same_meaning x (item_view item) then count_of old (item_view item) - 1
    else count_of old (item_view item))
