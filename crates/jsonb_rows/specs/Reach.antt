-- Where the steps of paths with wildcards lead.
use Rattle.std.specs.Prelude.{◌&&◌, ℕ, Bool, true, false, List, nat_eq, nat_le, nat_lt}
use Rattle.std.specs.List.{list_any}
use Rattle.std.specs.Cmp.Lexicographic.{pointwise}
use Rattle.jsonb_functions.specs.Selected.{items_before, items_through}
use Rattle.jsonb_rows.specs.declared.reach.Range.{Range}
use Rattle.jsonb_rows.specs.declared.reach.Reach.{Reach}
use Rattle.jsonb_rows.specs.declared.reach.Reach.TheVariants.{Key, AllMembers, AllItems, Items}

-- Whether a range has the item at an index of so many.
abbrev pub is_in_range : Range → ℕ → ℕ → Bool
is_in_range range n i =
    nat_le (items_before range.first n) i && nat_lt i (items_through range.last n)

-- Whether a step leads to the item at an index of an array of so many.
abbrev pub leads_to_item : Reach → ℕ → ℕ → Bool
leads_to_item (Key k) n i = false
leads_to_item AllMembers n i = false
leads_to_item AllItems n i = true
leads_to_item (Items ranges) n i = list_any (λ range. is_in_range range n i) ranges.items

-- Whether a step leads to the member of a name.
abbrev pub leads_to_member : Reach → List ℕ → Bool
leads_to_member (Key k) name = pointwise nat_eq k.now name
leads_to_member AllMembers name = true
leads_to_member AllItems name = false
leads_to_member (Items ranges) name = false
