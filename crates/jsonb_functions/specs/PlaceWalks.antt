-- What is left of the places to which a selector leads.
use Rattle.std.specs.Prelude.{◌≡◌, ◌≤◌, ⊤, ℕ, List, [], ◌∷◌, drop, length, Option, None, Some}
use Rattle.std.specs.Prelude.{option_to_list}
use Rattle.std.specs.Borrow.{Bor}
use Rattle.jsonb_value.specs.Tree.{Tree}
use Rattle.jsonb.specs.declared.entries.Entry.{Entry}
use Rattle.jsonb_functions.specs.PathPlaces.{HoldsTree, IsPlaceWithin, listed_places}
use Rattle.jsonb_functions.specs.PathPlaces.{selected_from}
use Rattle.jsonb_functions.specs.SelectSteps.{select_steps}
use Rattle.jsonb_functions.specs.declared.places.PlaceWalk.{PlaceWalk}
use Rattle.jsonb_functions.specs.declared.places.PlaceWalk.TheVariants as walks
use Rattle.jsonb_functions.specs.declared.selection.Bound.{Bound}
use Rattle.jsonb_functions.specs.declared.selection.Selector.{Selector}

-- The place is inside the bytes, and its entry holds a tree.
abbrev pub IsPart : List ℕ → Entry → Type 0
IsPart bytes place = (t : Tree) × IsPlaceWithin bytes place × HoldsTree bytes place t

-- So is each of the places.
abbrev pub AreAllParts : List ℕ → List Entry → Type 0
AreAllParts bytes [] = ⊤
AreAllParts bytes (place ∷ places) = IsPart bytes place × AreAllParts bytes places

-- The places that are left in a walk over those to which a selector leads from a place, for a list
-- of indexes those of the items at these.
abbrev pub walk_places : List Bound → List ℕ → Entry → PlaceWalk → List Entry
walk_places indexes bytes place (walks.One found) = option_to_list found
walk_places indexes bytes place (walks.Children left) = left
walk_places indexes bytes place (walks.Listed passed) =
    listed_places bytes place (drop passed indexes)

-- The path leads from a place to where its last steps do.
abbrev pub LeadsOn : List Selector → List Selector → List ℕ → Entry → Type 0
LeadsOn path left bytes place =
    (selected_from path bytes place ≡ selected_from left bytes place)
    × (length left ≤ length path)

-- The steps that the last selectors of a path take, if it leads on.
abbrev pub steps_left : Option (Bor (List Selector)) → Tree → ℕ
steps_left None t = 0
steps_left (Some left) t = select_steps left.now t
