-- The entries of the values at the ends of paths.
use Rattle.std.specs.Prelude.{◌≡◌, ℕ, Bool, true, false, List, [], ◌∷◌, length, nat_eq}
use Rattle.std.specs.Prelude.{MatchOption, Option, None, Some, Ok}
use Rattle.std.specs.Cmp.Lexicographic.{pointwise}
use Rattle.jsonb_value.specs.Tree.{Tree, array, count}
use Rattle.jsonb.specs.Document.{tree_in}
use Rattle.jsonb.specs.Item.{item_in}
use Rattle.jsonb.specs.ItemView.{ItemView, owned, raw}
use Rattle.jsonb.specs.StoredEntries.{IsFoundIn, IsItemFoundIn}
use Rattle.jsonb_functions.specs.Path.{item_place}
use Rattle.jsonb_functions.specs.declared.path.Step.{Step}
use Rattle.jsonb_functions.specs.declared.path.Step.TheVariants.{Key}

-- What is found in the array b of the tree is the item of the entry before which so many are;
-- nothing if there is none.
abbrev pub IsItemThere : Option (ℕ × Bool) → List ℕ → Tree → Option ItemView → Type 0
IsItemThere None b t found = found ≡ None
IsItemThere (Some (before, true)) b t found = IsItemFoundIn before b t found
IsItemThere (Some (before, false)) b t found = found ≡ None

-- What is found in the document b of the tree is the item of the entry to which a step leads;
-- nothing if it leads nowhere.
abbrev pub IsChildIn : Step → List ℕ → Tree → Option ItemView → Type 0
IsChildIn s b (array ts) found = IsItemThere (item_place s (count ts)) b (array ts) found
IsChildIn (Key k) b t found = IsFoundIn (pointwise nat_eq k.now) (length k.now) b t found
IsChildIn s b t found = found ≡ None

-- The same in an item: an array or object is there with its bytes.
abbrev pub IsChildOf : Step → ItemView → Option ItemView → Type 0
IsChildOf s (raw b) found = IsChildIn s b (tree_in b) found
IsChildOf s (owned b) found = IsChildIn s b (tree_in b) found
IsChildOf s x found = found ≡ None

-- What is found is the item of the entry at the end of a path from an item; nothing if the path
-- leads nowhere.
abbrev pub IsFoundFrom : List Step → ItemView → Option ItemView → Type 0
IsFoundFrom [] x found = found ≡ Some x
IsFoundFrom (s ∷ path) x found = (child : Option ItemView)
    × (IsChildOf s x child × MatchOption child (found ≡ None) (λ y. IsFoundFrom path y found))

-- The same from the item that the document b is as a whole.
abbrev pub IsFoundAt : List Step → List ℕ → Option ItemView → Type 0
IsFoundAt path b found = (x : ItemView) × ((item_in b ≡ Ok x) × IsFoundFrom path x found)
