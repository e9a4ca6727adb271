-- What a tree becomes when it is edited at the end of a path.
use Rattle.std.specs.Prelude.{ℕ, suc, List, [], ◌∷◌, ◌++◌, Bool, true, false, ◌&&◌, if◌then◌else◌}
use Rattle.std.specs.Prelude.{Option, None, Some, option_to_list, take, drop}
use Rattle.jsonb_value.specs.Tree.{Tree, array, object}
use Rattle.jsonb_value.specs.Tree.{Trees, no_trees, tree, Pairs, no_pairs, pair, count}
use Rattle.jsonb_value.specs.Value.{trees_of}
use Rattle.jsonb.specs.Node.{tree_list}
use Rattle.jsonb_functions.specs.declared.path.Step.{Step}
use Rattle.jsonb_functions.specs.declared.path.Step.TheVariants.{Key}
use Rattle.jsonb_functions.specs.Found.{child_at}
use Rattle.jsonb_functions.specs.Joined.{with_key}
use Rattle.jsonb_functions.specs.Patched.{without_key}
use Rattle.jsonb_functions.specs.Path.{is_next, item_place}

-- What is done at the end of a path: a value is put there, in place of what is there, if anything;
-- or put there in containers that are made for the steps that lead nowhere; or inserted, before an
-- item, or as a member whose key is not there; or what is there is removed.
pub data Operation : Type 0 where
  put : Tree → Operation
  create : Tree → Operation
  insert : Tree → Operation
  remove : Operation

-- A value in a container for each step: an object with the member of a key, or an array of one
-- item.
abbrev pub wrapped : List Step → Tree → Tree
wrapped [] v = v
wrapped (Key k ∷ path) v = object (pair k.now (wrapped path v) no_pairs)
wrapped (s ∷ path) v = array (tree (wrapped path v) no_trees)

-- Whether a container is made for a step: for a key, and for the item of an empty array that comes
-- next.
abbrev pub makes_container : Step → Bool
makes_container (Key k) = true
makes_container s = is_next s 0

-- Whether containers are made for all these steps.
abbrev pub can_wrap : List Step → Bool
can_wrap [] = true
can_wrap (s ∷ path) = makes_container s && can_wrap path

-- The child that comes where none is and these steps are left, if one does. `next` says whether the
-- place is that of a member, or of the item right after the last one.
abbrev pub new_child : Bool → List Step → Operation → Option Tree
new_child next path (create v) = if next && can_wrap path then Some (wrapped path v) else None
new_child next path remove = None
new_child next [] (put v) = Some v
new_child next [] (insert v) = Some v
new_child next (s ∷ path) operation = None

-- The child that is there then, if any, of the one that was there, if any. Where steps are left, a
-- function edits it, and an insertion leaves it.
abbrev pub child_edited : Bool → List Step → Operation → (Tree → Tree) → Option Tree → Option Tree
child_edited next path operation below None = new_child next path operation
child_edited next [] (put v) below (Some t) = Some v
child_edited next [] (create v) below (Some t) = Some v
child_edited next [] (insert v) below (Some t) = Some t
child_edited next [] remove below (Some t) = None
child_edited next (s ∷ path) operation below (Some t) = Some (below t)

-- The items that are there then: the same, but a value is inserted before an item.
abbrev pub item_edited : Bool → List Step → Operation → (Tree → Tree) → Option Tree → List Tree
item_edited next path operation below None = option_to_list (new_child next path operation)
item_edited next [] (insert v) below (Some t) = v ∷ (t ∷ [])
item_edited next path operation below (Some t) =
    option_to_list (child_edited next path operation below (Some t))

-- The items before a place, then others in place of the item there, if any, then the items after.
abbrev pub items_with : Option (ℕ × Bool) → List Tree → List Tree → List Tree
items_with None us ts = ts
items_with (Some (m, true)) us ts = take m ts ++ (us ++ drop (suc m) ts)
items_with (Some (m, false)) us ts = take m ts ++ (us ++ drop m ts)

-- Items, edited where a step leads, by a function of the item there if steps are left.
abbrev pub edited_items : Step → List Step → Operation → (Tree → Tree) → Trees → Trees
edited_items s path operation below ts =
    let n = count ts in
    let us = item_edited (is_next s n) path operation below (child_at s (array ts)) in
    trees_of (items_with (item_place s n) us (tree_list ts))

-- Ascending pairs, with this value of a key, or without the key if there is none.
abbrev pub pairs_with : List ℕ → Option Tree → Pairs → Pairs
pairs_with k (Some v) ps = with_key k v ps
pairs_with k None ps = without_key k ps

-- Pairs, edited where a step leads, by a function of the value there if steps are left.
abbrev pub edited_pairs : Step → List Step → Operation → (Tree → Tree) → Pairs → Pairs
edited_pairs (Key k) path operation below ps =
    pairs_with k.now (child_edited true path operation below (child_at (Key k) (object ps))) ps
edited_pairs s path operation below ps = ps

-- The tree, edited at the end of a path that has a step at least. It is unchanged if the path leads
-- nowhere.
abbrev pub edited : List Step → Operation → Tree → Tree
edited [] operation t = t
edited (s ∷ path) operation (array ts) =
    array (edited_items s path operation (λ t. edited path operation t) ts)
edited (s ∷ path) operation (object ps) =
    object (edited_pairs s path operation (λ t. edited path operation t) ps)
edited (s ∷ path) operation t = t

-- The same with any path: at the end of a path of no step is the whole tree, which a value that is
-- put there replaces.
abbrev pub edited_whole : List Step → Operation → Tree → Tree
edited_whole [] (put v) t = v
edited_whole [] (create v) t = v
edited_whole path operation t = edited path operation t
