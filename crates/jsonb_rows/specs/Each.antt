-- What a tree becomes when it is changed at each place to which a path with wildcards leads.
use Rattle.std.specs.Prelude.{◌&&◌, ◌||◌, ◌+◌, ℕ, List, [], ◌∷◌, Bool, true, false, nat_eq}
use Rattle.std.specs.Prelude.{if◌then◌else◌, Option, None, Some}
use Rattle.std.specs.Cmp.Lexicographic.{pointwise}
use Rattle.jsonb_value.specs.Tree.{Tree, array, object, Trees, no_trees, tree, count}
use Rattle.jsonb_value.specs.Tree.{Pairs, no_pairs, pair}
use Rattle.jsonb.specs.Document.{document_tree}
use Rattle.jsonb_functions.specs.Joined.{with_key}
use Rattle.jsonb_rows.specs.declared.each.EachEdit.{EachEdit}
use Rattle.jsonb_rows.specs.declared.each.EachEdit.TheVariants as edits
use Rattle.jsonb_rows.specs.declared.reach.Reach.{Reach}
use Rattle.jsonb_rows.specs.declared.reach.Reach.TheVariants.{Key}
use Rattle.jsonb_rows.specs.Reach.{leads_to_item, leads_to_member}

-- What is done at each place: a value is put there, or what is there is removed, or the member of
-- the first name in an object there gets the second name.
pub data Operation : Type 0 where
  set : Tree → Operation
  remove : Operation
  rename : List ℕ → List ℕ → Operation

-- The operation of an edit.
abbrev pub operation_of : EachEdit → Operation
operation_of (edits.Set document) = set (document_tree document)
operation_of edits.Remove = remove
operation_of (edits.Rename from to) = rename from.now to.now

-- A function of a child where a step leads, and the child itself elsewhere.
abbrev pub child_if : Bool → (Tree → Option Tree) → Tree → Option Tree
child_if true f t = f t
child_if false f t = Some t

-- An item before others, if there is one.
abbrev pub with_first : Option Tree → Trees → Trees
with_first (Some t) ts = tree t ts
with_first None ts = ts

-- A member before others, if it has a value.
abbrev pub with_member : List ℕ → Option Tree → Pairs → Pairs
with_member k (Some t) ps = pair k t ps
with_member k None ps = ps

-- Items, of which the first has this index, each changed by a function or removed where a step
-- leads.
abbrev pub with_items : (ℕ → Bool) → (Tree → Option Tree) → ℕ → Trees → Trees
with_items leads f i no_trees = no_trees
with_items leads f i (tree t ts) =
    with_first (child_if (leads i) f t) (with_items leads f (i + 1) ts)

-- Members, each changed by a function or removed where a step leads.
abbrev pub with_members : (List ℕ → Bool) → (Tree → Option Tree) → Pairs → Pairs
with_members leads f no_pairs = no_pairs
with_members leads f (pair k t ps) =
    with_member k (child_if (leads k) f t) (with_members leads f ps)

-- The value of a name among members.
abbrev pub value_of_name : List ℕ → Pairs → Option Tree
value_of_name name no_pairs = None
value_of_name name (pair k t ps) =
    if pointwise nat_eq name k then Some t else value_of_name name ps

-- Members without that of a name.
abbrev pub without_name : List ℕ → Pairs → Pairs
without_name name ps = with_members (pointwise nat_eq name) (λ t. None) ps

-- A value put among members, if there is one, in place of that with its name.
abbrev pub with_name : List ℕ → Option Tree → Pairs → Pairs → Pairs
with_name name (Some t) ps qs = with_key name t qs
with_name name None ps qs = ps

-- Members, of which that of the first name gets the second one.
abbrev pub pairs_renamed : List ℕ → List ℕ → Pairs → Pairs
pairs_renamed from to ps = with_name to (value_of_name from ps) ps (without_name from ps)

-- An object, of whose members that of the first name gets the second one; any other tree itself.
abbrev pub renamed : List ℕ → List ℕ → Tree → Tree
renamed from to (object ps) = object (pairs_renamed from to ps)
renamed from to t = t

-- What a tree at the end of a path becomes; none if it is removed.
abbrev pub at_end : Operation → Tree → Option Tree
at_end (set v) t = Some v
at_end remove t = None
at_end (rename from to) t = Some (renamed from to t)

-- Members with the value that is put at a key, if the key is the last step.
abbrev pub added : Reach → List Reach → Operation → Pairs → Pairs
added (Key k) [] (set v) ps = with_key k.now v ps
added s path operation ps = ps

-- A tree whose children are changed by a function where a step leads; members are added to those of
-- an object.
abbrev pub changed_within : Reach → (Tree → Option Tree) → (Pairs → Pairs) → Tree → Tree
changed_within s f add (array ts) = array (with_items (leads_to_item s (count ts)) f 0 ts)
changed_within s f add (object ps) = object (add (with_members (leads_to_member s) f ps))
changed_within s f add t = t

-- What a tree becomes that is changed at each place to which a path leads; none if it is removed.
abbrev pub child_edited : List Reach → Operation → Tree → Option Tree
child_edited [] operation t = at_end operation t
child_edited (s ∷ path) operation t =
    Some (changed_within s (λ u. child_edited path operation u) (added s path operation) t)

-- A tree, or another one if there is none.
abbrev pub tree_or : Option Tree → Tree → Tree
tree_or (Some t) u = t
tree_or None u = u

-- A whole tree that is changed at each place to which a path leads; it is not removed.
abbrev pub edited_each : List Reach → Operation → Tree → Tree
edited_each path operation t = tree_or (child_edited path operation t) t

-- Whether a test holds of some item to which a step leads; the first has this index.
abbrev pub some_item : (ℕ → Bool) → (Tree → Bool) → ℕ → Trees → Bool
some_item leads test i no_trees = false
some_item leads test i (tree t ts) = (leads i && test t) || some_item leads test (i + 1) ts

-- Whether a test holds of some member's value to which a step leads.
abbrev pub some_member : (List ℕ → Bool) → (Tree → Bool) → Pairs → Bool
some_member leads test no_pairs = false
some_member leads test (pair k t ps) = (leads k && test t) || some_member leads test ps

-- Whether a test holds of some child to which a step leads.
abbrev pub some_child : Reach → (Tree → Bool) → Tree → Bool
some_child s test (array ts) = some_item (leads_to_item s (count ts)) test 0 ts
some_child s test (object ps) = some_member (leads_to_member s) test ps
some_child s test t = false

-- Whether a path leads to some place in a tree.
abbrev pub leads : List Reach → Tree → Bool
leads [] t = true
leads (s ∷ path) t = some_child s (λ u. leads path u) t
