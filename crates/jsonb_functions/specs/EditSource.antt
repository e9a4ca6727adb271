-- What the parts of a document that is edited are written as: the shapes of the edited trees.
use Rattle.std.specs.Prelude.{◌≡◌, ◌≤◌, ◌+◌, ℕ, zero, suc, pred, List, [], ◌∷◌, length}
use Rattle.std.specs.Prelude.{Bool, true, false, if◌then◌else◌, Option, None, Some}
use Rattle.std.specs.Ordering.{nat_cmp, is_eq, is_lt}
use Rattle.std.specs.Cmp.Lexicographic.{slice_cmp}
use Rattle.std.proofs.Common.{sym, ◌∙◌}
use Rattle.jsonb_value.specs.Tree.{Tree, Trees, no_trees, tree, Pairs, no_pairs, pair, count}
use Rattle.jsonb_value.specs.Tree.{pair_count}
use Rattle.jsonb_codec.specs.Contents.{PartMeans, AreChildren, AreMembers}
use Rattle.jsonb_codec.specs.PartSource as parts
use Rattle.jsonb_codec.proofs.Unique.{Children-unique, pairs_unique}
use Rattle.jsonb.specs.Document.{document_tree}
use Rattle.jsonb.specs.EntryTrees.{part_tree}
use Rattle.jsonb_functions.specs.declared.path.Step.{Step}
use Rattle.jsonb_functions.specs.declared.edit.Edit.{Edit}
use Rattle.jsonb_functions.specs.declared.edit.Edit.TheVariants as edits
use Rattle.jsonb_functions.specs.declared.edit.Change.{Change}
use Rattle.jsonb_functions.specs.declared.edit.Change.TheVariants as changes
use Rattle.jsonb_functions.specs.declared.edit.Made.{Made}
use Rattle.jsonb_functions.specs.declared.edit.Plan.{Plan}
use Rattle.jsonb_functions.specs.declared.edit.What.{What}
use Rattle.jsonb_functions.specs.declared.edit.What.TheVariants as whats
use Rattle.jsonb_functions.specs.declared.edit.Edited.{Edited}
use Rattle.jsonb_functions.specs.declared.edit.Edited.TheVariants as children
use Rattle.jsonb_functions.specs.declared.edit.EditedItems.{EditedItems}
use Rattle.jsonb_functions.specs.declared.edit.EditedMembers.{EditedMembers}
use Rattle.jsonb_functions.specs.Edited.{Operation, put, create, insert, remove, edited, wrapped}
use Rattle.jsonb_functions.specs.Edited.{new_child}
use Rattle.jsonb_functions.specs.Overlay.{OverlayMeaning, OverlayLaws, Becomes, one_becomes}
use Rattle.jsonb_functions.specs.Overlay.{part_unique}

-- What is done at a place among children: nothing; the child there is replaced by a function of it;
-- a value comes before it; or it is removed.
pub data Here : Type 0 where
  nothing : Here
  replaced : (Tree → Tree) → Here
  before : Tree → Here
  removed : Here

-- What is done to the child at the end of a path. `items` says whether it is an item, which an
-- insertion moves on.
abbrev pub here_last : Bool → Operation → Here
here_last items (put v) = replaced (λ t. v)
here_last items (create v) = replaced (λ t. v)
here_last true (insert v) = before v
here_last false (insert v) = nothing
here_last items remove = removed

-- A child comes there, if there is one.
abbrev pub comes : Option Tree → Here
comes None = nothing
comes (Some v) = before v

-- What is done where a step leads, to a child that is there or not, and these steps are left, which
-- edit the child by a function of it.
abbrev pub here_at : Bool → Bool → Bool → List Step → Operation → (Tree → Tree) → Here
here_at items true next [] operation below = here_last items operation
here_at items true next (s ∷ path) operation below = replaced below
here_at items false next path operation below = comes (new_child next path operation)

-- Done to the first of these items.
abbrev pub first_done : Here → Trees → Trees
first_done nothing ts = ts
first_done (before v) ts = tree v ts
first_done (replaced f) (tree t ts) = tree (f t) ts
first_done removed (tree t ts) = ts
first_done (replaced f) no_trees = no_trees
first_done removed no_trees = no_trees

-- Done after n of these items.
abbrev pub done_after : Here → ℕ → Trees → Trees
done_after here zero ts = first_done here ts
done_after here (suc n) (tree t ts) = tree t (done_after here n ts)
done_after here (suc n) no_trees = no_trees

-- Done to the first of these pairs, where a new one has the key.
abbrev pub first_pair_done : List ℕ → Here → Pairs → Pairs
first_pair_done key nothing ps = ps
first_pair_done key (before v) ps = pair key v ps
first_pair_done key (replaced f) (pair k t ps) = pair k (f t) ps
first_pair_done key removed (pair k t ps) = ps
first_pair_done key (replaced f) no_pairs = no_pairs
first_pair_done key removed no_pairs = no_pairs

-- Done after n of these pairs.
abbrev pub pairs_done_after : List ℕ → Here → ℕ → Pairs → Pairs
pairs_done_after key here zero ps = first_pair_done key here ps
pairs_done_after key here (suc n) (pair k t ps) = pair k t (pairs_done_after key here n ps)
pairs_done_after key here (suc n) no_pairs = no_pairs

-- How many of ascending pairs have lesser keys than this one.
abbrev pub keys_before : List ℕ → Pairs → ℕ
keys_before key no_pairs = 0
keys_before key (pair k t ps) =
    if is_lt (slice_cmp nat_cmp k key) then suc (keys_before key ps) else 0

-- Whether a pair of ascending ones has this key.
abbrev pub pairs_have_key : List ℕ → Pairs → Bool
pairs_have_key key no_pairs = false
pairs_have_key key (pair k t ps) =
    if is_lt (slice_cmp nat_cmp k key) then pairs_have_key key ps
    else is_eq (slice_cmp nat_cmp k key)

-- How many children are taken from the place.
abbrev pub taken : Here → ℕ
taken nothing = 0
taken (before v) = 0
taken (replaced f) = 1
taken removed = 1

-- How many children there are then, of c before.
abbrev pub count_done : Here → ℕ → ℕ
count_done nothing c = c
count_done (before v) c = suc c
count_done (replaced f) c = c
count_done removed c = pred c

-- What a change does, by its value's tree.
abbrev pub operation_of : Change → Operation
operation_of (changes.Put value) = put (part_tree value)
operation_of (changes.Create value) = create (part_tree value)
operation_of (changes.Insert value) = insert (part_tree value)
operation_of changes.Remove = remove

-- What an edit does.
abbrev pub edit_operation : Edit → Operation
edit_operation (edits.Put value) = put (document_tree value)
edit_operation (edits.Create value) = create (document_tree value)
edit_operation (edits.Insert value) = insert (document_tree value)
edit_operation edits.Remove = remove

-- The tree of a value in containers.
abbrev pub made_tree : Made → Tree
made_tree made = wrapped made.path.now (part_tree made.value.now)

-- What a plan makes of a tree.
abbrev pub edited_along : Plan → Tree → Tree
edited_along plan t = edited plan.path.now (operation_of plan.change.now) t

-- What is done at a place.
abbrev pub here_of : What → Here
here_of whats.Nothing = nothing
here_of (whats.Put value) = replaced (λ t. part_tree value.now)
here_of (whats.Insert made) = before (made_tree made)
here_of whats.Remove = removed
here_of (whats.Below plan) = replaced (λ t. edited_along plan t)

-- The tree of what a part becomes along a path, or of a value in containers.
abbrev pub EditedMeans : Edited → Tree → Type 0
EditedMeans (children.Along part plan) t =
    Becomes (λ u. PartMeans part u) (λ u. edited_along plan u) t
EditedMeans (children.Made made) t = t ≡ made_tree made

-- The trees of items, after what is done at a place among them, or after them if none is taken
-- there.
abbrev pub EditedItemsMean : EditedItems → Trees → Type 0
EditedItemsMean x =
    Becomes (λ ts. AreChildren ts x.items × (x.before + taken (here_of x.what) ≤ count ts))
    (λ ts. done_after (here_of x.what) x.before ts)

abbrev pub EditedMembersMean : EditedMembers → Pairs → Type 0
EditedMembersMean x =
    Becomes (λ ps. AreMembers ps x.members
    × (x.before + taken (here_of x.what) ≤ pair_count ps))
    (λ ps. pairs_done_after x.key.now (here_of x.what) x.before ps)

-- How much the walk has still to go into what is put there.
abbrev pub change_size : Change → ℕ
change_size (changes.Put value) = length value.payload.now
change_size (changes.Create value) = length value.payload.now
change_size (changes.Insert value) = length value.payload.now
change_size changes.Remove = 0

abbrev pub plan_size : Plan → ℕ
plan_size plan = length plan.path.now + change_size plan.change.now

abbrev pub made_size : Made → ℕ
made_size made = length made.path.now + length made.value.now.payload.now

abbrev pub what_size : What → ℕ
what_size whats.Nothing = 0
what_size (whats.Put value) = suc (length value.now.payload.now)
what_size (whats.Insert made) = suc (made_size made)
what_size whats.Remove = 0
what_size (whats.Below plan) = suc (plan_size plan)

abbrev pub edited_size : Edited → ℕ
edited_size (children.Along part plan) = length part.payload.now + suc (plan_size plan)
edited_size (children.Made made) = made_size made

abbrev pub edit_meaning : OverlayMeaning Edited EditedItems EditedMembers
edit_meaning = record {
  value = EditedMeans;
  items = EditedItemsMean;
  members = EditedMembersMean;
  value_size = edited_size;
  items_size = λ x. parts.items_size x.items + what_size x.what;
  members_size = λ x. parts.items_size x.members.values + what_size x.what;
}

one_edited : (x : Edited) (t u : Tree) → EditedMeans x t → EditedMeans x u → t ≡ u
one_edited (children.Along part plan) t u h k =
    one_becomes (λ v. PartMeans part v) (λ v. edited_along plan v) (part_unique part) t u h k
one_edited (children.Made made) t u h k = h ∙ sym k

pub edit_laws : OverlayLaws edit_meaning
edit_laws = record {
  one_value = one_edited;
  one_items = λ x. one_becomes (λ ts. AreChildren ts x.items
      × (x.before + taken (here_of x.what) ≤ count ts))
      (λ ts. done_after (here_of x.what) x.before ts)
      (λ ts us h k. Children-unique _ _ h.0 k.0);
  one_members = λ x. one_becomes (λ ps. AreMembers ps x.members
      × (x.before + taken (here_of x.what) ≤ pair_count ps))
      (λ ps. pairs_done_after x.key.now (here_of x.what) x.before ps)
      (λ ps qs h k. pairs_unique ps qs _ _ _ _ h.0 k.0);
}
