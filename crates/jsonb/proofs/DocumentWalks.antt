-- The results of the iterators on a document.
use Rattle.std.proofs.Common.{◌≡◌, ℕ, List, Option, Some, None, Result, Ok, map}
use Rattle.std.proofs.Common.{◌∷◌, refl, inl, inr}
use Rattle.std.specs.Map as maps
use Rattle.jsonb_value.specs.declared.error.Error.{Error}
use Rattle.jsonb_value.specs.Tree.{Tree, array, object, Trees, Pairs, no_pairs, pair, count}
use Rattle.jsonb_value.specs.Tree.{pair_count}
use Rattle.jsonb_codec.specs.Doc.{Payload, Doc}
use Rattle.jsonb.specs.ItemView.{ItemView}
use Rattle.jsonb.specs.Entry.{Code}
use Rattle.jsonb.specs.StoredEntries.{IsArrayOfEntries, IsObjectOfEntries, entry_item, member_item}
use Rattle.jsonb.specs.declared.iterator.ChildKind.{ChildKind}
use Rattle.jsonb.specs.declared.iterator.ChildKind.TheVariants.{ArrayItem, ObjectKey, ObjectValue}
use Rattle.jsonb.specs.Walk.{Walk, items_read, count_if, count_under, walk_of_children}
use Rattle.jsonb.specs.Walk.{children_walk, pairs_iterator, pairs_walk}
use Rattle.jsonb.specs.DocumentWalk.{ShowsTrees, key_views, ShowsValues, ShowsPairs, WalksOver}
use Rattle.jsonb.specs.DocumentWalk.{WalksChildren, WalksEntries, WalksPairs, ShowsItems}
use Rattle.jsonb.specs.DocumentWalk.{ShowsValueItems, ShowsMembers, WalksMembers}
use Rattle.jsonb.proofs.KindLaws.{header_of_tree, header_at-Doc}
use Rattle.jsonb.proofs.StoredEntryLaws.{value_trees, both_are, ArrayHolds, array_holds}
use Rattle.jsonb.proofs.StoredEntryLaws.{ObjectHolds, object_holds, shown_items, shown_keys}
use Rattle.jsonb.proofs.StoredEntryLaws.{shown_members}

-- a container's payload is the whole document
pub array_payload : (b : List ℕ) (ts : Trees) → Doc b (array ts) → Payload (array ts) b
array_payload b ts (inl (other, h)) = absurd (other refl)
array_payload b ts (inr (is, h)) = h

pub object_payload : (b : List ℕ) (ps : Pairs) → Doc b (object ps) → Payload (object ps) b
object_payload b ps (inl (other, h)) = absurd (other refl)
object_payload b ps (inr (is, h)) = h

-- the count in the header, for each kind
pub count_under-Doc : (b : List ℕ) (t : Tree) (tag : ℕ) → Doc b t
    → count_under b tag ≡ Ok (count_if tag (header_of_tree t))
unfolding count_under
count_under-Doc b t tag doc = rw (header_at-Doc b t doc)

-- The iterator of a container has the results that `Shows` describes, and for any other tree there
-- is none.
abbrev WalksTrees : (Trees → List (Result ItemView Error) → Type 0) → Tree
    → Result (Option (Walk ItemView)) Error → Type 0
WalksTrees Shows (array ts) r = WalksOver (count ts) (Shows ts) r
WalksTrees Shows t r = r ≡ Ok None

abbrev WalksObject : {A : Type 0} → (Pairs → List (Result A Error) → Type 0) → Tree
    → Result (Option (Walk A)) Error → Type 0
WalksObject Shows (object ps) r = WalksOver (pair_count ps) (Shows ps) r
WalksObject Shows t r = r ≡ Ok None

ShowsValues-trees : (ps : Pairs) (xs : List (Result ItemView Error))
    → ShowsTrees (value_trees ps) xs → ShowsValues ps xs
ShowsValues-trees no_pairs xs h = h
ShowsValues-trees (pair k t ps) (Ok x ∷ xs) h = (h.0, ShowsValues-trees ps xs h.1)
ShowsValues-trees (pair k t ps) xs h = absurd h

module _ (b : List ℕ) where
  array_walked : (Shows : Trees → List (Result ItemView Error) → Type 0)
      → ((ts : Trees) (a : ArrayHolds b ts) → Shows ts (items_read (map Ok a.entries))) → (t : Tree)
      → Doc b t
      → WalksTrees Shows t (walk_of_children ArrayItem b (count_if 2147483648 (header_of_tree t)))
  array_walked Shows shows (array ts) doc =
      let holds = array_holds b ts (array_payload b ts doc) in
      rw holds.read (refl, shows ts holds)
  array_walked Shows shows t doc = refl

  object_walked : {A : Type 0} (Shows : Pairs → List (Result A Error) → Type 0)
      (walk : Option ℕ → Result (Option (Walk A)) Error) → walk None ≡ Ok None
      → ((ps : Pairs) (o : ObjectHolds b ps)
      → WalksOver (pair_count ps) (Shows ps) (walk (Some (pair_count ps))))
      → (t : Tree) → Doc b t → WalksObject Shows t (walk (count_if 1073741824 (header_of_tree t)))
  object_walked Shows walk none some (object ps) doc =
      some ps (object_holds b ps (object_payload b ps doc))
  object_walked Shows walk none some t doc = none

-- each iterator on a document
module _ (b : List ℕ) (t : Tree) (doc : Doc b t) where
  array_shown : (Shows : Trees → List (Result ItemView Error) → Type 0)
      → ((ts : Trees) (cs : List Code) → IsArrayOfEntries b ts cs
      → ShowsTrees ts (map entry_item cs)
      → Shows ts (map entry_item cs))
      → WalksTrees Shows t (children_walk ArrayItem b)
  array_shown Shows shows = rw (count_under-Doc b t 2147483648 doc)
      (array_walked b Shows (λ ts a.
      let shown = shown_items a.entries ts a.stored.mean a.stored.short in
      rw shown.0 (shows ts a.entries a.stored shown.1)) t doc)

  values_shown : (Shows : Pairs → List (Result ItemView Error) → Type 0)
      → ((ps : Pairs) (ms : List (List ℕ × Code)) → IsObjectOfEntries b ps ms
      → ShowsTrees (value_trees ps) (map entry_item (maps.values_of ms))
      → Shows ps (map entry_item (maps.values_of ms)))
      → WalksObject Shows t (children_walk ObjectValue b)
  values_shown Shows shows = rw (count_under-Doc b t 1073741824 doc)
      (object_walked b Shows (walk_of_children ObjectValue b) refl (λ ps o.
      let mean = (both_are _ _ ps o.stored.mean).1 in
      let shown = shown_items (maps.values_of o.members) (value_trees ps) mean o.stored.short in
      rw (o.ends, o.values) (refl, rw shown.0 (shows ps o.members o.stored shown.1))) t doc)

  pairs_shown : (Shows : Pairs → List (Result (List ℕ × ItemView) Error) → Type 0)
      → ((ps : Pairs) (ms : List (List ℕ × Code)) → IsObjectOfEntries b ps ms
      → ShowsPairs ps (map member_item ms) → Shows ps (map member_item ms))
      → WalksObject Shows t (pairs_walk b)
  pairs_shown Shows shows = rw (count_under-Doc b t 1073741824 doc)
      (object_walked b Shows (pairs_iterator b) refl (λ ps o.
      let shown = shown_members o.members ps o.stored.mean o.texts o.stored.short in
      rw (o.ends, o.values, o.keys) (refl, rw shown.0 (shows ps o.members o.stored shown.1))) t doc)

  -- the children
  pub children_walk-Doc : (kind : ChildKind) → WalksChildren kind t (children_walk kind b)
  children_walk-Doc ArrayItem = array_shown ShowsTrees (λ ts cs stored shown. shown)
  children_walk-Doc ObjectKey = rw (count_under-Doc b t 1073741824 doc)
      (object_walked b (λ ps xs. xs ≡ key_views ps) (walk_of_children ObjectKey b) refl (λ ps o.
      let keys = (both_are _ _ ps o.stored.mean).0 in
      rw (o.keys, keys) (refl, shown_keys ps (rw keys at o.texts))) t doc)
  children_walk-Doc ObjectValue =
      values_shown ShowsValues (λ ps ms stored. ShowsValues-trees ps _)

  -- the items of their entries
  pub children_entries-Doc : (kind : ChildKind) → WalksEntries kind b t (children_walk kind b)
  children_entries-Doc ArrayItem = array_shown (ShowsItems b)
      (λ ts cs stored shown. record { entries = cs; stored = stored; items = refl })
  children_entries-Doc ObjectKey = children_walk-Doc ObjectKey
  children_entries-Doc ObjectValue = values_shown (ShowsValueItems b)
      (λ ps ms stored shown. record { members = ms; stored = stored; items = refl })

  pub pairs_walk-Doc : WalksPairs t (pairs_walk b)
  pairs_walk-Doc = pairs_shown ShowsPairs (λ ps ms stored shown. shown)

  pub members-Doc : WalksMembers b t (pairs_walk b)
  members-Doc = pairs_shown (ShowsMembers b)
      (λ ps ms stored shown. record { members = ms; stored = stored; items = refl })
