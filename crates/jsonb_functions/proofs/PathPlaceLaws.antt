-- What is at the places to which paths lead in a document.
use Rattle.std.proofs.Common.{◌≡◌, ℕ, zero, suc, ◌+◌, ◌-◌, ◌*◌, ◌<◌, ◌≤◌, ◌==◌, ◌&&◌, nat_le}
use Rattle.std.proofs.Common.{if◌then◌else◌, min, Bool, true, false, List, [], ◌∷◌, ◌++◌}
use Rattle.std.proofs.Common.{length, map, flat_map, take, drop, slice_get, Option, None, Some}
use Rattle.std.proofs.Common.{Result, Ok, Err, refl, sym, ap, ap₂, subst, ◌∙◌, inl, inr}
use Rattle.std.proofs.Common.{arith, length-drop, get_or, ne_eqb, zero-add}
use Rattle.std.specs.Borrow.{Bor}
use Rattle.std.specs.List.{sum_by}
use Rattle.std.specs.Prelude.{option_map, option_to_list, nat_eq, slice_index_or, ⊤}
use Rattle.std.specs.Cmp.Lexicographic.{pointwise}
use Rattle.std.specs.Map.{keys_of, values_of}
use Rattle.std.proofs.Math.Bool.{and-false}
use Rattle.std.proofs.Math.Nat.{sub-zero}
use Rattle.std.proofs.Math.Seq.{take-length}
use Rattle.std.proofs.lemmas.Bool.{eq-eqb, le-leb, leb-true}
use Rattle.std.proofs.lemmas.Bool.Decides.{Decides-eqb}
use Rattle.std.proofs.lemmas.List.{append-nil, drop-drop, drop-take, length-take, take-take}
use Rattle.std.proofs.lemmas.List.Sums.{sum_by-cons}
use Rattle.std.proofs.lemmas.Slice.Eq.{slice_eq-Decides}
use Rattle.jsonb_value.specs.declared.error.Error.{Error}
use Rattle.jsonb_value.specs.Tree.{Tree, boolean, array, object}
use Rattle.jsonb_value.specs.Tree.{Trees, no_trees, tree, Pairs, no_pairs, pair, count, pair_count}
use Rattle.jsonb_codec.specs.declared.constants.TheConstants.{ARRAY_CONTAINER_TAG}
use Rattle.jsonb_codec.specs.declared.constants.TheConstants.{OBJECT_CONTAINER_TAG, CONTAINER_TAG}
use Rattle.jsonb_codec.specs.declared.jentry.JEntry.{JEntry}
use Rattle.jsonb_codec.specs.Doc.{Doc, Payload, Scalar, type_of}
use Rattle.jsonb_codec.specs.JEntry.{jentry_at}
use Rattle.jsonb_codec.specs.Parts.{IsPayloadOf}
use Rattle.jsonb_codec.specs.WordBytes.{header_at, word}
use Rattle.jsonb.specs.Building.{key_codes}
use Rattle.jsonb.specs.Children.{Pairwise}
use Rattle.jsonb.specs.Entry.{entry_at, entry_read, entry_there, placed_at, placed_by, Code}
use Rattle.jsonb.specs.Entries.{Run, item_run, key_run}
use Rattle.jsonb.specs.Entries.{placed_from, until_error, value_run}
use Rattle.jsonb.specs.Item.{item_in, item_under, scalar_item}
use Rattle.jsonb.specs.ItemView.{ItemView, raw}
use Rattle.jsonb.specs.Node.{items_of, pair_list, tree_list, value_of_key}
use Rattle.jsonb.specs.Lookup.{find_pair}
use Rattle.jsonb.specs.Parts.{length_in}
use Rattle.jsonb.specs.Steps.{◌>>=◌}
use Rattle.jsonb.specs.StoredEntries.{AreCodesOf, AreMemberEntriesOf, entry_item}
use Rattle.jsonb.specs.declared.entries.Entry.{Entry}
use Rattle.jsonb.proofs.EntryTreeLaws.{entry_tree-is}
use Rattle.jsonb.proofs.KindLaws.{At-entry, IsTag-type_of, container_cases, header_at-Scalar}
use Rattle.jsonb.proofs.ItemLaws.{entry_at-Scalar}
use Rattle.jsonb.proofs.KindLaws.{header_at-Doc, header_at-array, header_at-object, header_of_tree}
use Rattle.jsonb.proofs.NodeLaws.{container_item}
use Rattle.jsonb.proofs.Places.{At-after_word, At-left, jentry_at-At, take-At, within-At}
use Rattle.jsonb.proofs.StoredEntryLaws.{array_holds, object_holds}
use Rattle.jsonb_functions.specs.Contains.{items_or_none}
use Rattle.jsonb_functions.specs.Filter.{filtered, holds}
use Rattle.jsonb_functions.specs.Found.{child_at, found_at, if_there, item_there}
use Rattle.jsonb_functions.specs.Path.{item_place}
use Rattle.jsonb_functions.specs.PathPlaces.{HoldTrees, HoldsFound, HoldsTree, IsPlaceWithin}
use Rattle.jsonb_functions.specs.PathPlaces.{at_place, entries_after, first_entry, header_there}
use Rattle.jsonb_functions.specs.PathPlaces.{nth_entry, listed_places, member_entry, moved}
use Rattle.jsonb_functions.specs.PathPlaces.{named_entry, path_place, place_from, places_at}
use Rattle.jsonb_functions.specs.PathPlaces.{range_places, read_entries}
use Rattle.jsonb_functions.specs.PathPlaces.{run_entries, selected_from}
use Rattle.jsonb_functions.specs.PathPlaces.{selected_places, step_place, tree_there}
use Rattle.jsonb_functions.specs.PathPlaces.{value_entries, value_places, whole_place, whole_under}
use Rattle.jsonb_functions.specs.PlaceWalks.{AreAllParts, IsPart, LeadsOn, walk_places}
use Rattle.jsonb_functions.specs.Selected.{children_at, first_tree, indexes_of, items_before}
use Rattle.jsonb_functions.specs.Selected.{items_through, member_trees, selected, step_at, trees_at}
use Rattle.jsonb_functions.specs.Selected.{trees_between}
use Rattle.jsonb_functions.specs.SelectSteps.{asked, select_steps}
use Rattle.jsonb_functions.specs.declared.filter.Condition.{Condition}
use Rattle.jsonb_functions.specs.declared.path.Step.{Step}
use Rattle.jsonb_functions.specs.declared.path.Step.TheVariants as steps
use Rattle.jsonb_functions.specs.declared.places.PlaceWalk.{PlaceWalk}
use Rattle.jsonb_functions.specs.declared.selection.Bound.{Bound}
use Rattle.jsonb_functions.specs.declared.selection.Bound.TheVariants.{FromStart, FromEnd}
use Rattle.jsonb_functions.specs.declared.selection.Selector.{Selector}
use Rattle.jsonb_functions.specs.declared.selection.Selector.TheVariants as selectors
use Rattle.jsonb_functions.proofs.SelectLaws.{drop_take, index_there, none_left}

-- A place inside the bytes, where the tree is.
abbrev pub Held : List ℕ → Entry → Tree → Type 0
Held bytes place t = IsPlaceWithin bytes place × HoldsTree bytes place t

-- There is such a place exactly if there is a tree.
abbrev pub HeldFound : List ℕ → Option Entry → Option Tree → Type 0
HeldFound bytes (Some place) (Some t) = Held bytes place t
HeldFound bytes (Some place) None = ⊥
HeldFound bytes None (Some t) = ⊥
HeldFound bytes None None = ⊤

holds_entry : (b : List ℕ) (place : Entry) (c : Code) (t : Tree)
    → entry_there b place ≡ c → IsPayloadOf c.type c.payload t → HoldsTree b place t
holds_entry b place c t there =
    subst (λ (e : Code). IsPayloadOf e.type e.payload t) (sym there)

abbrev Placed : Type 0
Placed = List (Result Entry Error)

-- The entries that were read, where all were.
pub record AreRead (b : List ℕ) (placed : Placed) (cs : List Code) : Type 0 where
  pub places : List Entry
  pub all : placed ≡ map Ok places
  pub there : map (entry_there b) places ≡ cs

pub are_read : (b : List ℕ) (placed : Placed) (cs : List Code)
    → until_error (map (entry_read b) placed) ≡ map Ok cs → AreRead b placed cs
are_read b [] [] e = record { places = []; all = refl; there = refl }
are_read b [] (c ∷ cs) e = absurd cc
are_read b (Ok place ∷ placed) [] e = absurd cc
are_read b (Ok place ∷ placed) (c ∷ cs) e =
    let first : entry_there b place ≡ c = cc in
    let rest : until_error (map (entry_read b) placed) ≡ map Ok cs = cc in
    let more = are_read b placed cs rest in record {
      places = place ∷ more.places;
      all = ap (λ (xs : Placed). Ok place ∷ xs) more.all;
      there = ap₂ (λ (x : Code) (xs : List Code). x ∷ xs) first more.there;
    }
are_read b (Err e ∷ placed) [] is = absurd cc
are_read b (Err e ∷ placed) (c ∷ cs) is = absurd cc

-- All that were read are inside the bytes.
abbrev pub AreWithin : List ℕ → List Entry → Type 0
AreWithin b [] = ⊤
AreWithin b (place ∷ places) = IsPlaceWithin b place × AreWithin b places

first_within : (b : List ℕ) (start : ℕ) (r : Result JEntry Error) (others : Placed)
    → AreWithin b (read_entries others)
    → AreWithin b (read_entries ((r >>= placed_by b start) ∷ others))
first_within b start (Err e) others more = tt
first_within b start (Ok j) others more =
    by (nat_le (start + j.length) (length b)) refl where
      by : (test : Bool) → nat_le (start + j.length) (length b) ≡ test
          → AreWithin b (read_entries ((if test
          then Ok (record { type_code = j.type_code; start = start; length = j.length })
          else Err Error.InvalidJsonb) ∷ others))
      by true is = (leb-true (start + j.length) (length b) is, more)
      by false is = tt

pub run_within : (b : List ℕ) (n word start : ℕ)
    → AreWithin b (read_entries (placed_from b n word start))
run_within b zero word start = tt
run_within b (suc n) word start =
    first_within b start (jentry_at b word)
    (placed_from b n (word + 4) (start + length_in (jentry_at b word)))
    (run_within b n (word + 4) (start + length_in (jentry_at b word)))

-- What is left of them.
pub read_all : (places : List Entry) → read_entries (map Ok places) ≡ places
read_all [] = refl
read_all (place ∷ places) = ap (λ xs. place ∷ xs) (read_all places)

left_all : (n : ℕ) (places : List Entry)
    → entries_after n (map Ok places) ≡ drop n places
left_all zero places = read_all places
left_all (suc n) [] = refl
left_all (suc n) (place ∷ places) = left_all n places

-- the entries and the trees that they hold
Pairwise-take : {A B : Type 0} (R : A → B → Type 0) (n : ℕ) (xs : List A) (ys : List B)
    → Pairwise R xs ys → Pairwise R (take n xs) (take n ys)
Pairwise-take R zero [] ys h = refl
Pairwise-take R zero (x ∷ xs) ys h = refl
Pairwise-take R (suc n) [] ys h = ap (take (suc n)) h
Pairwise-take R (suc n) (x ∷ xs) [] h = absurd h
Pairwise-take R (suc n) (x ∷ xs) (y ∷ ys) h = (h.0, Pairwise-take R n xs ys h.1)

Pairwise-drop : {A B : Type 0} (R : A → B → Type 0) (n : ℕ) (xs : List A) (ys : List B)
    → Pairwise R xs ys → Pairwise R (drop n xs) (drop n ys)
Pairwise-drop R zero xs ys h = h
Pairwise-drop R (suc n) [] ys h = ap (drop (suc n)) h
Pairwise-drop R (suc n) (x ∷ xs) [] h = absurd h
Pairwise-drop R (suc n) (x ∷ xs) (y ∷ ys) h = Pairwise-drop R n xs ys h.1

first_of : (b : List ℕ) (n : ℕ) (places : List Entry) (ts : List Tree)
    → Pairwise (Held b) places ts
    → HeldFound b (first_entry (drop n places)) (slice_get ts n)
first_of b zero [] [] h = tt
first_of b zero [] (t ∷ ts) h = absurd cc
first_of b zero (place ∷ places) [] h = absurd h
first_of b zero (place ∷ places) (t ∷ ts) h = h.0
first_of b (suc n) [] [] h = tt
first_of b (suc n) [] (t ∷ ts) h = absurd cc
first_of b (suc n) (place ∷ places) [] h = absurd h
first_of b (suc n) (place ∷ places) (t ∷ ts) h = first_of b n places ts h.1

-- lists of places, children and trees
Pairwise-append : {A B : Type 0} (R : A → B → Type 0) (xs : List A) (ys : List B) (us : List A)
    (vs : List B) → Pairwise R xs ys → Pairwise R us vs → Pairwise R (xs ++ us) (ys ++ vs)
Pairwise-append R [] ys us vs h k =
    subst (λ zs. Pairwise R us (zs ++ vs)) (sym h) k
Pairwise-append R (x ∷ xs) [] us vs h k = absurd h
Pairwise-append R (x ∷ xs) (y ∷ ys) us vs h k =
    (h.0, Pairwise-append R xs ys us vs h.1 k)

Pairwise-flat_map : {A B C D : Type 0} (R : A → B → Type 0) (S : C → D → Type 0)
    (f : A → List C) (g : B → List D) (each : (x : A) (y : B) → R x y → Pairwise S (f x) (g y))
    (xs : List A) (ys : List B) → Pairwise R xs ys
    → Pairwise S (flat_map f xs) (flat_map g ys)
Pairwise-flat_map R S f g each [] ys h = ap (flat_map g) h
Pairwise-flat_map R S f g each (x ∷ xs) [] h = absurd h
Pairwise-flat_map R S f g each (x ∷ xs) (y ∷ ys) h =
    Pairwise-append S (f x) (g y) (flat_map f xs) (flat_map g ys) (each x y h.0)
    (Pairwise-flat_map R S f g each xs ys h.1)

Pairwise-weaker : {A B : Type 0} (R S : A → B → Type 0)
    (each : (x : A) (y : B) → R x y → S x y) (xs : List A) (ys : List B) → Pairwise R xs ys
    → Pairwise S xs ys
Pairwise-weaker R S each [] ys h = h
Pairwise-weaker R S each (x ∷ xs) [] h = absurd h
Pairwise-weaker R S each (x ∷ xs) (y ∷ ys) h =
    (each x y h.0, Pairwise-weaker R S each xs ys h.1)

-- The items of an array.
length-tree_list : (ts : Trees) → length (tree_list ts) ≡ count ts
length-tree_list no_trees = refl
length-tree_list (tree t ts) = ap suc (length-tree_list ts)

items_held : (b : List ℕ) (places : List Entry) (cs : List Code) (ts : Trees)
    → map (entry_there b) places ≡ cs → AreWithin b places → AreCodesOf cs ts
    → Pairwise (Held b) places (tree_list ts)
items_held b [] [] ts there within mean = ap tree_list mean
items_held b [] (c ∷ cs) ts there within mean = absurd cc
items_held b (place ∷ places) [] ts there within mean = absurd cc
items_held b (place ∷ places) (c ∷ cs) no_trees there within mean = absurd mean
items_held b (place ∷ places) (c ∷ cs) (tree t ts) there within mean =
    let first : entry_there b place ≡ c = cc in
    let rest : map (entry_there b) places ≡ cs = cc in (
      (within.0, holds_entry b place c t first mean.0),
      items_held b places cs ts rest within.1 mean.1,
    )

-- the entries of an array, with their places
pub record ArrayPlaced (b : List ℕ) (ts : Trees) : Type 0 where
  pub places : List Entry
  pub all : (item_run b (count ts)).entries ≡ map Ok places
  pub held : Pairwise (Held b) places (tree_list ts)

array_placed : (b : List ℕ) (ts : Trees) → Payload (array ts) b → ArrayPlaced b ts
array_placed b ts h =
    let holds = array_holds b ts h in
    let n = count ts in
    let read = are_read b (item_run b n).entries holds.entries holds.read in
    let within = subst (AreWithin b) (ap read_entries read.all ∙ read_all read.places)
    (run_within b n 4 (4 + 4 * n)) in record {
      places = read.places;
      all = read.all;
      held = items_held b read.places holds.entries ts read.there within holds.stored.mean;
    }

item_held : (b : List ℕ) (ts : Trees) → Payload (array ts) b → (place : Option (ℕ × Bool))
    → HeldFound b (nth_entry place b (count ts)) (item_there place ts)
item_held b ts h None = tt
item_held b ts h (Some (m, false)) = tt
item_held b ts h (Some (m, true)) =
    let placed = array_placed b ts h in
    let left = ap (entries_after m) placed.all ∙ left_all m placed.places in
    rw left (first_of b m placed.places (tree_list ts) placed.held)

range_held : (b : List ℕ) (ts : Trees) → Payload (array ts) b → (before through : ℕ)
    → Pairwise (Held b)
    (take (through - before) (entries_after before (item_run b (count ts)).entries))
    (drop before (take through (tree_list ts)))
range_held b ts h before through =
    let placed = array_placed b ts h in
    let left = ap (entries_after before) placed.all ∙ left_all before placed.places in
    rw (left, ← drop_take before through (tree_list ts))
    (Pairwise-take (Held b) (through - before) (drop before placed.places)
    (drop before (tree_list ts))
    (Pairwise-drop (Held b) before placed.places (tree_list ts) placed.held))

-- a key that equals the name has its length
name_by : (name key : List ℕ) (test : Bool) → test ≡ pointwise nat_eq name key
    → test ≡ ((length key == length name) && pointwise nat_eq name key)
name_by name key true is =
    let same : name ≡ key = (slice_eq-Decides Decides-eqb name key true is).0 refl in
    rw (← is, eq-eqb (length key) (length name) (ap length (sym same))) refl
name_by name key false is = rw (← is, and-false) refl

name_test : (name key : List ℕ)
    → pointwise nat_eq name key ≡ ((length key == length name) && pointwise nat_eq name key)
name_test name key = name_by name key (pointwise nat_eq name key) refl

module _ (b name : List ℕ) where
  named_by : (test : Bool) (place : Entry) (t : Tree) (found : Option Entry)
      (value : Option Tree) → Held b place t → HeldFound b found value
      → HeldFound b (if test then Some place else found) (if test then Some t else value)
  named_by true place t found value held more = held
  named_by false place t found value held more = more

  same_test : (key : Entry) (k l : List ℕ) → (entry_there b key).payload ≡ k → k ≡ l
      → pointwise nat_eq name (entry_there b key).payload
      ≡ ((length l == length name) && pointwise nat_eq name l)
  same_test key k l there same = ap (pointwise nat_eq name) (there ∙ same) ∙ name_test name l

  named_held : (keys values : List Entry) (ms : List (List ℕ × Code)) (ps : Pairs)
      → map (entry_there b) keys ≡ key_codes (keys_of ms)
      → map (entry_there b) values ≡ values_of ms → AreWithin b values
      → AreMemberEntriesOf (keys_of ms) (values_of ms) ps
      → HeldFound b (named_entry name b keys values)
      (find_pair (pointwise nat_eq name) (length name) ps)
  named_held [] values [] ps there are within mean =
      rw mean tt
  named_held [] values (m ∷ ms) ps there are within mean = absurd cc
  named_held (key ∷ keys) values [] ps there are within mean = absurd cc
  named_held (key ∷ keys) [] (m ∷ ms) ps there are within mean = absurd cc
  named_held (key ∷ keys) (value ∷ values) (m ∷ ms) no_pairs there are within mean = absurd mean
  named_held (key ∷ keys) (value ∷ values) (m ∷ ms) (pair l t ps) there are within mean =
      let key_is : entry_there b key ≡ record { type = 268435456; payload = m.0 } = cc in
      let first : (entry_there b key).payload ≡ m.0 = ap (λ (e : Code). e.payload) key_is in
      let value_is : entry_there b value ≡ m.1 = cc in
      let keys_are : map (entry_there b) keys ≡ key_codes (keys_of ms) = cc in
      let values_are : map (entry_there b) values ≡ values_of ms = cc in
      let test = same_test key m.0 l first mean.0 in
      rw test (named_by ((length l == length name) && pointwise nat_eq name l) value t
      (named_entry name b keys values) (find_pair (pointwise nat_eq name) (length name) ps)
      (within.0, holds_entry b value m.1 t value_is mean.1.0)
      (named_held keys values ms ps keys_are values_are within.1 mean.1.1))

values_held : (b : List ℕ) (values : List Entry) (ms : List (List ℕ × Code)) (ps : Pairs)
    → map (entry_there b) values ≡ values_of ms → AreWithin b values
    → AreMemberEntriesOf (keys_of ms) (values_of ms) ps
    → Pairwise (Held b) values (map (λ p. p.1) (pair_list ps))
values_held b [] [] ps are within mean = ap (λ qs. map (λ p. p.1) (pair_list qs)) mean
values_held b [] (m ∷ ms) ps are within mean = absurd cc
values_held b (value ∷ values) [] ps are within mean = absurd cc
values_held b (value ∷ values) (m ∷ ms) no_pairs are within mean = absurd mean
values_held b (value ∷ values) (m ∷ ms) (pair l t ps) are within mean =
    let first : entry_there b value ≡ m.1 = cc in
    let rest : map (entry_there b) values ≡ values_of ms = cc in (
      (within.0, holds_entry b value m.1 t first mean.1.0),
      values_held b values ms ps rest within.1 mean.1.1,
    )

-- the entries of an object, with their places
pub record ObjectPlaced (b : List ℕ) (ps : Pairs) : Type 0 where
  pub keys : List Entry
  pub values : List Entry
  pub members : List (List ℕ × Code)
  pub all_keys : read_entries (key_run b (pair_count ps)).entries ≡ keys
  pub all_values : run_entries (value_run b (pair_count ps)) ≡ values
  pub keys_there : map (entry_there b) keys ≡ key_codes (keys_of members)
  pub values_there : map (entry_there b) values ≡ values_of members
  pub within : AreWithin b values
  pub mean : AreMemberEntriesOf (keys_of members) (values_of members) ps

object_placed : (b : List ℕ) (ps : Pairs) → Payload (object ps) b → ObjectPlaced b ps
object_placed b ps h =
    let holds = object_holds b ps h in
    let n = pair_count ps in
    let keys = are_read b (key_run b n).entries (key_codes (keys_of holds.members)) holds.keys in
    let placed = placed_from b n (4 + 4 * n) holds.end in
    let values = are_read b placed (values_of holds.members) holds.values in
    let read = ap read_entries values.all ∙ read_all values.places in record {
      keys = keys.places;
      values = values.places;
      members = holds.members;
      all_keys = ap read_entries keys.all ∙ read_all keys.places;
      all_values = ap (λ (r : Result ℕ Error). run_entries (r >>= λ (start : ℕ).
          Ok (record { bytes = b; entries = placed_from b n (4 + 4 * n) start }))) holds.ends
          ∙ read;
      keys_there = keys.there;
      values_there = values.there;
      within = subst (AreWithin b) read (run_within b n (4 + 4 * n) holds.end);
      mean = holds.stored.mean;
    }

member_held : (b : List ℕ) (ps : Pairs) → Payload (object ps) b → (s : Step)
    → HeldFound b (member_entry s b (pair_count ps)) (child_at s (object ps))
member_held b ps h (steps.Key k) =
    let placed = object_placed b ps h in
    rw (placed.all_keys, placed.all_values)
    (named_held b k.now placed.keys placed.values placed.members ps placed.keys_there
    placed.values_there placed.within placed.mean)
member_held b ps h (steps.Index i) = tt
member_held b ps h (steps.FromEnd i) = tt
member_held b ps h steps.End = tt

all_held : (b : List ℕ) (ps : Pairs) → Payload (object ps) b
    → Pairwise (Held b) (run_entries (value_run b (pair_count ps)))
    (map (λ p. p.1) (pair_list ps))
all_held b ps h =
    let placed = object_placed b ps h in
    rw placed.all_values
    (values_held b placed.values placed.members ps placed.values_there placed.within placed.mean)

-- an entry of the array or object at a place, as a place in all bytes
payload_moved : (bytes : List ℕ) (s l c k : ℕ) → c + k ≤ length (take l (drop s bytes))
    → take k (drop c (take l (drop s bytes))) ≡ take k (drop (s + c) bytes)
payload_moved bytes s l c k inside =
    let n = length-take l (drop s bytes) in
    let whole : l ≡ c + (l - c) = omega arith in
    ap (λ (m : ℕ). take k (drop c (take m (drop s bytes)))) whole
    ∙ ap (take k) (drop-take c (l - c) (drop s bytes))
    ∙ take-take k (l - c) (drop c (drop s bytes)) (omega arith)
    ∙ ap (take k) (drop-drop c s bytes)

entry_moved : (bytes : List ℕ) (place child : Entry) (t : Tree)
    → IsPlaceWithin bytes place → Held (entry_there bytes place).payload child t
    → Held bytes (moved place.start child) t
entry_moved bytes place child t inside held =
    let n = length-take place.length (drop place.start bytes) in
    let m = length-drop place.start bytes in
    let within = held.0 in (
      omega arith,
      (
        held.1.0,
        subst (Payload t)
            (payload_moved bytes place.start place.length child.start child.length
            held.0) held.1.1,
      ),
    )

module _ (bytes : List ℕ) (place : Entry) (inside : IsPlaceWithin bytes place) where
  abbrev payload : List ℕ
  payload = (entry_there bytes place).payload

  found_moved : (found : Option Entry) (value : Option Tree) → HeldFound payload found value
      → HeldFound bytes (option_map (moved place.start) found) value
  found_moved None None h = tt
  found_moved None (Some t) h = absurd h
  found_moved (Some child) None h = absurd h
  found_moved (Some child) (Some t) h = entry_moved bytes place child t inside h

  all_moved : (places : List Entry) (ts : List Tree) → Pairwise (Held payload) places ts
      → Pairwise (Held bytes) (map (moved place.start) places) ts
  all_moved [] ts h = h
  all_moved (child ∷ places) [] h = absurd h
  all_moved (child ∷ places) (t ∷ ts) h =
      (entry_moved bytes place child t inside h.0, all_moved places ts h.1)

  -- the header at the place of an array, an object or a scalar
  header_is : (header : ℕ × ℕ) → CONTAINER_TAG ≡ place.type_code
      → header_at payload 0 ≡ Ok header → header_there bytes place ≡ Some header
  header_is header is read =
      let test = eq-eqb place.type_code CONTAINER_TAG (sym is) in rw (test, read) refl

  no_header : (type : ℕ) → type ≡ place.type_code → (type == CONTAINER_TAG) ≡ false
      → header_there bytes place ≡ None
  no_header type is other =
      let test = ap (λ (n : ℕ). n == CONTAINER_TAG) (sym is) ∙ other in rw test refl

  no_child : (t : Tree) → ((k : List ℕ) → value_of_key k t ≡ None) → items_of t ≡ None
      → (step : Step) → child_at step t ≡ None
  no_child (array ts) keys items step = absurd cc
  no_child (object ps) keys items (steps.Key k) = keys k.now
  no_child t keys items (steps.Key k) = refl
  no_child t keys items step = refl

  no_step : (s : Step) (t : Tree) (type : ℕ) → type ≡ place.type_code
      → (type == CONTAINER_TAG) ≡ false → child_at s t ≡ None
      → HeldFound bytes (step_place s bytes place) (child_at s t)
  no_step s t type is other none = let header = no_header type is other in rw (header, none) tt

  -- Where a step leads.
  pub step_held : (s : Step) (t : Tree) → HoldsTree bytes place t
      → HeldFound bytes (step_place s bytes place) (child_at s t)
  step_held s (array ts) h =
      let header = header_is (ARRAY_CONTAINER_TAG, count ts) h.0 (header_at-array payload ts h.1) in
      rw header (found_moved (nth_entry (item_place s (count ts)) payload (count ts))
      (item_there (item_place s (count ts)) ts)
      (item_held payload ts h.1 (item_place s (count ts))))
  step_held s (object ps) h =
      let header =
      header_is (OBJECT_CONTAINER_TAG, pair_count ps) h.0 (header_at-object payload ps h.1) in
      rw header (found_moved (member_entry s payload (pair_count ps)) (child_at s (object ps))
      (member_held payload ps h.1 s))
  step_held s (boolean true) h =
      no_step s (boolean true) _ h.0 refl (no_child (boolean true) (λ k. refl) refl s)
  step_held s t h = no_step s t _ h.0 refl (no_child t (λ k. refl) refl s)

  -- Where a range leads, and where the members do.
  nothing_taken : (m n : ℕ) → ◌≡◌ {A = List Tree} (drop m (take n [])) []
  nothing_taken zero zero = refl
  nothing_taken zero (suc n) = refl
  nothing_taken (suc m) zero = refl
  nothing_taken (suc m) (suc n) = refl

  no_range : (first last : Bound) → trees_between first last [] ≡ []
  no_range first last = nothing_taken (items_before first 0) (items_through last 0)

  pub range_leads : (first last : Bound) (t : Tree) → HoldsTree bytes place t
      → Pairwise (Held bytes) (range_places first last bytes place)
      (trees_between first last (tree_list (items_or_none t)))
  range_leads first last (array ts) h =
      let n = count ts in
      let header = header_is (ARRAY_CONTAINER_TAG, n) h.0 (header_at-array payload ts h.1) in
      rw (header, length-tree_list ts) (all_moved _ _
      (range_held payload ts h.1 (items_before first n) (items_through last n)))
  range_leads first last (object ps) h =
      let header =
      header_is (OBJECT_CONTAINER_TAG, pair_count ps) h.0 (header_at-object payload ps h.1) in
      rw header (no_range first last)
  range_leads first last (boolean true) h =
      let header = no_header _ h.0 refl in rw header (no_range first last)
  range_leads first last t h = let header = no_header _ h.0 refl in rw header (no_range first last)

  pub members_lead : (t : Tree) → HoldsTree bytes place t
      → Pairwise (Held bytes) (value_places bytes place) (member_trees t)
  members_lead (array ts) h =
      let header =
      header_is (ARRAY_CONTAINER_TAG, count ts) h.0 (header_at-array payload ts h.1) in
      rw header refl
  members_lead (object ps) h =
      let header =
      header_is (OBJECT_CONTAINER_TAG, pair_count ps) h.0 (header_at-object payload ps h.1) in
      rw header (all_moved _ _ (all_held payload ps h.1))
  members_lead (boolean true) h = let header = no_header _ h.0 refl in rw header refl
  members_lead t h = let header = no_header _ h.0 refl in rw header refl

-- All items are those from the first one to the last one.
all_between : (ts : List Tree) → trees_between (FromStart 0) (FromEnd 0) ts ≡ ts
all_between ts =
    let none : min 0 (length ts) ≡ 0 = omega arith in
    ap (λ (n : ℕ). drop n (take (length ts - 0) ts)) none
    ∙ ap (λ (n : ℕ). take n ts) (sub-zero (length ts)) ∙ take-length ts

-- A filter leads to the place itself, or to none.
kept_held : (bytes : List ℕ) (place : Entry) (t : Tree) (b : Bool) → Held bytes place t
    → Pairwise (Held bytes) (if b then place ∷ [] else []) (if b then t ∷ [] else [])
kept_held bytes place t true held = (held, refl)
kept_held bytes place t false held = refl

filter_held : (condition : Condition) (bytes : List ℕ) (place : Entry) (t : Tree)
    → Held bytes place t
    → Pairwise (Held bytes) (places_at (selectors.Filter condition) bytes place)
    (filtered condition t)
filter_held condition bytes place t held =
    let same = entry_tree-is place.type_code (entry_there bytes place).payload t held.1 in
    rw same (kept_held bytes place t (holds condition t) held)

-- What is at the places of the items at indexes.
one_held : (bytes : List ℕ) (found : Option Entry) (value : Option Tree)
    → HeldFound bytes found value
    → Pairwise (Held bytes) (option_to_list found) (option_to_list value)
one_held bytes None None h = refl
one_held bytes None (Some u) h = absurd h
one_held bytes (Some p) None h = absurd h
one_held bytes (Some p) (Some u) h = (h, refl)

step_places : (s : Step) (bytes : List ℕ) (place : Entry) (t : Tree) → Held bytes place t
    → Pairwise (Held bytes) (option_to_list (step_place s bytes place))
    (option_to_list (child_at s t))
step_places s bytes place t held =
    one_held bytes (step_place s bytes place) (child_at s t)
    (step_held bytes place held.0 s t held.1)

listed_held : (indexes : List Bound) (bytes : List ℕ) (place : Entry) (t : Tree)
    → Held bytes place t
    → Pairwise (Held bytes) (listed_places bytes place indexes) (trees_at indexes t)
listed_held [] bytes place t held = refl
listed_held (index ∷ indexes) bytes place t held =
    let s = step_at index in
    Pairwise-append (Held bytes) (option_to_list (step_place s bytes place))
    (option_to_list (child_at s t)) (listed_places bytes place indexes) (trees_at indexes t)
    (step_places s bytes place t held)
    (listed_held indexes bytes place t held)

-- The first index that is left was passed, and there is an item or none.
module _ (bytes : List ℕ) (place : Entry) (indexes : List Bound) (n : ℕ) (index : Bound)
    (step : Step) (whole : List Entry) (low : n < length indexes)
    (is : index ≡ slice_index_or indexes n index) (to : step ≡ step_at index)
    (left : listed_places bytes place (drop n indexes) ≡ whole) where
  abbrev places_after : List Entry
  places_after = listed_places bytes place (drop (n + 1) indexes)

  one_passed : whole ≡ option_to_list (step_place step bytes place) ++ places_after
  one_passed =
      sym left ∙ ap (listed_places bytes place) (index_there indexes n index low is)
      ∙ ap (λ s. option_to_list (step_place s bytes place) ++ places_after) (sym to)

  pub item_next : (item : Entry) → Some item ≡ step_place step bytes place
      → whole ≡ item ∷ places_after
  item_next item found = one_passed ∙ ap (λ o. option_to_list o ++ places_after) (sym found)

  pub item_missing : None ≡ step_place step bytes place → places_after ≡ whole
  item_missing none = sym (one_passed ∙ ap (λ o. option_to_list o ++ places_after) (sym none))

pub none_listed : (bytes : List ℕ) (place : Entry) (indexes : List Bound) (n : ℕ)
    (whole : List Entry) → length indexes ≤ n
    → listed_places bytes place (drop n indexes) ≡ whole
    → (whole ≡ []) × (listed_places bytes place (drop n indexes) ≡ [])
none_listed bytes place indexes n whole past left =
    let none : listed_places bytes place (drop n indexes) ≡ [] =
    ap (listed_places bytes place) (none_left indexes n past) in
    (sym left ∙ none, none)

-- What is at the places to which a selector leads.
selector_held : (s : Selector) (bytes : List ℕ) (place : Entry) (t : Tree)
    → Held bytes place t
    → Pairwise (Held bytes) (places_at s bytes place) (children_at s t)
selector_held (selectors.Step s) bytes place t held = step_places s bytes place t held
selector_held selectors.AllItems bytes place t held =
    subst (Pairwise (Held bytes) (range_places (FromStart 0) (FromEnd 0) bytes place))
    (all_between (tree_list (items_or_none t)))
    (range_leads bytes place held.0 (FromStart 0) (FromEnd 0) t held.1)
selector_held selectors.AllMembers bytes place t held =
    members_lead bytes place held.0 t held.1
selector_held (selectors.Range first last) bytes place t held =
    range_leads bytes place held.0 first last t held.1
selector_held (selectors.Indexes indexes) bytes place t held =
    listed_held indexes.items bytes place t held
selector_held (selectors.Filter condition) bytes place t held =
    filter_held condition bytes place t held

-- What is at the places to which a path with wildcards leads.
pub selected_held : (path : List Selector) (bytes : List ℕ) (place : Entry) (t : Tree)
    → Held bytes place t
    → Pairwise (Held bytes) (selected_from path bytes place) (selected path t)
selected_held [] bytes place t held = (held, refl)
selected_held (s ∷ path) bytes place t held =
    Pairwise-flat_map (Held bytes) (Held bytes) (λ p. selected_from path bytes p)
    (λ u. selected path u) (λ p u h. selected_held path bytes p u h)
    (places_at s bytes place) (children_at s t) (selector_held s bytes place t held)

-- Each of the places to which a selector leads holds a tree.
parts_held : (bytes : List ℕ) (places : List Entry) (ts : List Tree)
    → Pairwise (Held bytes) places ts → AreAllParts bytes places
parts_held bytes [] ts held = tt
parts_held bytes (place ∷ places) [] held = absurd held
parts_held bytes (place ∷ places) (t ∷ ts) held =
    ((t, held.0.0, held.0.1), parts_held bytes places ts held.1)

parts_at : (s : Selector) (bytes : List ℕ) (place : Entry) → IsPart bytes place
    → AreAllParts bytes (places_at s bytes place)
parts_at s bytes place part =
    parts_held bytes (places_at s bytes place) (children_at s part.0)
    (selector_held s bytes place part.0 (part.1, part.2))

pub walk_parts : (s : Selector) (bytes : List ℕ) (place : Entry) (walk : PlaceWalk)
    → IsPart bytes place → walk_places (indexes_of s) bytes place walk ≡ places_at s bytes place
    → AreAllParts bytes (walk_places (indexes_of s) bytes place walk)
walk_parts s bytes place walk part e =
    subst (AreAllParts bytes) (sym e) (parts_at s bytes place part)

-- A part by its tree.
pub part_held : (bytes : List ℕ) (place : Entry) → IsPart bytes place
    → Held bytes place (tree_there bytes place)
part_held bytes place part =
    let same = entry_tree-is place.type_code (entry_there bytes place).payload part.0 part.2 in
    (part.1, subst (HoldsTree bytes place) (sym same) part.2)

trees_held : (bytes : List ℕ) (places : List Entry) (ts : List Tree)
    → Pairwise (Held bytes) places ts → map (tree_there bytes) places ≡ ts
trees_held bytes [] ts h = sym h
trees_held bytes (place ∷ places) [] h = absurd h
trees_held bytes (place ∷ places) (t ∷ ts) h =
    ap₂ (λ (u : Tree) (us : List Tree). u ∷ us)
    (entry_tree-is place.type_code (entry_there bytes place).payload t h.0.1)
    (trees_held bytes places ts h.1)

pub trees_at_places : (s : Selector) (bytes : List ℕ) (place : Entry) → IsPart bytes place
    → map (tree_there bytes) (places_at s bytes place) ≡ children_at s (tree_there bytes place)
trees_at_places s bytes place part =
    trees_held bytes (places_at s bytes place) (children_at s (tree_there bytes place))
    (selector_held s bytes place (tree_there bytes place) (part_held bytes place part))

-- The values that a path selects, by their places.
pub selected_trees : (path : List Selector) (bytes : List ℕ) (place : Entry)
    → IsPart bytes place → map (tree_there bytes) (selected_from path bytes place)
    ≡ selected path (tree_there bytes place)
selected_trees path bytes place part =
    trees_held bytes (selected_from path bytes place) (selected path (tree_there bytes place))
    (selected_held path bytes place (tree_there bytes place) (part_held bytes place part))

pub selected_parts : (path : List Selector) (bytes : List ℕ) (place : Entry)
    → IsPart bytes place → AreAllParts bytes (selected_from path bytes place)
selected_parts path bytes place part =
    parts_held bytes (selected_from path bytes place) (selected path part.0)
    (selected_held path bytes place part.0 (part.1, part.2))

-- The places to which the first step of a path leads are those from which the others go on.
pub first_step : (path : List Selector) (s : Selector) (bytes : List ℕ) (place : Entry)
    → 1 ≤ length path → get_or path 0 s ≡ s
    → selected_from path bytes place
    ≡ flat_map (λ next. selected_from (take (length path - 1) (drop 1 path)) bytes next)
    (places_at s bytes place)
first_step [] s bytes place some first = absurd (omega (arith, some))
first_step (x ∷ rest) s bytes place some first =
    let fewer : length (x ∷ rest) - 1 ≡ length rest = omega arith in
    let all : take (length (x ∷ rest) - 1) rest ≡ rest = rw fewer (take-length rest) in
    ap (λ later. flat_map (λ next. selected_from later bytes next) (places_at x bytes place))
    (sym all)
    ∙ ap (λ u. flat_map
    (λ next. selected_from (take (length (x ∷ rest) - 1) rest) bytes next)
    (places_at u bytes place)) first

-- so do the steps that it takes
sum_of_trees : (f : Tree → ℕ) (bytes : List ℕ) (places : List Entry)
    → sum_by f (map (tree_there bytes) places) ≡ sum_by (λ next. f (tree_there bytes next)) places
sum_of_trees f bytes [] = refl
sum_of_trees f bytes (place ∷ places) =
    sum_by-cons f (tree_there bytes place) (map (tree_there bytes) places)
    ∙ ap (λ (n : ℕ). f (tree_there bytes place) + n) (sum_of_trees f bytes places)
    ∙ sym (sum_by-cons (λ next. f (tree_there bytes next)) place places)

pub first_steps : (path : List Selector) (s : Selector) (bytes : List ℕ) (place : Entry)
    → IsPart bytes place → 1 ≤ length path → get_or path 0 s ≡ s
    → select_steps path (tree_there bytes place) ≡ asked s (tree_there bytes place)
    + sum_by (λ next. select_steps (take (length path - 1) (drop 1 path)) (tree_there bytes next))
    (places_at s bytes place)
first_steps [] s bytes place part some first = absurd (omega (arith, some))
first_steps (x ∷ rest) s bytes place part some first =
    let t = tree_there bytes place in
    let fewer : length (x ∷ rest) - 1 ≡ length rest = omega arith in
    let all : take (length (x ∷ rest) - 1) rest ≡ rest = rw fewer (take-length rest) in
    ap (λ u. asked u t + sum_by (λ v. select_steps rest v) (children_at u t)) first
    ∙ ap (λ later. asked s t + sum_by (λ v. select_steps later v) (children_at s t)) (sym all)
    ∙ ap (λ ts. asked s t
    + sum_by (λ v. select_steps (take (length (x ∷ rest) - 1) rest) v) ts)
    (sym (trees_at_places s bytes place part))
    ∙ ap (λ (n : ℕ). asked s t + n)
    (sum_of_trees (λ v. select_steps (take (length (x ∷ rest) - 1) rest) v) bytes
    (places_at s bytes place))

-- What is at the place to which a path leads.
first_held : (bytes : List ℕ) (found : Option Entry) (o : Option Tree)
    (f : Entry → Option Entry) (g : Tree → Option Tree)
    → ((p : Entry) (u : Tree) → Held bytes p u → HoldsFound bytes (f p) (g u))
    → HeldFound bytes found o → HoldsFound bytes (at_place found f) (if_there o g)
first_held bytes None None f g each h = tt
first_held bytes None (Some u) f g each h = absurd h
first_held bytes (Some p) None f g each h = absurd h
first_held bytes (Some p) (Some u) f g each h = each p u h

pub end_held : (path : List Step) (bytes : List ℕ) (place : Entry) (t : Tree)
    → Held bytes place t → HoldsFound bytes (place_from path bytes place) (found_at path t)
end_held [] bytes place t held = held.1
end_held (s ∷ path) bytes place t held =
    first_held bytes (step_place s bytes place) (child_at s t)
    (λ p. place_from path bytes p) (λ u. found_at path u)
    (λ p u h. end_held path bytes p u h)
    (step_held bytes place held.0 s t held.1)

-- The place of a whole document.
abbrev IsWhole : List ℕ → Tree → Type 0
IsWhole bytes t = (place : Entry) × ((whole_place bytes ≡ Ok place) × Held bytes place t)

whole_container : (bytes : List ℕ) (t : Tree) (tag n : ℕ) → header_at bytes 0 ≡ Ok (tag, n)
    → whole_under bytes (Ok (tag, n))
    ≡ Ok (record { type_code = CONTAINER_TAG; start = 0; length = length bytes })
    → type_of t ≡ CONTAINER_TAG → Payload t bytes → IsWhole bytes t
whole_container bytes t tag n header is type means = (
  record { type_code = CONTAINER_TAG; start = 0; length = length bytes },
  (
    ap (whole_under bytes) header ∙ is,
    (omega arith, (type, subst (Payload t) (sym (take-length bytes)) means)),
  ),
)

whole_scalar : (bytes : List ℕ) (t : Tree) → Scalar t bytes → IsWhole bytes t
whole_scalar bytes t h =
    let at = At-entry bytes t h in
    let size = length h.payload in
    let here = At-left bytes 4 (word (type_of t + size)) h.payload at in
    let there = At-after_word bytes 4 8 (type_of t + size) h.payload refl at in
    let jentry = jentry_at-At bytes 4 (type_of t) size (IsTag-type_of t) h.short here in
    let within = within-At bytes 8 h.payload there in
    let inside = le-leb (8 + size) (length bytes) within in
    let place : Entry = record { type_code = type_of t; start = 8; length = size } in (
      place,
      (
        ap (whole_under bytes) (header_at-Scalar bytes t h) ∙ rw (jentry, inside) refl,
        (
          within,
          holds_entry bytes place (record { type = type_of t; payload = h.payload }) t
              (ap (λ (p : List ℕ). record { type = type_of t; payload = p })
              (take-At bytes 8 h.payload there))
              (refl, h.means),
        ),
      ),
    )

whole_held : (bytes : List ℕ) (t : Tree) → Doc bytes t → IsWhole bytes t
whole_held bytes t (inr (is, h)) =
    container_cases (λ (u : Tree). Payload u bytes → IsWhole bytes u) t is
    (λ ts h. whole_container bytes (array ts) ARRAY_CONTAINER_TAG (count ts)
    (header_at-array bytes ts h) refl refl h)
    (λ ps h. whole_container bytes (object ps) OBJECT_CONTAINER_TAG (pair_count ps)
    (header_at-object bytes ps h) refl refl h) h
whole_held bytes t (inl (other, h)) = whole_scalar bytes t h

-- What the places of a document that a path selects hold, and the place at the end of a path.
pub places_hold : (bytes : List ℕ) (t : Tree) (path : List Selector) → Doc bytes t
    → HoldTrees bytes (selected_places path bytes) (selected path t)
places_hold bytes t path doc =
    let (place, (is, held)) = whole_held bytes t doc in
    rw is
    (Pairwise-weaker (Held bytes) (HoldsTree bytes) (λ p u h. h.1) (selected_from path bytes place)
    (selected path t) (selected_held path bytes place t held))

pub place_holds : (bytes : List ℕ) (t : Tree) (path : List Step) → Doc bytes t
    → HoldsFound bytes (path_place path bytes) (found_at path t)
place_holds bytes t path doc =
    let (place, (is, held)) = whole_held bytes t doc in
    rw is (end_held path bytes place t held)

-- The whole of a document is at its place.
pub whole_read : (bytes : List ℕ) (t : Tree) (e : Error) → Doc bytes t
    → Err e ≡ whole_place bytes → ⊥
whole_read bytes t e doc none =
    let (whole, (is, held)) = whole_held bytes t doc in
    let both : ◌≡◌ {A = Result Entry Error} (Err e) (Ok whole) = none ∙ is in absurd cc

pub whole_there : (bytes : List ℕ) (t : Tree) (place : Entry) → Doc bytes t
    → Ok place ≡ whole_place bytes → Held bytes place t
whole_there bytes t place doc found =
    let (whole, (is, held)) = whole_held bytes t doc in
    let both : Ok whole ≡ Ok place = sym is ∙ sym found in
    let same : whole ≡ place = cc in
    subst (λ (p : Entry). Held bytes p t) same held

pub whole_part : (bytes : List ℕ) (t : Tree) (place : Entry) → Doc bytes t
    → Ok place ≡ whole_place bytes → IsPart bytes place
whole_part bytes t place doc found =
    let held = whole_there bytes t place doc found in (t, held.0, held.1)

pub whole_tree : (bytes : List ℕ) (t : Tree) (place : Entry) → Doc bytes t
    → Ok place ≡ whole_place bytes → tree_there bytes place ≡ t
whole_tree bytes t place doc found =
    entry_tree-is place.type_code (entry_there bytes place).payload t
    (whole_there bytes t place doc found).1

-- The item of the entry at that place is the one that the bytes hold.
pub whole_item : (b : List ℕ) (t : Tree) (place : Entry) (x : ItemView) → Doc b t
    → Ok place ≡ whole_place b → entry_item (entry_there b place) ≡ Ok x → item_in b ≡ Ok x
unfolding item_in scalar_item entry_at
whole_item b t place x (inl (other, h)) found is =
    let at : placed_at b 4 8 ≡ Ok place =
    sym (ap (whole_under b) (header_at-Scalar b t h)) ∙ sym found in
    let read : entry_at b 4 8 ≡ Ok (entry_there b place) = ap (entry_read b) at in
    let stored : Code = record { type = type_of t; payload = h.payload } in
    let both : ◌≡◌ {A = Result Code Error} (Ok (entry_there b place)) (Ok stored) =
    sym read ∙ entry_at-Scalar b t h in
    let same : entry_there b place ≡ stored = cc in
    let type : place.type_code ≡ type_of t = ap (λ (c : Code). c.type) same in
    rw (
      header_at-Scalar b t h,
      read,
      ne_eqb place.type_code CONTAINER_TAG (λ e. other (sym type ∙ e)),
    ) is
whole_item b t place x (inr (container, h)) found is =
    let doc : Doc b t = inr (container, h) in
    let whole : Entry = record { type_code = CONTAINER_TAG; start = 0; length = length b } in
    let header = header_at-Doc b t doc in
    let under : whole_under b (Ok (header_of_tree t)) ≡ Ok whole =
    container_cases (λ u. whole_under b (Ok (header_of_tree u)) ≡ Ok whole) t container
    (λ ts. refl) (λ ps. refl) in
    let there : ◌≡◌ {A = Result Entry Error} (Ok place) (Ok whole) =
    found ∙ ap (whole_under b) header ∙ under in
    let same : place ≡ whole = cc in
    let held : entry_item (entry_there b whole) ≡ Ok (raw b) =
    container_item CONTAINER_TAG (take (length b) b) b refl (sym (take-length b)) in
    let in_header = container_cases (λ u. item_under (header_of_tree u) b ≡ Ok (raw b)) t container
    (λ ts. refl) (λ ps. refl) in
    let bytes : item_in b ≡ Ok (raw b) = rw header in_header in
    bytes ∙ sym (sym is ∙ ap (λ p. entry_item (entry_there b p)) same ∙ held)

-- What was appended to nothing.
pub appended_alone : (path : List Selector) (b bytes : List ℕ) (place : Entry)
    (before found : List Entry) → before ≡ [] → b ≡ bytes
    → found ≡ before ++ selected_from path b place → found ≡ selected_from path bytes place
appended_alone path b bytes place before found none same are =
    are
    ∙ ap₂ (λ (ps : List Entry) (x : List ℕ). ps ++ selected_from path x place) none same

-- The places that a path selects from there, and the values at them.
module _ (path : List Selector) (bytes : List ℕ) (t : Tree) (place : Entry)
    (part : IsPart bytes place)
    (means : tree_there bytes place ≡ t) (found : List Entry)
    (are : found ≡ selected_from path bytes place) where
  pub parts_selected : AreAllParts bytes found
  parts_selected = subst (AreAllParts bytes) (sym are) (selected_parts path bytes place part)

  pub trees_selected : map (tree_there bytes) found ≡ selected path t
  trees_selected =
      ap (map (tree_there bytes)) are ∙ selected_trees path bytes place part
      ∙ ap (selected path) means

-- A filter that keeps what is at a place leads on from there, and another one nowhere.
kept_place : (f : Entry → List Entry) (place : Entry) (b : Bool) → b ≡ true
    → flat_map f (if b then place ∷ [] else []) ≡ f place
kept_place f place b is =
    ap (λ (k : Bool). flat_map f (if k then place ∷ [] else [])) is ∙ append-nil (f place)

module _ (path : List Selector) (s : Selector) (condition : Condition) (bytes : List ℕ)
    (place : Entry) (some : 1 ≤ length path) (first : get_or path 0 s ≡ s)
    (is : s ≡ selectors.Filter condition) where
  abbrev rest : List Selector
  rest = take (length path - 1) (drop 1 path)

  abbrev kept : List Entry
  kept = places_at (selectors.Filter condition) bytes place

  by_filter : selected_from path bytes place
      ≡ flat_map (λ next. selected_from rest bytes next) kept
  by_filter = first_step path s bytes place some first
      ∙ ap (λ u. flat_map (λ next. selected_from rest bytes next) (places_at u bytes place)) is

  pub kept_on : holds condition (tree_there bytes place) ≡ true
      → selected_from path bytes place ≡ selected_from rest bytes place
  kept_on holds_there =
      by_filter ∙ kept_place (λ next. selected_from rest bytes next) place _ holds_there

  pub left_out : holds condition (tree_there bytes place) ≡ false
      → selected_from path bytes place ≡ []
  left_out fails =
      by_filter
      ∙ ap (λ (k : Bool). flat_map (λ next. selected_from rest bytes next)
      (if k then place ∷ [] else [])) fails

  by_steps : IsPart bytes place → select_steps path (tree_there bytes place)
      ≡ asked (selectors.Filter condition) (tree_there bytes place)
      + sum_by (λ next. select_steps rest (tree_there bytes next)) kept
  by_steps part =
      first_steps path s bytes place part some first
      ∙ ap (λ u. asked u (tree_there bytes place)
      + sum_by (λ next. select_steps rest (tree_there bytes next)) (places_at u bytes place)) is

  pub steps_some : IsPart bytes place
      → asked (selectors.Filter condition) (tree_there bytes place)
      ≤ select_steps path (tree_there bytes place)
  steps_some part = omega (arith, by_steps part)

  pub steps_on : IsPart bytes place → holds condition (tree_there bytes place) ≡ true
      → select_steps path (tree_there bytes place)
      ≡ asked (selectors.Filter condition) (tree_there bytes place)
      + select_steps rest (tree_there bytes place)
  steps_on part holds_there =
      by_steps part
      ∙ ap (λ (k : Bool). asked (selectors.Filter condition) (tree_there bytes place)
      + sum_by (λ next. select_steps rest (tree_there bytes next)) (if k then place ∷ [] else []))
      holds_there
      ∙ ap (λ (n : ℕ). asked (selectors.Filter condition) (tree_there bytes place) + n)
      (zero-add (select_steps rest (tree_there bytes place)))

  pub steps_out : IsPart bytes place → holds condition (tree_there bytes place) ≡ false
      → select_steps path (tree_there bytes place)
      ≡ asked (selectors.Filter condition) (tree_there bytes place)
  steps_out part fails =
      let all = by_steps part ∙ ap (λ (k : Bool). asked (selectors.Filter condition)
      (tree_there bytes place) + sum_by (λ next. select_steps rest (tree_there bytes next))
      (if k then place ∷ [] else [])) fails in
      omega (arith, all)

-- A key is not found where no value can be read, and all values are taken.
no_values : (name b : List ℕ) (keys : List Entry) → None ≡ named_entry name b keys []
no_values name b [] = refl
no_values name b (key ∷ keys) = refl

pub member_unread : (s : Step) (name : Bor (List ℕ)) (b : List ℕ) (n : ℕ) (e : Error)
    → s ≡ steps.Key name → value_run b n ≡ Err e → None ≡ member_entry s b n
member_unread s name b n e is unread =
    rw (is, unread) (no_values name.now b (read_entries (key_run b n).entries))

all_taken : (placed : Placed) → take (length placed) (read_entries placed) ≡ read_entries placed
all_taken [] = refl
all_taken (Ok place ∷ placed) = ap (λ xs. place ∷ xs) (all_taken placed)
all_taken (Err e ∷ placed) = refl

pub values_walked : (bytes : List ℕ) (place : Entry) (b : List ℕ) (n : ℕ) (run : Run)
    (left : ℕ) → b ≡ (entry_there bytes place).payload
    → header_there bytes place ≡ Some (OBJECT_CONTAINER_TAG, n) → value_run b n ≡ Ok run
    → left ≡ length run.entries
    → map (moved place.start) (take left (read_entries run.entries)) ≡ value_places bytes place
values_walked bytes place b n run left same header values many =
    ap (λ (k : ℕ). map (moved place.start) (take k (read_entries run.entries))) many
    ∙ ap (map (moved place.start)) (all_taken run.entries)
    ∙ ap (λ (r : Result Run Error). map (moved place.start) (run_entries r)) (sym values)
    ∙ ap (λ (p : List ℕ). map (moved place.start) (run_entries (value_run p n))) same
    ∙ ap (λ (h : Option (ℕ × ℕ)). map (moved place.start)
    (value_entries (entry_there bytes place).payload h)) (sym header)

-- What a walk over the places to which the first selector leads has to give.
module _ (left : List Selector) (s : Selector) (bytes : List ℕ) (place : Entry)
    (walk : PlaceWalk) (some : 1 ≤ length left) (first : get_or left 0 s ≡ s)
    (are : walk_places (indexes_of s) bytes place walk ≡ places_at s bytes place) where
  abbrev later : List Selector
  later = take (length left - 1) (drop 1 left)

  pub places_first : (path : List Selector) → LeadsOn path left bytes place
      → flat_map (λ next. selected_from later bytes next)
      (walk_places (indexes_of s) bytes place walk) ≡ selected_from path bytes place
  places_first path leads =
      ap (flat_map (λ next. selected_from later bytes next)) are
      ∙ sym (first_step left s bytes place some first) ∙ sym leads.0

  pub steps_first : IsPart bytes place → select_steps left (tree_there bytes place)
      ≡ asked s (tree_there bytes place)
      + sum_by (λ next. select_steps later (tree_there bytes next))
      (walk_places (indexes_of s) bytes place walk)
  steps_first part =
      first_steps left s bytes place part some first
      ∙ ap (λ (ps : List Entry). asked s (tree_there bytes place)
      + sum_by (λ next. select_steps later (tree_there bytes next)) ps) (sym are)

-- The first place, and its tree.
first_tree_there : (bytes : List ℕ) (places : List Entry)
    → option_map (tree_there bytes) (first_entry places)
    ≡ first_tree (map (tree_there bytes) places)
first_tree_there bytes [] = refl
first_tree_there bytes (place ∷ places) = refl

pub first_found : (path : List Selector) (b bytes : List ℕ) (t : Tree) (whole : Entry)
    (found : Option Entry) → b ≡ bytes → IsPart bytes whole → tree_there bytes whole ≡ t
    → found ≡ first_entry (selected_from path b whole)
    → option_map (tree_there b) found ≡ first_tree (selected path t)
first_found path b bytes t whole found same part means is =
    ap (option_map (tree_there b)) is
    ∙ first_tree_there b (selected_from path b whole)
    ∙ ap first_tree (selected_trees path b whole
    (subst (λ (x : List ℕ). IsPart x whole) (sym same) part)
    ∙ ap (selected path) (subst (λ (x : List ℕ). tree_there x whole ≡ t) (sym same) means))
