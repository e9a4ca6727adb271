-- The entries of a document can be read, and mean the trees of its children.
use Rattle.std.proofs.Common.{◌≡◌, ℕ, suc, List, [], ◌∷◌, length, map, Option, Some}
use Rattle.std.proofs.Common.{None, Result, Ok, Err, refl, sym, ap, ap₂, ◌∙◌, arith, option_map}
use Rattle.std.proofs.Common.{slice_get}
use Rattle.std.proofs.lemmas.List.{length-map}
use Rattle.std.proofs.lemmas.Option.{slice_get-map}
use Rattle.std.specs.Map.{keys_of, values_of}
use Rattle.jsonb_value.specs.declared.error.Error.{Error}
use Rattle.jsonb_value.specs.Tree.{Tree, text, array, object, Trees, no_trees, tree, Pairs}
use Rattle.jsonb_value.specs.Tree.{no_pairs, pair, pair_count}
use Rattle.jsonb_codec.specs.Doc.{Doc}
use Rattle.jsonb_codec.specs.declared.parts.Part.{Part}
use Rattle.jsonb_codec.specs.Contents as parts
use Rattle.jsonb_codec.specs.Parts.{IsPayloadOf}
use Rattle.jsonb_codec.proofs.Decision.{known_part}
use Rattle.jsonb.specs.declared.node.Node.{Node}
use Rattle.jsonb.specs.ItemView.{ItemView}
use Rattle.jsonb.specs.ItemView as items
use Rattle.jsonb.specs.Code.{ItemMeans}
use Rattle.jsonb.specs.Entry.{Code, entry_read}
use Rattle.jsonb.specs.Item.{item_of}
use Rattle.jsonb.specs.Building.{AreTexts, key_codes}
use Rattle.jsonb.specs.StoredEntries.{AreCodesOf, AreMemberEntriesOf, entry_item}
use Rattle.jsonb.specs.Entries.{Run, entries_of, key_run, until_error}
use Rattle.jsonb.specs.EntryTrees.{view_tree, item_tree, entry_tree, entry_of_part, AreParts}
use Rattle.jsonb.specs.EntryTrees.{AreKeyEntries, AreMemberEntries, key_read, rest_trees}
use Rattle.jsonb.specs.EntryTrees.{rest_pairs}
use Rattle.jsonb_value.specs.Value.{trees_of}
use Rattle.jsonb.specs.Node.{node_tree, array_of, pairs_of, object_of, tree_list, pair_list}
use Rattle.jsonb.specs.Node.{items_of, members_of, first_key_of}
use Rattle.jsonb.proofs.ItemLaws.{found_item}
use Rattle.jsonb.proofs.DocumentLaws.{tree_in-is}
use Rattle.jsonb.proofs.StoredEntryLaws.{object_holds}
use Rattle.jsonb.proofs.DocumentWalks.{object_payload}

-- every entry of a run can be read
length-until_error : (xs : List (Result Code Error)) → AreParts (until_error xs)
    → length xs ≡ length (until_error xs)
length-until_error [] h = refl
length-until_error (Ok x ∷ xs) h = ap suc (length-until_error xs h.1)
length-until_error (Err e ∷ xs) h = absurd h

pub length-AreParts : (run : Run) → AreParts (entries_of run)
    → length run.entries ≡ length (entries_of run)
length-AreParts run h =
    sym (length-map run.entries (entry_read run.bytes))
    ∙ length-until_error (map (entry_read run.bytes) run.entries) h

-- the tree of an entry is the one that it means
pub view_tree-is : (x : ItemView) (t : Tree) → ItemMeans x t → view_tree x ≡ t
view_tree-is (items.raw b) t h = tree_in-is b t h
view_tree-is (items.owned b) t h = tree_in-is b t h
view_tree-is x t h = sym h

pub entry_tree-is : (type : ℕ) (payload : List ℕ) (t : Tree) → IsPayloadOf type payload t
    → entry_tree record { type = type; payload = payload } ≡ t
unfolding entry_tree
entry_tree-is type payload t h =
    let f = found_item t payload h.1 in
    ap (λ k. item_tree (item_of k payload)) (sym h.0) ∙ ap item_tree f.1.0
    ∙ view_tree-is f.0 t f.1.1.0

-- The entries of an array mean the trees of its items.
abbrev Entries : Type 0
Entries = List (Result Code Error)

pub means_trees : (cs : List Code) (ts : Trees) → AreCodesOf cs ts
    → AreParts (map Ok cs) × (rest_trees (map Ok cs) ≡ tree_list ts)
means_trees [] ts h = (tt, rw h)
means_trees (c ∷ cs) no_trees h = absurd h
means_trees (c ∷ cs) (tree t ts) h =
    let more = means_trees cs ts h.1 in
    (((t, h.0), more.0), cc (entry_tree-is c.type c.payload t h.0, more.1))

-- The entries of keys and values mean the pairs of an object.
pub means_pairs : (ms : List (List ℕ × Code)) (ps : Pairs)
    → AreMemberEntriesOf (keys_of ms) (values_of ms) ps
    → AreTexts (keys_of ms)
    → AreMemberEntries (map Ok (key_codes (keys_of ms)), map Ok (values_of ms))
    × (rest_pairs (map Ok (key_codes (keys_of ms)), map Ok (values_of ms)) ≡ pair_list ps)
means_pairs [] ps h texts = (((tt, tt), (tt, refl)), rw h)
means_pairs (m ∷ ms) no_pairs h texts = absurd h
means_pairs (m ∷ ms) (pair k t ps) h texts =
    let (((keys, strings), (values, same)), are) = means_pairs ms ps h.1.1 texts.1 in
    let value = entry_tree-is m.1.type m.1.payload t h.1.0 in (
      (
        (((text m.0, (refl, (refl, texts.0))), keys), (refl, strings)),
        (((t, h.1.0), values), ap suc same),
      ),
      ap₂ (λ x xs. x ∷ xs) (ap₂ (λ k u. (k, u)) h.0 value) are,
    )

-- The first of a document's keys is read alone.
abbrev pub first_read : Entries → Option (List ℕ)
first_read [] = None
first_read (x ∷ xs) = Some (key_read x)

first_is : (ms : List (List ℕ × Code)) (ps : Pairs)
    → AreMemberEntriesOf (keys_of ms) (values_of ms) ps
    → Some (first_read (map Ok (key_codes (keys_of ms)))) ≡ first_key_of (object ps)
first_is [] ps h = ap (λ us. first_key_of (object us)) (sym h)
first_is (m ∷ ms) no_pairs h = absurd h
first_is (m ∷ ms) (pair k t ps) h = ap (λ x. Some (Some x)) h.0

pub first_key-Doc : (b : List ℕ) (ps : Pairs) → Doc b (object ps)
    → (AreParts (entries_of (key_run b (pair_count ps)))
    × AreKeyEntries (entries_of (key_run b (pair_count ps))))
    × (Some (first_read (entries_of (key_run b (pair_count ps)))) ≡ first_key_of (object ps))
first_key-Doc b ps doc =
    let holds = object_holds b ps (object_payload b ps doc) in
    let mean = means_pairs holds.members ps holds.stored.mean holds.texts in
    rw holds.keys (mean.0.0, first_is holds.members ps holds.stored.mean)

-- a value decoded from a part has the tree of the part's entry
pub entry_tree-node : (part : Part) (node : Node)
    → ((t : Tree) → parts.PartMeans part t → node_tree node ≡ t)
    → entry_tree (entry_of_part part) ≡ node_tree node
entry_tree-node part node means =
    let (t, is) = known_part part.type_code part.payload.now part.fact in
    entry_tree-is part.type_code part.payload.now t is ∙ sym (means t is)

-- there are as many pairs as keys
pub length-rest_pairs : (ks xs : Entries) → length ks ≡ length xs
    → length ks ≡ length (rest_pairs (ks, xs))
length-rest_pairs [] xs same = refl
length-rest_pairs (k ∷ ks) [] same = absurd (omega arith)
length-rest_pairs (k ∷ ks) (x ∷ xs) same = ap suc (length-rest_pairs ks xs (omega arith))

-- An array is rebuilt from its items, and an object from its pairs.
trees_of-tree_list : (ts : Trees) → trees_of (tree_list ts) ≡ ts
trees_of-tree_list no_trees = refl
trees_of-tree_list (tree t ts) = cc (trees_of-tree_list ts)

pairs_of-pair_list : (ps : Pairs) → pairs_of (pair_list ps) ≡ ps
pairs_of-pair_list no_pairs = refl
pairs_of-pair_list (pair k t ps) = cc (pairs_of-pair_list ps)

pub array_of-items : (t : Tree) (xs : List Tree) → Some xs ≡ items_of t → array_of xs ≡ t
array_of-items (array ts) xs e =
    let same : xs ≡ tree_list ts = cc in cc (same, trees_of-tree_list ts)
array_of-items t xs e = cc

pub object_of-members : (t : Tree) (ms : List (List ℕ × Tree)) → Some ms ≡ members_of t
    → object_of ms ≡ t
object_of-members (object ps) ms e =
    let same : ms ≡ pair_list ps = cc in cc (same, pairs_of-pair_list ps)
object_of-members t ms e = cc

-- The items of an array and the pairs of an object, by their content.
tree_list-trees_of : (xs : List Tree) → tree_list (trees_of xs) ≡ xs
tree_list-trees_of [] = refl
tree_list-trees_of (x ∷ xs) = cc (tree_list-trees_of xs)

pub items_of-array : (t : Tree) (xs : List Tree) → array_of xs ≡ t → Some xs ≡ items_of t
items_of-array t xs is = ap Some (sym (tree_list-trees_of xs)) ∙ ap items_of is

pair_list-pairs_of : (ms : List (List ℕ × Tree)) → pair_list (pairs_of ms) ≡ ms
pair_list-pairs_of [] = refl
pair_list-pairs_of (m ∷ ms) = cc (pair_list-pairs_of ms)

pub members_of-object : (t : Tree) (ms : List (List ℕ × Tree)) → object_of ms ≡ t
    → Some ms ≡ members_of t
members_of-object t ms is = ap Some (sym (pair_list-pairs_of ms)) ∙ ap members_of is

-- The item of the entry at an index, by what was read.
pub item_entry : (entries : List Code) (read : Entries) (i : ℕ) (o : Option Code)
    (v : Option ItemView) → read ≡ map Ok entries → slice_get read i ≡ option_map Ok o
    → option_map entry_item o ≡ option_map Ok v
    → option_map entry_item (slice_get entries i) ≡ option_map Ok v
item_entry entries read i o v are at is =
    let same : option_map Ok (slice_get entries i) ≡ option_map Ok o =
    sym (slice_get-map Ok entries i) ∙ ap (λ xs. slice_get xs i) (sym are) ∙ at in
    ap (option_map entry_item) (one_entry (slice_get entries i) o same) ∙ is
  where
    one_entry : (a b : Option Code)
        → option_map {U = Result Code Error} Ok a ≡ option_map Ok b → a ≡ b
    one_entry (Some x) (Some y) e = cc
    one_entry (Some x) None e = absurd cc
    one_entry None (Some y) e = absurd cc
    one_entry None None e = refl
