-- Values in documents: the content of arrays and objects, and the entry at a key.
use Rattle.std.proofs.Common.{inl, inr, ◌+◌, ◌*◌, ◌≤◌}
use Rattle.std.proofs.Common.{◌≡◌, ◌≢◌, ℕ, Bool, true, false, ◌==◌, ◌&&◌, if◌then◌else◌, List, []}
use Rattle.std.proofs.Common.{◌∷◌, length, Option, Some, None, option_map, Result, Ok, Err, refl}
use Rattle.std.proofs.Common.{sym, ap, ◌∙◌, nat_eq, arith, map, slice_get}
use Rattle.std.proofs.lemmas.Bool.{eq-eqb}
use Rattle.std.proofs.Math.Bool.{and-false}
use Rattle.std.proofs.lemmas.Bool.Decides.{Decides-eqb, leb_tells}
use Rattle.std.specs.Result.{result_unwrap_or}
use Rattle.std.proofs.lemmas.Slice.Eq.{slice_eq-Decides}
use Rattle.std.specs.Cmp.Lexicographic.{pointwise}
use Rattle.std.specs.Map.{keys_of, values_of}
use Rattle.jsonb_value.specs.declared.error.Error.{Error}
use Rattle.jsonb_value.specs.Tree.{Tree, boolean, array, object, Pairs, no_pairs, pair, count}
use Rattle.jsonb_value.specs.Tree.{pair_count}
use Rattle.jsonb_codec.specs.WordBytes.{header_at, header_in}
use Rattle.jsonb_codec.specs.Doc.{Doc}
use Rattle.jsonb_codec.specs.Parts.{IsPayloadOf}
use Rattle.jsonb.specs.declared.node.Node.{Node}
use Rattle.jsonb.specs.declared.node.Node.TheVariants as nodes
use Rattle.jsonb.specs.declared.document.Contents.TheVariants as contents
use Rattle.jsonb.specs.Entry.{Code}
use Rattle.jsonb.specs.Item.{item_of}
use Rattle.jsonb.specs.ItemView.{ItemView, raw}
use Rattle.jsonb.specs.Building.{AreShort}
use Rattle.jsonb.specs.Code.{ItemMeans}
use Rattle.jsonb.specs.Contents.{AreStoredIn}
use Rattle.jsonb.specs.EntryTrees.{AreParts, AreKeyEntries, AreMemberEntries, rest_trees}
use Rattle.jsonb.specs.EntryTrees.{rest_pairs}
use Rattle.jsonb.specs.Lookup.{find, find_pair, IsItemFound}
use Rattle.jsonb.specs.Node.{IsContainer, array_of, object_of, node_tree, node_view, items_of}
use Rattle.jsonb.specs.Node.{first_key_of}
use Rattle.jsonb.specs.StoredEntries.{AreEntriesOf, AreMemberEntriesOf, IsFoundIn, entry_item}
use Rattle.jsonb.specs.StoredEntries.{IsEntryAt, IsItemFoundIn, find_entry}
use Rattle.jsonb.specs.Entries.{Run, entries_of, item_run, key_run, value_run}
use Rattle.jsonb.proofs.DocumentWalks.{array_payload, object_payload}
use Rattle.jsonb.proofs.EntryTreeLaws.{means_trees, means_pairs, array_of-items, object_of-members}
use Rattle.jsonb.proofs.EntryTreeLaws.{view_tree-is, first_read, first_key-Doc}
use Rattle.jsonb.proofs.PartLaws.{word_cut}
use Rattle.jsonb.proofs.PayloadEnds.{payloads_end-short}
use Rattle.jsonb.proofs.KindLaws.{container_cases, header_at-Doc, header_of_tree}
use Rattle.jsonb.proofs.StoredEntryLaws.{array_holds, object_holds, entry_item-tree}

abbrev Entries : Type 0
Entries = List (Result Code Error)

-- the kind and the number in a header that was read
abbrev header_kind : Result (ℕ × ℕ) Error → ℕ
header_kind (Ok header) = header.0
header_kind (Err e) = 0

abbrev header_number : Result (ℕ × ℕ) Error → ℕ
header_number (Ok header) = header.1
header_number (Err e) = 0

-- the header of a document can be read
pub header_read : (b : List ℕ) (t : Tree) (e : Error) → Doc b t → Err e ≡ header_at b 0 → ⊥
header_read b t e doc read = let header = header_at-Doc b t doc in cc

pub header_known : (b : List ℕ) (t : Tree) (r : Result (ℕ × ℕ) Error) (other : ℕ × ℕ) → Doc b t
    → r ≡ header_at b 0 → Ok (result_unwrap_or r other) ≡ header_at b 0
header_known b t (Ok header) other doc is = is
header_known b t (Err e) other doc is = absurd (header_read b t e doc is)

header_there : (b : List ℕ) (header : ℕ × ℕ) → Ok header ≡ header_at b 0 → 4 ≤ length b
header_there b header is = elim (leb_tells 4 (length b)) [
  | inl fits ↦ fits.1
  | inr few ↦ let cut = ap header_in (word_cut b 0 few.1) in absurd cc
]

-- an array, by the count in its header
pub record IsArrayOpened (b : List ℕ) (t : Tree) (read : Entries) : Type 0 where
  pub parts : AreParts read
  pub tree : array_of (rest_trees read) ≡ t
  pub stored : AreStoredIn b t (contents.Array read)

pub array_opened : (b : List ℕ) (t : Tree) (n : ℕ) → Doc b t → Ok (2147483648, n) ≡ header_at b 0
    → IsArrayOpened b t (entries_of (item_run b n))
array_opened b (array ts) n doc read =
    let same : n ≡ count ts = ap header_number (read ∙ header_at-Doc b (array ts) doc) in
    let holds = array_holds b ts (array_payload b ts doc) in
    let mean = means_trees holds.entries ts holds.stored.mean in
    rw (same, holds.read) record {
      parts = mean.0;
      tree = array_of-items (array ts) _ (ap Some mean.1);
      stored = (holds.entries, (holds.stored, refl));
    }
array_opened b t n doc read =
    let kind : 2147483648 ≡ header_kind (Ok (header_of_tree t)) =
    ap header_kind (read ∙ header_at-Doc b t doc) in
    absurd (omega (arith, kind))

-- an object, by the count in its header
pub record IsObjectOpened (b : List ℕ) (t : Tree) (read : Entries × Entries) : Type 0 where
  pub members : AreMemberEntries read
  pub tree : object_of (rest_pairs read) ≡ t
  pub stored : AreStoredIn b t (contents.Object read)

abbrev pub OpensObject : List ℕ → Tree → Run → Result Run Error → Type 0
OpensObject b t keys (Ok values) = IsObjectOpened b t (entries_of keys, entries_of values)
OpensObject b t keys (Err e) = ⊥

pub object_opened : (b : List ℕ) (t : Tree) (n : ℕ) → Doc b t → Ok (1073741824, n) ≡ header_at b 0
    → OpensObject b t (key_run b n) (value_run b n)
object_opened b (object ps) n doc read =
    let same : n ≡ pair_count ps = ap header_number (read ∙ header_at-Doc b (object ps) doc) in
    let holds = object_holds b ps (object_payload b ps doc) in
    let mean = means_pairs holds.members ps holds.stored.mean holds.texts in
    rw (same, holds.ends, holds.values, holds.keys) record {
      members = mean.0;
      tree = object_of-members (object ps) _ (ap Some mean.1);
      stored = (holds.members, (holds.stored, (refl, refl)));
    }
object_opened b t n doc read =
    let kind : 1073741824 ≡ header_kind (Ok (header_of_tree t)) =
    ap header_kind (read ∙ header_at-Doc b t doc) in
    absurd (omega (arith, kind))

-- In an object the words of all keys are there.
pub words_there : (b : List ℕ) (t : Tree) (n : ℕ) → Doc b t → Ok (1073741824, n) ≡ header_at b 0
    → 4 + 4 * n ≤ length b
words_there b t n doc read = elim (leb_tells (4 + 4 * n) (length b)) [
  | inl fits ↦ fits.1
  | inr cut ↦
      absurd (rw (payloads_end-short b n 4 (4 + 8 * n) (λ none. header_there b _ read) cut.1) at
      (object_opened b t n doc read))
]

-- the first key of an object
pub first_key_opened : (b : List ℕ) (t : Tree) (n : ℕ) → Doc b t
    → Ok (1073741824, n) ≡ header_at b 0
    → (AreParts (entries_of (key_run b n)) × AreKeyEntries (entries_of (key_run b n)))
    × (Some (first_read (entries_of (key_run b n))) ≡ first_key_of t)
first_key_opened b (object ps) n doc read =
    let same : n ≡ pair_count ps = ap header_number (read ∙ header_at-Doc b (object ps) doc) in
    rw same (first_key-Doc b ps doc)
first_key_opened b t n doc read =
    let kind : 1073741824 ≡ header_kind (Ok (header_of_tree t)) =
    ap header_kind (read ∙ header_at-Doc b t doc) in
    absurd (omega (arith, kind))

-- no other header is that of an array, or of an object
module _ (b : List ℕ) (t : Tree) (kind n : ℕ) (doc : Doc b t)
    (read : Ok (kind, n) ≡ header_at b 0) where
  same_kind : kind ≡ header_kind (Ok (header_of_tree t))
  same_kind = ap header_kind (read ∙ header_at-Doc b t doc)

  pub no_items : kind ≢ 2147483648 → None ≡ items_of t
  no_items other = by t same_kind where
    by : (t : Tree) → kind ≡ header_kind (Ok (header_of_tree t)) → None ≡ items_of t
    by (array ts) same = absurd (other same)
    by t same = refl

  pub no_first_key : kind ≢ 1073741824 → None ≡ first_key_of t
  no_first_key other = by t same_kind where
    by : (t : Tree) → kind ≡ header_kind (Ok (header_of_tree t)) → None ≡ first_key_of t
    by (object ps) same = absurd (other same)
    by t same = refl

  pub array_or_object : IsContainer t → kind ≢ 1073741824 → kind ≡ 2147483648
  array_or_object container other = by t same_kind container where
    by : (t : Tree) → kind ≡ header_kind (Ok (header_of_tree t)) → IsContainer t
        → kind ≡ 2147483648
    by (array ts) same container = same
    by (object ps) same container = absurd (other same)
    by (boolean true) same container = absurd (omega arith)
    by (boolean false) same container = absurd (omega arith)
    by t same container = absurd (omega arith)

-- any other header is that of a scalar
pub scalar_opened : (b : List ℕ) (t : Tree) (kind n : ℕ) → Doc b t → Ok (kind, n) ≡ header_at b 0
    → kind ≢ 2147483648 → kind ≢ 1073741824 → IsContainer t → ⊥
scalar_opened b t kind n doc read no_array no_object container = container_cases
    (λ t. Doc b t → ⊥) t container
    (λ ts doc. no_array (ap header_kind (read ∙ header_at-Doc b (array ts) doc)))
    (λ ps doc. no_object (ap header_kind (read ∙ header_at-Doc b (object ps) doc)))
    doc

-- The first of the members that are left, and those after it.
pub first_left : (ks xs later others : Entries) (key value : Code) → ks ≡ Ok key ∷ later
    → xs ≡ Ok value ∷ others → AreMemberEntries (ks, xs)
    → (key.type ≡ 268435456) × AreMemberEntries (later, others)
first_left ks xs later others key value e f h =
    let ((parts, keys), (values, same)) = rw (e, f) at h in
    (keys.0, ((parts.1, keys.1), (values.1, omega (arith, same))))

-- the first member, and those after it, by what was read
pub record IsFirstOf (members : List (List ℕ × Code)) (key value : Code)
    (later others : Entries) : Type 0 where
  pub left : List (List ℕ × Code)
  pub are : members ≡ (key.payload, value) ∷ left
  pub read : AreEntriesOf left (later, others)

pub first_member : (members : List (List ℕ × Code)) (ks xs later others : Entries)
    (key value : Code) → ks ≡ Ok key ∷ later → xs ≡ Ok value ∷ others
    → AreEntriesOf members (ks, xs) → IsFirstOf members key value later others
first_member [] ks xs later others key value e f (keys, values) = absurd cc
first_member (m ∷ ms) ks xs later others key value e f (keys, values) =
    let first : key ≡ record { type = 268435456; payload = m.0 } = cc in
    let second : value ≡ m.1 = cc in
    record {
      left = ms;
      are = rw (first, second);
      read = (cc, cc);
    }

pub none_left : (members : List (List ℕ × Code)) (xs : Entries) → AreEntriesOf members ([], xs)
    → members ≡ []
none_left [] xs read = refl
none_left (m ∷ ms) xs (keys, values) = absurd cc

-- A key equals the name exactly if the test of its bytes passes, and then the lengths agree.
test_passes : (name k : List ℕ) → true ≡ pointwise nat_eq name k
    → true ≡ (length k == length name) && pointwise nat_eq name k
test_passes name k e =
    let same : name ≡ k = (slice_eq-Decides Decides-eqb name k true e).0 refl in
    rw (← e, eq-eqb (length k) (length name) (ap length (sym same)))

test_fails : (name k : List ℕ) → false ≡ pointwise nat_eq name k
    → false ≡ (length k == length name) && pointwise nat_eq name k
test_fails name k e = rw (← e, and-false)

-- A member is passed over, or it has the name as its key.
module _ (name : List ℕ) (key value : Code) (members left : List (List ℕ × Code))
    (are : members ≡ (key.payload, value) ∷ left) where
  pub passed : false ≡ pointwise nat_eq name key.payload
      → find_entry (pointwise nat_eq name) (length name) members
      ≡ find_entry (pointwise nat_eq name) (length name) left
  passed e = cc (are, test_fails name key.payload e)

  pub met : true ≡ pointwise nat_eq name key.payload
      → find_entry (pointwise nat_eq name) (length name) members ≡ Some value
  met e = cc (are, test_passes name key.payload e)

-- A part of no scalar's type is an array or object.
pub container_part : (type : ℕ) (p : List ℕ) (t : Tree) → IsPayloadOf type p t → type ≢ 0
    → type ≢ 1073741824 → type ≢ 805306368 → type ≢ 536870912 → type ≢ 268435456
    → type ≢ 1610612736 → type ≡ 1342177280
container_part type p (array ts) (is, h) n t f x s e = sym is
container_part type p (object ps) (is, h) n t f x s e = sym is
container_part type p (boolean true) (is, h) n t f x s e = absurd (omega arith)
container_part type p (boolean false) (is, h) n t f x s e = absurd (omega arith)
container_part type p u (is, h) n t f x s e = absurd (omega arith)

pub container_item : (type : ℕ) (p b : List ℕ) → type ≡ 1342177280 → b ≡ p
    → item_of type p ≡ Ok (raw b)
unfolding item_of
container_item type p b is same = rw (is, same) refl

-- The tree of a value is the one that its item means.
node_view-tree : (node : Node) (t : Tree) → ItemMeans (node_view node) t → node_tree node ≡ t
node_view-tree nodes.Null t h = sym h
node_view-tree (nodes.Boolean b) t h = sym h
node_view-tree (nodes.Number item) t h = sym h
node_view-tree (nodes.String s) t h = sym h
node_view-tree (nodes.Extension item) t h = sym h
node_view-tree (nodes.Container d) t h = view_tree-is (node_view (nodes.Container d)) t h

-- What is found in a document is the item of the key's value, and has its tree.
module _ (accepts : List ℕ → Bool) (size : ℕ) where
  same_test : (key other : List ℕ) → key ≡ other
      → ((length key == size) && accepts key) ≡ ((length other == size) && accepts other)
  same_test key other = ap (λ key. (length key == size) && accepts key)

  stored_item : (ms : List (List ℕ × Code)) (ps : Pairs) (o : Option ItemView)
      → AreMemberEntriesOf (keys_of ms) (values_of ms) ps → AreShort (values_of ms)
      → option_map entry_item (find_entry accepts size ms) ≡ option_map Ok o
      → IsItemFound (find_pair accepts size ps) o
  stored_item [] ps None h short is = rw h tt
  stored_item [] ps (Some x) h short is = absurd cc
  stored_item (m ∷ ms) no_pairs o h short is = absurd h
  stored_item (m ∷ ms) (pair k t ps) o h short is =
      at_test _ _ (same_test m.0 k h.0) o (stored_item ms ps o h.1.1 short.1) is
    where
      at_test : (a b : Bool) → a ≡ b → (o : Option ItemView)
          → (option_map entry_item (find_entry accepts size ms) ≡ option_map Ok o
          → IsItemFound (find_pair accepts size ps) o)
          → option_map entry_item (if a then Some m.1 else find_entry accepts size ms)
          ≡ option_map Ok o → IsItemFound (if b then Some t else find_pair accepts size ps) o
      at_test true true same (Some x) later is =
          let (y, (item, of)) = entry_item-tree m.1 t h.1.0 short.0 in
          let this : x ≡ y = cc in
          rw this of
      at_test true true same None later is = absurd cc
      at_test false false same o later is = later is
      at_test true false same o later is = absurd cc
      at_test false true same o later is = absurd cc

  pub found_item_of : (b : List ℕ) (t : Tree) (o : Option ItemView) → IsFoundIn accepts size b t o
      → IsItemFound (find accepts size t) o
  found_item_of b (object ps) o (ms, (h, is)) = stored_item ms ps o h.mean h.short is
  found_item_of b t o is = rw is tt

  node_found : (value : Option Tree) (o : Option Node) → IsItemFound value (option_map node_view o)
      → option_map node_tree o ≡ value
  node_found (Some t) (Some node) is = ap Some (node_view-tree node t is.means)
  node_found None None is = refl
  node_found (Some t) None is = absurd is
  node_found None (Some node) is = absurd is

  pub found_tree_of : (b : List ℕ) (t : Tree) (o : Option Node)
      → IsFoundIn accepts size b t (option_map node_view o)
      → option_map node_tree o ≡ find accepts size t
  found_tree_of b t o is = node_found _ o (found_item_of b t _ is)

  -- The entry at the key, by the content of the document.
  pub found_among : (b : List ℕ) (t : Tree) (members : Entries × Entries) (found : Option Code)
      (o : Option ItemView) → AreStoredIn b t (contents.Object members)
      → ((ms : List (List ℕ × Code)) → AreEntriesOf ms members
      → found ≡ find_entry accepts size ms)
      → option_map entry_item found ≡ option_map Ok o → IsFoundIn accepts size b t o
  found_among b (object ps) members found o (ms, (stored, are)) by is =
      (ms, (stored, ap (option_map entry_item) (sym (by ms are)) ∙ is))
  found_among b t members found o stored by is = absurd stored

  -- What is found is the item of the entry at the key.
  pub entry_found : (b : List ℕ) (t : Tree) (found : Option Code) (o : Option ItemView)
      → IsEntryAt accepts size b t found → option_map entry_item found ≡ option_map Ok o
      → IsFoundIn accepts size b t o
  entry_found b (object ps) found o (ms, (stored, at)) is =
      (ms, (stored, ap (option_map entry_item) at ∙ is))
  entry_found b t found o at is = none_shown found o at is where
    none_shown : (found : Option Code) (o : Option ItemView) → found ≡ None
        → option_map entry_item found ≡ option_map Ok o → o ≡ None
    none_shown None None none is = refl
    none_shown None (Some x) none is = absurd cc
    none_shown (Some c) o none is = absurd cc

  pub none_in_array : (b : List ℕ) (t : Tree) (items : Entries)
      → AreStoredIn b t (contents.Array items) → IsFoundIn accepts size b t None
  none_in_array b (object ps) items stored = absurd stored
  none_in_array b t items stored = refl

  pub none_in_scalar : (b : List ℕ) (t : Tree) → (IsContainer t → ⊥)
      → IsFoundIn accepts size b t None
  none_in_scalar b (object ps) scalar = absurd (scalar refl)
  none_in_scalar b t scalar = refl

-- The entry at an index of an array, by the content of the document.
pub no_item : (index : ℕ) (b : List ℕ) (t : Tree) → None ≡ items_of t
    → IsItemFoundIn index b t None
no_item index b (array ts) none = absurd cc
no_item index b t none = refl

pub item_among : (index : ℕ) (b : List ℕ) (t : Tree) (items : Entries) (o : Option ItemView)
    → AreStoredIn b t (contents.Array items)
    → ((entries : List Code) → items ≡ map Ok entries
    → option_map entry_item (slice_get entries index) ≡ option_map Ok o)
    → IsItemFoundIn index b t o
item_among index b (array ts) items o (entries, (stored, are)) by =
    (entries, (stored, by entries are))
item_among index b (object ps) items o stored by = absurd stored
item_among index b t items o stored by = absurd stored
