-- What a document is written as when it is edited.
use Rattle.std.proofs.Common.{◌≡◌, ◌≤◌, ◌<◌, ◌+◌, ℕ, zero, suc, List, [], length, refl}
use Rattle.std.proofs.Common.{◌∙◌, ◌∷◌, ◌^◌, arith, true, false, Bool, Bor, get_or, Some}
use Rattle.std.proofs.Common.{None, drop, take, ◌-◌, nat_lt, min, ◌==◌, ◌++◌, ap, sym, Option}
use Rattle.std.specs.Prelude.{option_to_list, slice_get, if◌then◌else◌}
use Rattle.std.proofs.lemmas.Bool.{ltb-true, ne_eqb}
use Rattle.std.proofs.Math.Seq.{take-length}
use Rattle.std.proofs.Math.Nat.{min-le_left, min-le_right}
use Rattle.std.specs.Ordering.{nat_cmp, is_eq, is_lt}
use Rattle.std.specs.Cmp.Lexicographic.{slice_cmp}
use Rattle.std.specs.declared.cmp.Ordering.{Ordering}
use Rattle.std.specs.declared.cmp.Ordering.TheVariants.{Less, Equal, Greater}
use Rattle.jsonb_value.specs.Tree as trees
use Rattle.jsonb_value.specs.Tree.{Tree, array, object, Trees, no_trees, tree, Pairs, no_pairs}
use Rattle.jsonb_value.specs.Tree.{pair, pair_count, Ascend, Ascends}
use Rattle.jsonb_value.specs.Value.{trees_of}
use Rattle.jsonb_codec.specs.declared.parts.Object.{Object}
use Rattle.jsonb_codec.specs.declared.parts.Part.{Part}
use Rattle.jsonb_codec.specs.Doc.{type_of}
use Rattle.jsonb_codec.specs.Contents.{PartMeans, AreChildren, AreMembers}
use Rattle.jsonb_codec.specs.Parts.{IsObject}
use Rattle.jsonb_codec.proofs.Decision.{known_object}
use Rattle.jsonb.specs.EntryTrees.{part_tree}
use Rattle.jsonb.specs.Node.{tree_list, value_of_key}
use Rattle.jsonb.proofs.EntryTreeLaws.{entry_tree-is}
use Rattle.jsonb_functions.specs.declared.path.Step.{Step}
use Rattle.jsonb_functions.specs.declared.path.Step.TheVariants.{Key, Index, FromEnd, End}
use Rattle.jsonb_functions.specs.Path.{is_next, item_place}
use Rattle.jsonb_functions.specs.declared.edit.EditedItems.{EditedItems}
use Rattle.jsonb_functions.specs.declared.edit.EditedMembers.{EditedMembers}
use Rattle.jsonb_functions.specs.Joined.{with_key}
use Rattle.jsonb_functions.specs.Edited.{Operation, put, create, insert, remove, edited}
use Rattle.jsonb_functions.specs.Edited.{edited_whole, edited_items, edited_pairs, item_edited}
use Rattle.jsonb_functions.specs.Edited.{child_edited, new_child, pairs_with, wrapped}
use Rattle.jsonb_functions.specs.EditSource.{Here, nothing, replaced, before, removed, here_at}
use Rattle.jsonb_functions.specs.EditSource.{here_of, EditedItemsMean, EditedMembersMean}
use Rattle.jsonb_functions.specs.EditSource.{pairs_have_key, comes, keys_before}
use Rattle.jsonb_functions.specs.EditSource.{done_after, first_done, first_pair_done}
use Rattle.jsonb_functions.specs.EditSource.{pairs_done_after, count_done, taken}
use Rattle.jsonb_functions.proofs.FoundLaws.{child_array}
use Rattle.jsonb_functions.proofs.JoinLaws.{ascends_after, with_lesser}
use Rattle.jsonb_functions.proofs.KeyOrder.{absent_first, ascend_later, flipped, key_equal, met}
use Rattle.jsonb_functions.proofs.KeyOrder.{passed}
use Rattle.jsonb_functions.proofs.PatchLaws.{without_lesser, without_met}

count_more : (here : Here) (n c : ℕ) → n + taken here ≤ c
    → count_done here (suc c) ≡ suc (count_done here c)
count_more nothing n c w = refl
count_more (before v) n c w = refl
count_more (replaced f) n c w = refl
count_more removed n (suc c) w = refl
count_more removed n zero w = absurd (omega (arith, w))

-- How many items there are then.
pub count_items : (here : Here) (n : ℕ) (ts : Trees) → n + taken here ≤ trees.count ts
    → trees.count (done_after here n ts) ≡ count_done here (trees.count ts)
count_items nothing zero ts w = refl
count_items (before v) zero ts w = refl
count_items (replaced f) zero (tree t ts) w = refl
count_items removed zero (tree t ts) w = refl
count_items (replaced f) zero no_trees w = absurd (omega (arith, w))
count_items removed zero no_trees w = absurd (omega (arith, w))
count_items here (suc n) (tree t ts) w =
    let less : n + taken here ≤ trees.count ts = omega (arith, w) in
    rw (count_items here n ts less, count_more here n (trees.count ts) less) refl
count_items here (suc n) no_trees w = absurd (omega (arith, w))

pub count_pairs : (key : List ℕ) (here : Here) (n : ℕ) (ps : Pairs)
    → n + taken here ≤ pair_count ps
    → pair_count (pairs_done_after key here n ps) ≡ count_done here (pair_count ps)
count_pairs key nothing zero ps w = refl
count_pairs key (before v) zero ps w = refl
count_pairs key (replaced f) zero (pair k t ps) w = refl
count_pairs key removed zero (pair k t ps) w = refl
count_pairs key (replaced f) zero no_pairs w = absurd (omega (arith, w))
count_pairs key removed zero no_pairs w = absurd (omega (arith, w))
count_pairs key here (suc n) (pair k t ps) w =
    let less : n + taken here ≤ pair_count ps = omega (arith, w) in
    rw (count_pairs key here n ps less, count_more here n (pair_count ps) less) refl
count_pairs key here (suc n) no_pairs w = absurd (omega (arith, w))

-- ---- before the place of a change, and there

pub none_after : (here : Here) (m : ℕ) (us : Trees) → 0 < m → us ≡ no_trees
    → done_after here m us ≡ no_trees
none_after here zero us h e = absurd (omega (arith, h))
none_after here (suc m) us h e = rw e refl

pub one_after : (here : Here) (m : ℕ) (us others : Trees) (t : Tree) → 0 < m
    → us ≡ tree t others → done_after here m us ≡ tree t (done_after here (m - 1) others)
one_after here zero us others t h e = absurd (omega (arith, h))
one_after here (suc m) us others t h e =
    let less : suc m - 1 ≡ m = omega arith in rw (e, less) refl

pub one_within : (here : Here) (m : ℕ) (us others : Trees) (t : Tree) → 0 < m
    → us ≡ tree t others → m + taken here ≤ trees.count us
    → m - 1 + taken here ≤ trees.count others
one_within here m us others t h e w =
    let more : m + taken here ≤ suc (trees.count others) = rw e at w in omega (arith, h, more)

pub no_pair_after : (key : List ℕ) (here : Here) (m : ℕ) (qs : Pairs) → 0 < m → qs ≡ no_pairs
    → pairs_done_after key here m qs ≡ no_pairs
no_pair_after key here zero qs h e = absurd (omega (arith, h))
no_pair_after key here (suc m) qs h e = rw e refl

pub pair_after : (key : List ℕ) (here : Here) (m : ℕ) (qs others : Pairs) (k : List ℕ) (t : Tree)
    → 0 < m → qs ≡ pair k t others
    → pairs_done_after key here m qs ≡ pair k t (pairs_done_after key here (m - 1) others)
pair_after key here zero qs others k t h e = absurd (omega (arith, h))
pair_after key here (suc m) qs others k t h e =
    let less : suc m - 1 ≡ m = omega arith in rw (e, less) refl

pub pair_within : (here : Here) (m : ℕ) (qs others : Pairs) (k : List ℕ) (t : Tree) → 0 < m
    → qs ≡ pair k t others → m + taken here ≤ pair_count qs
    → m - 1 + taken here ≤ pair_count others
pair_within here m qs others k t h e w =
    let more : m + taken here ≤ suc (pair_count others) = rw e at w in omega (arith, h, more)

-- ---- the level of a part

pub few_pairs : (x : Object) → x.count < 2 ^ 63
few_pairs x = let (ps, h) = known_object _ _ x.fact in omega (arith, h.1.1.few)

pub edited_none : (path : List Step) (operation : Operation) (t : Tree) → length path < 1
    → edited path operation t ≡ t
edited_none [] operation t h = refl
edited_none (s ∷ path) operation t h = absurd (omega (arith, h))

pub edited_scalar : (path : List Step) (operation : Operation) (t : Tree) →
    (type_of t ≡ 1342177280 → ⊥)
    → edited path operation t ≡ t
edited_scalar [] operation t h = refl
edited_scalar (s ∷ path) operation (array ts) h = absurd (h refl)
edited_scalar (s ∷ path) operation (object ps) h = absurd (h refl)
edited_scalar (s ∷ path) operation t h = refl

-- A path of some steps begins with the first.
abbrev pub later_steps : List Step → List Step
later_steps path = take (length path - 1) (drop 1 path)

pub path_split : (path : List Step) (d s : Step) → 1 ≤ length path → get_or path 0 d ≡ s
    → path ≡ s ∷ later_steps path
path_split [] d s h e = absurd (omega (arith, h))
path_split (r ∷ path) d s h e =
    let first : r ≡ s = e in
    let fewer : length (r ∷ path) - 1 ≡ length path = omega arith in
    let all : later_steps (r ∷ path) ≡ path = rw fewer (take-length path) in
    rw (all, ← first) refl

one_taken : (here : Here) → taken here ≤ 1
one_taken nothing = omega arith
one_taken (before v) = omega arith
one_taken (replaced f) = omega arith
one_taken removed = omega arith

none_taken : (child : Option Tree) → taken (comes child) ≡ 0
none_taken None = refl
none_taken (Some v) = refl

within_at : (items there next : Bool) (path : List Step) (operation : Operation)
    (f : Tree → Tree) (m n : ℕ) → (m ≤ n) × (there ≡ true → m < n)
    → m + taken (here_at items there next path operation f) ≤ n
within_at items true next path operation f m n h =
    omega (arith, h.1 refl, one_taken (here_at items true next path operation f))
within_at items false next path operation f m n h =
    omega (arith, h.0, none_taken (new_child next path operation))

-- A step leads to one of the items, or before one, or after them.
pub place_within : (s : Step) (n : ℕ) (place : ℕ × Bool) → Some place ≡ item_place s n
    → (place.0 ≤ n) × (place.1 ≡ true → place.0 < n)
place_within (Key k) n place e = absurd (cc)
place_within (Index i) n place e =
    let is : place ≡ (min i n, nat_lt i n) = cc in
    rw is (
      min-le_right i n,
      λ h. let less : i < n = ltb-true i n h in omega (arith, less, min-le_left i n),
    )
place_within (FromEnd i) n place e =
    let is : place ≡ (n - suc i, nat_lt i n) = cc in
    rw is (omega arith, λ h. let less : i < n = ltb-true i n h in omega (arith, less))
place_within End n place e =
    let is : place ≡ (n, false) = cc in rw is (omega arith, λ h. absurd (cc))

more_keys : (o : Ordering) (there : Bool) (m n : ℕ) → (m ≤ n) × (there ≡ true → m < n)
    → ((if is_lt o then suc m else 0) ≤ suc n)
    × ((if is_lt o then there else is_eq o) ≡ true → (if is_lt o then suc m else 0) < suc n)
more_keys Less there m n h = (omega (arith, h.0), λ e. omega (arith, h.1 e))
more_keys Equal there m n h = (omega arith, λ e. omega arith)
more_keys Greater there m n h = (omega arith, λ e. omega arith)

-- The place of a key is that of a pair, or before one, or after them.
pub key_within : (key : List ℕ) (ps : Pairs) → (keys_before key ps ≤ pair_count ps)
    × (pairs_have_key key ps ≡ true → keys_before key ps < pair_count ps)
key_within key no_pairs = (omega arith, λ e. absurd (cc))
key_within key (pair k t ps) =
    more_keys (slice_cmp nat_cmp k key) (pairs_have_key key ps) (keys_before key ps)
    (pair_count ps) (key_within key ps)

-- ---- what the walk does is the edit

listed : (ts : Trees) → trees_of (tree_list ts) ≡ ts
listed no_trees = refl
listed (tree t ts) = ap (λ us. tree t us) (listed ts)

first_item : (next : Bool) (path : List Step) (operation : Operation) (f : Tree → Tree) (t : Tree)
    (ts : List Tree) → first_done (here_at true true next path operation f) (tree t (trees_of ts))
    ≡ trees_of (item_edited next path operation f (Some t) ++ ts)
first_item next [] (put v) f t ts = refl
first_item next [] (create v) f t ts = refl
first_item next [] (insert v) f t ts = refl
first_item next [] remove f t ts = refl
first_item next (s ∷ path) operation f t ts = refl

module _ (next : Bool) (path : List Step) (operation : Operation) (f : Tree → Tree) where
  item_at : (m : ℕ) (ts : List Tree) → m < trees.count (trees_of ts)
      → done_after (here_at true true next path operation f) m (trees_of ts)
      ≡ trees_of (take m ts ++ (item_edited next path operation f
      (slice_get (tree_list (trees_of ts)) m) ++ drop (suc m) ts))
  item_at m [] h = absurd (omega (arith, h))
  item_at zero (t ∷ ts) h = first_item next path operation f t ts
  item_at (suc m) (t ∷ ts) h = ap (λ us. tree t us) (item_at m ts (omega (arith, h)))

new_item : (child : Option Tree) (m : ℕ) (ts : List Tree) → m ≤ trees.count (trees_of ts)
    → done_after (comes child) m (trees_of ts)
    ≡ trees_of (take m ts ++ (option_to_list child ++ drop m ts))
new_item None zero ts h = refl
new_item (Some v) zero ts h = refl
new_item child (suc m) [] h = absurd (omega (arith, h))
new_item child (suc m) (t ∷ ts) h = ap (λ us. tree t us) (new_item child m ts (omega (arith, h)))

-- What is done at the place of a step, after the items before it, edits the items.
pub items_walked : (s : Step) (path : List Step) (operation : Operation) (f : Tree → Tree)
    (ts : Trees) (place : ℕ × Bool) → Some place ≡ item_place s (trees.count ts)
    → done_after (here_at true place.1 (is_next s (trees.count ts)) path operation f) place.0 ts
    ≡ edited_items s path operation f ts
items_walked s path operation f ts (m, true) e =
    let next = is_next s (trees.count ts) in
    let some = (place_within s (trees.count ts) (m, true) e).1 refl in
    rw (child_array s ts, ← e) (rw (listed ts) at (item_at next path operation f m (tree_list ts)
    (rw (listed ts) some)))
items_walked s path operation f ts (m, false) e =
    let child = new_child (is_next s (trees.count ts)) path operation in
    let all = (place_within s (trees.count ts) (m, false) e).0 in
    rw (child_array s ts, ← e)
    (rw (listed ts) at (new_item child m (tree_list ts) (rw (listed ts) all)))

pub items_left : (s : Step) (path : List Step) (operation : Operation) (f : Tree → Tree)
    (ts : Trees) → None ≡ item_place s (trees.count ts)
    → ts ≡ edited_items s path operation f ts
items_left s path operation f ts e = rw (← e) (sym (listed ts))

new_pair : (key : List ℕ) (child : Option Tree) (ps : Pairs) → Ascends (Some key) ps
    → first_pair_done key (comes child) ps ≡ pairs_with key child ps
new_pair key None ps h = sym (without_lesser key ps h)
new_pair key (Some v) ps h = sym (with_lesser key v ps h)

pair_passed : (key k : List ℕ) (t : Tree) (child : Option Tree) (ps : Pairs)
    → slice_cmp nat_cmp k key ≡ Less
    → pairs_with key child (pair k t ps) ≡ pair k t (pairs_with key child ps)
pair_passed key k t None ps e = rw e refl
pair_passed key k t (Some v) ps e = rw e refl

pair_put : (key k : List ℕ) (t v : Tree) (ps : Pairs) → slice_cmp nat_cmp k key ≡ Equal
    → pair k v ps ≡ with_key key v (pair k t ps)
pair_put key k t v ps e = rw e (ap (λ j. pair j v ps) (key_equal k key e))

pair_met : (key k : List ℕ) (t : Tree) (ps : Pairs) (path : List Step) (operation : Operation)
    (f : Tree → Tree) → slice_cmp nat_cmp k key ≡ Equal → Ascends (Some k) ps
    → first_pair_done key (here_at false true true path operation f) (pair k t ps)
    ≡ pairs_with key (child_edited true path operation f (Some t)) (pair k t ps)
pair_met key k t ps [] (put v) f e h = pair_put key k t v ps e
pair_met key k t ps [] (create v) f e h = pair_put key k t v ps e
pair_met key k t ps [] (insert v) f e h = pair_put key k t t ps e
pair_met key k t ps [] remove f e h =
    sym (without_met key k t ps e ∙ without_lesser key ps (ascends_after k key ps e h))
pair_met key k t ps (s ∷ path) operation f e h = pair_put key k t (f t) ps e

module _ (key : List ℕ) (path : List Step) (operation : Operation) (f : Tree → Tree) where
  -- What is done at the place of the key, after the pairs before it, edits the pairs.
  abbrev AreEdited : Pairs → Type 0
  AreEdited ps =
      pairs_done_after key (here_at false (pairs_have_key key ps) true path operation f)
      (keys_before key ps) ps
      ≡ pairs_with key (child_edited true path operation f (value_of_key key (object ps))) ps

  first_walked : (k : List ℕ) (t : Tree) (ps : Pairs) (o : Ordering) → slice_cmp nat_cmp k key ≡ o
      → Ascend (pair k t ps) → AreEdited ps → AreEdited (pair k t ps)
  first_walked k t ps Less e h later =
      let others = passed key k t ps (λ same.
      let both : Greater ≡ Equal = sym (flipped k key Less e) ∙ same in absurd (cc)) in
      rw (e, others) (ap (λ qs. pair k t qs) later ∙ sym (pair_passed key k t _ ps e))
  first_walked k t ps Equal e h later =
      rw (e, met key k t ps e) (pair_met key k t ps path operation f e h.1)
  first_walked k t ps Greater e h later =
      rw (e, absent_first key k t ps e h.1)
      (new_pair key (new_child true path operation) (pair k t ps) (flipped k key Greater e, h.1))

  pub pairs_walked : (ps : Pairs) → Ascend ps → AreEdited ps
  pairs_walked no_pairs h = new_pair key (new_child true path operation) no_pairs tt
  pairs_walked (pair k t ps) h =
      first_walked k t ps (slice_cmp nat_cmp k key) refl h
      (pairs_walked ps (ascend_later k ps h.1))

pub pairs_left : (s : Step) (path : List Step) (operation : Operation) (f : Tree → Tree)
    (ps : Pairs) → ((k : Bor (List ℕ)) → s ≡ Key k → ⊥)
    → ps ≡ edited_pairs s path operation f ps
pairs_left (Key k) path operation f ps other = absurd (other k refl)
pairs_left (Index i) path operation f ps other = refl
pairs_left (FromEnd i) path operation f ps other = refl
pairs_left End path operation f ps other = refl

pub array_edited : (path rest : List Step) (s : Step) (operation : Operation) (t : Tree)
    (ts : Trees) → path ≡ s ∷ rest → t ≡ array ts → edited path operation t
    ≡ array (edited_items s rest operation (λ u. edited rest operation u) ts)
array_edited path rest s operation t ts path_is is = rw (path_is, is) refl

pub object_edited : (path rest : List Step) (s : Step) (operation : Operation) (t : Tree)
    (ps : Pairs) → path ≡ s ∷ rest → t ≡ object ps → edited path operation t
    ≡ object (edited_pairs s rest operation (λ u. edited rest operation u) ps)
object_edited path rest s operation t ps path_is is = rw (path_is, is) refl

-- What is done among items at the place of a step.
pub items_edited : (x : EditedItems) (s : Step) (rest : List Step) (operation : Operation)
    (f : Tree → Tree) (ts : Trees) (place : ℕ × Bool) → AreChildren ts x.items
    → Some place ≡ item_place s (trees.count ts) → x.before ≡ place.0
    → here_of x.what ≡ here_at true place.1 (is_next s (trees.count ts)) rest operation f
    → EditedItemsMean x (edited_items s rest operation f ts)
items_edited x s rest operation f ts place are e start what =
    let next = is_next s (trees.count ts) in
    let within = within_at true place.1 next rest operation f place.0 (trees.count ts)
    (place_within s (trees.count ts) place e) in (
      ts,
      (
        (are, rw (start, what) within),
        rw (start, what) (sym (items_walked s rest operation f ts place e)),
      ),
    )

-- What is done among members at the place of a key.
pub key_edited : (x : EditedMembers) (key : Bor (List ℕ)) (s : Step) (rest : List Step)
    (operation : Operation) (f : Tree → Tree) (ps : Pairs) → s ≡ Key key
    → AreMembers ps x.members → x.key.now ≡ key.now → x.before ≡ keys_before key.now ps
    → here_of x.what ≡ here_at false (pairs_have_key key.now ps) true rest operation f
    → EditedMembersMean x (edited_pairs s rest operation f ps)
key_edited x key s rest operation f ps is are same start what = (
  ps,
  (
    (
      are,
      rw (start, what) (within_at false (pairs_have_key key.now ps) true rest operation f
          (keys_before key.now ps) (pair_count ps) (key_within key.now ps)),
    ),
    rw (is, same, start, what) (sym (pairs_walked key.now rest operation f ps are.0)),
  ),
)

-- How many members there are then.
pub members_count : (x : EditedMembers) (n : ℕ) (ps : Pairs) → EditedMembersMean x ps
    → ((qs : Pairs) → AreMembers qs x.members → n ≡ pair_count qs)
    → count_done (here_of x.what) n ≡ pair_count ps
members_count x n ps (qs, (h, e)) known =
    rw (e, known qs h.0, count_pairs x.key.now (here_of x.what) x.before qs h.1) refl

pub items_count : (x : EditedItems) (n : ℕ) (ts : Trees) → EditedItemsMean x ts
    → ((us : Trees) → AreChildren us x.items → n ≡ trees.count us)
    → count_done (here_of x.what) n ≡ trees.count ts
items_count x n ts (us, (h, e)) known =
    rw (e, known us h.0, count_items (here_of x.what) x.before us h.1) refl

-- The tree of a document's part is the document's.
pub part_tree_of : (part : Part) (t : Tree) → PartMeans part t → part_tree part ≡ t
part_tree_of part t h = entry_tree-is part.type_code part.payload.now t h

-- At the end of a path of no step.
pub whole_put : (path : List Step) (v t : Tree) → length path ≡ 0
    → edited_whole path (put v) t ≡ v
whole_put [] v t h = refl
whole_put (s ∷ path) v t h = absurd (omega (arith, h))

pub whole_create : (path : List Step) (v t : Tree) → length path ≡ 0
    → edited_whole path (create v) t ≡ v
whole_create [] v t h = refl
whole_create (s ∷ path) v t h = absurd (omega (arith, h))

pub whole_insert : (path : List Step) (v t : Tree) → length path ≡ 0
    → edited_whole path (insert v) t ≡ t
whole_insert [] v t h = refl
whole_insert (s ∷ path) v t h = absurd (omega (arith, h))

pub whole_remove : (path : List Step) (t : Tree) → length path ≡ 0
    → edited_whole path remove t ≡ t
whole_remove [] t h = refl
whole_remove (s ∷ path) t h = absurd (omega (arith, h))

-- Where steps are left, a value is not put as the whole.
pub whole_edited : (path : List Step) (operation : Operation) (t : Tree) → (length path ≡ 0 → ⊥)
    → edited_whole path operation t ≡ edited path operation t
whole_edited [] operation t h = absurd (h refl)
whole_edited (s ∷ path) (put v) t h = refl
whole_edited (s ∷ path) (create v) t h = refl
whole_edited (s ∷ path) (insert v) t h = refl
whole_edited (s ∷ path) remove t h = refl

-- ---- a value in containers

pub wrapped_none : (path : List Step) (v : Tree) → length path < 1 → wrapped path v ≡ v
wrapped_none [] v h = refl
wrapped_none (s ∷ path) v h = absurd (omega (arith, h))

-- With no step left a value is put without containers.
pub not_put : (next : Bool) (path : List Step) (v : Tree) (here : Here)
    → here ≡ comes (if length path == 0 then Some (wrapped path v) else None)
    → here ≡ comes (new_child next path (put v))
not_put next [] v here e = e
not_put next (s ∷ path) v here e =
    let some : (length (s ∷ path) == 0) ≡ false = ne_eqb _ _ (λ h. omega (arith, h)) in
    rw some at e

pub not_inserted : (next : Bool) (path : List Step) (v : Tree) (here : Here)
    → here ≡ comes (if length path == 0 then Some (wrapped path v) else None)
    → here ≡ comes (new_child next path (insert v))
not_inserted next [] v here e = e
not_inserted next (s ∷ path) v here e = not_put next (s ∷ path) v here e

pub last_insert : (items next : Bool) (path : List Step) (v : Tree) (f : Tree → Tree)
    → length path ≡ 0
    → comes (if items then Some (wrapped path v) else None)
    ≡ here_at items true next path (insert v) f
last_insert true next [] v f h = refl
last_insert false next [] v f h = refl
last_insert items next (s ∷ path) v f h = absurd (omega (arith, h))

-- An object of no member.
pub empty_object : IsObject 0 [] no_pairs
empty_object = (
  refl,
  (
    tt,
    record {
      few = omega arith;
      key_entries = [];
      value_entries = [];
      key_payloads = [];
      value_payloads = [];
      parts = refl;
      keys = record { no_entries = refl; no_payloads = refl };
      values = record { no_entries = refl; no_payloads = refl };
    },
  ),
)

pub made_object : (key : Bor (List ℕ)) (path later : List Step) (v : Tree)
    → path ≡ Key key ∷ later → wrapped path v ≡ object (pair key.now (wrapped later v) no_pairs)
made_object key path later v path_is = rw path_is refl

pub made_array : (s : Step) (path later : List Step) (v : Tree) → path ≡ s ∷ later
    → ((k : Bor (List ℕ)) → s ≡ Key k → ⊥)
    → wrapped path v ≡ array (tree (wrapped later v) no_trees)
made_array (Key k) path later v path_is other = absurd (other k refl)
made_array (Index i) path later v path_is other = rw path_is refl
made_array (FromEnd i) path later v path_is other = rw path_is refl
made_array End path later v path_is other = rw path_is refl
