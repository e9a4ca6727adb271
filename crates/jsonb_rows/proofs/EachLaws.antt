-- Trees that are changed child by child.
use Rattle.std.proofs.Common.{◌≡◌, ◌+◌, ◌++◌, ◌∙◌, ℕ, List, [], ◌∷◌, Bool, false, refl, sym, ap}
use Rattle.std.proofs.Common.{◌-◌, ◌≤◌, Option, None, Some, IfSome, arith, drop, get_or, length}
use Rattle.std.proofs.Common.{map, subst, take}
use Rattle.std.proofs.Math.Seq.{take-length}
use Rattle.std.specs.Prelude.{◌&&◌, ◌||◌, String, option_map, string_bytes, string_cmp}
use Rattle.std.specs.declared.alloc.Global.{Global}
use Rattle.std.specs.declared.cmp.Ordering.{Ordering}
use Rattle.std.specs.declared.cmp.Ordering.TheVariants.{Less, Equal, Greater}
use Rattle.std.specs.Ordering.{match_ordering, nat_cmp, ordering_reverse}
use Rattle.std.specs.Cmp.Lexicographic.{slice_cmp}
use Rattle.std.proofs.lemmas.Cmp.{nat_list_cmp_total}
use Rattle.std.specs.BTreeMap.{BTreeMap, IsFromIterResult, insert_entry}
use Rattle.jsonb_value.specs.Tree.{Tree, null, boolean, number, text, extension, array, object}
use Rattle.jsonb_value.specs.Tree.{Trees, no_trees, tree, Pairs, no_pairs, pair, Ascend, Ascends, count}
use Rattle.jsonb_value.specs.Value.{pairs_view, tree_of, items_view}
use Rattle.jsonb_value.specs.declared.value.Value.{Value}
use Rattle.jsonb_codec.specs.declared.constants.TheConstants.{CONTAINER_TAG}
use Rattle.jsonb_codec.specs.Doc.{type_of}
use Rattle.jsonb_codec.proofs.Building.{pairs_and, pairs_and-later, pairs_and-none, seen, trees_and}
use Rattle.jsonb_codec.proofs.Building.{trees_and-none, trees_and-push}
use Rattle.jsonb_codec.proofs.SortOrder.{from_ascending}
use Rattle.jsonb_functions.specs.Joined.{put_beside, with_key}
use Rattle.jsonb_functions.proofs.KeyOrder.{flipped, key_equal}
use Rattle.jsonb_rows.specs.declared.reach.Reach.{Reach}
use Rattle.jsonb_rows.specs.Each.{Operation, added, changed_within, child_edited, child_if}
use Rattle.jsonb_rows.specs.Each.{leads, some_item}
use Rattle.jsonb_rows.specs.Reach.{leads_to_item, leads_to_member}
use Rattle.jsonb_rows.specs.Each.{some_member, with_first, with_items, with_member, with_members}
use Rattle.jsonb_rows.specs.Pushed.{IsMemberPushed, IsPushed, Members}

-- ---- items

-- one more item became this child
pub items_more : (led : ℕ → Bool) (f : Tree → Option Tree) (vs ws : List Value)
    (child : Option Value) (i : ℕ) {whole us others : Trees} {first : Tree}
    → whole ≡ trees_and (map tree_of vs) (with_items led f i us) → us ≡ tree first others
    → option_map tree_of child ≡ child_if (led i) f first → IsPushed child vs ws
    → whole ≡ trees_and (map tree_of ws) (with_items led f (i + 1) others)
items_more led f vs ws None i {whole = whole} {others = others} here are same more =
    let rest = with_items led f (i + 1) others in
    let step = ap (with_items led f i) are ∙ ap (λ c. with_first c rest) (sym same) in
    subst (λ xs. whole ≡ trees_and (map tree_of xs) rest) (sym more)
    (here ∙ ap (trees_and (map tree_of vs)) step)
items_more led f vs ws (Some v) i {us = us} {others = others} whole are same more =
    let rest = with_items led f (i + 1) others in
    let step : with_items led f i us ≡ tree (tree_of v) rest =
    ap (with_items led f i) are ∙ ap (λ c. with_first c rest) (sym same) in
    trees_and-push vs v whole step refl more

-- no item is left
pub items_end : (led : ℕ → Bool) (f : Tree → Option Tree) (vs : List Value) (i : ℕ)
    {whole us : Trees} → whole ≡ trees_and (map tree_of vs) (with_items led f i us)
    → us ≡ no_trees → items_view vs ≡ whole
items_end led f vs i whole none =
    sym (whole ∙ ap (λ ts. trees_and (map tree_of vs) (with_items led f i ts)) none
    ∙ trees_and-none (map tree_of vs))

-- ---- members

-- one more member became this child
pub members_more : (led : List ℕ → Bool) (f : Tree → Option Tree) (vs ws : Members)
    (child : Option Value) {whole us others : Pairs} {key : List ℕ} {value : Tree}
    → whole ≡ pairs_and (seen vs) (with_members led f us) → us ≡ pair key value others
    → option_map tree_of child ≡ child_if (led key) f value → IsMemberPushed key child vs ws
    → whole ≡ pairs_and (seen ws) (with_members led f others)
members_more led f vs ws None {whole = whole} {others = others} {key = key} here are same more =
    let rest = with_members led f others in
    let step = ap (with_members led f) are ∙ ap (λ c. with_member key c rest) (sym same) in
    subst (λ xs. whole ≡ pairs_and (seen xs) rest) (sym more)
    (here ∙ ap (pairs_and (seen vs)) step)
members_more led f vs ws (Some v) {us = us} {others = others} {key = key} whole are same more =
    let rest = with_members led f others in
    let step : with_members led f us ≡ pair key (tree_of v) rest =
    ap (with_members led f) are ∙ ap (λ c. with_member key c rest) (sym same) in
    pairs_and-later vs more.0 v whole step more.1.0 refl more.1.1

-- a lesser bound
lower : (before : Option (List ℕ)) (k : List ℕ) (ps : Pairs)
    → IfSome before (λ b. slice_cmp nat_cmp b k ≡ Less) → Ascends (Some k) ps → Ascends before ps
lower before k no_pairs below h = tt
lower None k (pair j t ps) below h = (tt, h.1)
lower (Some b) k (pair j t ps) below h = (nat_list_cmp_total.trans b k j below h.0, h.1)

ascends_at : (before : Option (List ℕ)) (k : List ℕ) (c : Option Tree) (ps : Pairs)
    → IfSome before (λ b. slice_cmp nat_cmp b k ≡ Less) → Ascends (Some k) ps
    → Ascends before (with_member k c ps)
ascends_at before k None ps below h = lower before k ps below h
ascends_at before k (Some t) ps below h = (below, h)

-- the keys that stay ascend
ascends_with : (led : List ℕ → Bool) (f : Tree → Option Tree) (before : Option (List ℕ))
    (ps : Pairs) → Ascends before ps → Ascends before (with_members led f ps)
ascends_with led f before no_pairs h = tt
ascends_with led f before (pair k t ps) h =
    ascends_at before k (child_if (led k) f t) (with_members led f ps) h.0
    (ascends_with led f (Some k) ps h.1)

-- no member is left, and the others make a map
pub members_end : (led : List ℕ → Bool) (f : Tree → Option Tree) (es : Members)
    (made : BTreeMap (String Global) Value) (ps us : Pairs) → Ascend ps
    → with_members led f ps ≡ pairs_and (seen es) (with_members led f us) → us ≡ no_pairs
    → IsFromIterResult string_cmp es made
    → pairs_view made.entries ≡ with_members led f ps
members_end led f es made ps us ascend whole none is =
    let all : with_members led f ps ≡ pairs_view es =
    whole ∙ ap (λ qs. pairs_and (seen es) (with_members led f qs)) none
    ∙ pairs_and-none (seen es) in
    from_ascending es made (subst Ascend all (ascends_with led f None ps ascend)) is ∙ sym all

-- ---- a member that is inserted

pairs_at : (o : Ordering) (k : String Global) (v : Value) (e : String Global × Value)
    (es later : Members) → string_cmp k e.0 ≡ o
    → pairs_view later ≡ with_key (string_bytes k) (tree_of v) (pairs_view es)
    → pairs_view (match_ordering o ((k, v) ∷ e ∷ es) ((e.0, v) ∷ es) (e ∷ later))
    ≡ put_beside (ordering_reverse o) (string_bytes k) (tree_of v) (string_bytes e.0)
    (tree_of e.1) (pairs_view es) (with_key (string_bytes k) (tree_of v) (pairs_view es))
pairs_at Less k v e es later is rest = refl
pairs_at Equal k v e es later is rest =
    ap (λ j. pair j (tree_of v) (pairs_view es))
    (sym (key_equal (string_bytes k) (string_bytes e.0) is))
pairs_at Greater k v e es later is rest = ap (pair (string_bytes e.0) (tree_of e.1)) rest

-- a member that is inserted is put among the pairs
pub pairs_inserted : (es : Members) (k : String Global) (v : Value)
    → pairs_view (insert_entry string_cmp es k v)
    ≡ with_key (string_bytes k) (tree_of v) (pairs_view es)
pairs_inserted [] k v = refl
pairs_inserted (e ∷ es) k v =
    let o = string_cmp k e.0 in
    rw (flipped (string_bytes k) (string_bytes e.0) o refl)
    (pairs_at o k v e es (insert_entry string_cmp es k v) refl (pairs_inserted es k v))

-- ---- scalars

pub scalar_within : (s : Reach) (f : Tree → Option Tree) (add : Pairs → Pairs) (t : Tree)
    → (type_of t ≡ CONTAINER_TAG → ⊥) → changed_within s f add t ≡ t
scalar_within s f add (array ts) h = absurd (h refl)
scalar_within s f add (object ps) h = absurd (h refl)
scalar_within s f add null h = refl
scalar_within s f add (boolean b) h = refl
scalar_within s f add (number x) h = refl
scalar_within s f add (text x) h = refl
scalar_within s f add (extension x) h = refl

-- ---- where a path leads

pub item_on : (led : ℕ → Bool) (test : Tree → Bool) (i : ℕ) (us others : Trees) (first : Tree)
    → us ≡ tree first others → (led i && test first) ≡ false
    → some_item led test i us ≡ some_item led test (i + 1) others
item_on led test i us others first are is =
    ap (some_item led test i) are ∙ ap (λ b. b || some_item led test (i + 1) others) is

pub member_on : (led : List ℕ → Bool) (test : Tree → Bool) (us others : Pairs) (key : List ℕ)
    (value : Tree) → us ≡ pair key value others → (led key && test value) ≡ false
    → some_member led test us ≡ some_member led test others
member_on led test us others key value are is =
    ap (some_member led test) are ∙ ap (λ b. b || some_member led test others) is

-- ---- what is appended

pub member_pushed : (name : List ℕ) (child : Option Value) (v : Value) (before after : Members)
    (key : String Global) → child ≡ Some v → string_bytes key ≡ name
    → after ≡ before ++ ((key, v) ∷ []) → IsMemberPushed name child before after
member_pushed name child v before after key is same more =
    subst (λ c. IsMemberPushed name c before after) (sym is) (key, (same, more))

-- ---- containers

-- A path of some steps begins with the first.
abbrev pub later_steps : List Reach → List Reach
later_steps path = take (length path - 1) (drop 1 path)

pub path_split : (path : List Reach) (s : Reach) → 1 ≤ length path → get_or path 0 s ≡ s
    → path ≡ s ∷ later_steps path
path_split [] s h e = absurd (omega (arith, h))
path_split (r ∷ path) s h e =
    let first : r ≡ s = e in
    let fewer : length (r ∷ path) - 1 ≡ length path = omega arith in
    let all : later_steps (r ∷ path) ≡ path = rw fewer (take-length path) in
    rw (all, ← first) refl

module _ (path : List Reach) (s : Reach) (rest : List Reach) (split : path ≡ s ∷ rest) where
  module _ (operation : Operation) (t : Tree) where
    pub array_child : (ts : Trees) (vs : List Value) → t ≡ array ts
        → items_view vs ≡ with_items (leads_to_item s (count ts)) (child_edited rest operation) 0 ts
        → Some (array (items_view vs)) ≡ child_edited path operation t
    array_child ts vs is same =
        ap (λ xs. Some (array xs)) same ∙ ap (child_edited (s ∷ rest) operation) (sym is)
        ∙ ap (λ p. child_edited p operation t) (sym split)

    pub object_child : (ps : Pairs) (before after : Members) → t ≡ object ps
        → pairs_view before ≡ with_members (leads_to_member s) (child_edited rest operation) ps
        → pairs_view after ≡ added s rest operation (pairs_view before)
        → Some (object (pairs_view after)) ≡ child_edited path operation t
    object_child ps before after is same more =
        ap (λ xs. Some (object xs)) (more ∙ ap (added s rest operation) same)
        ∙ ap (child_edited (s ∷ rest) operation) (sym is)
        ∙ ap (λ p. child_edited p operation t) (sym split)

  module _ (t : Tree) where
    pub items_lead : (ts : Trees) (found : Bool) → t ≡ array ts
        → found ≡ some_item (leads_to_item s (count ts)) (leads rest) 0 ts
        → found ≡ leads path t
    items_lead ts found is same =
        same ∙ ap (leads (s ∷ rest)) (sym is) ∙ ap (λ p. leads p t) (sym split)

    pub members_lead : (ps : Pairs) (found : Bool) → t ≡ object ps
        → found ≡ some_member (leads_to_member s) (leads rest) ps → found ≡ leads path t
    members_lead ps found is same =
        same ∙ ap (leads (s ∷ rest)) (sym is) ∙ ap (λ p. leads p t) (sym split)
