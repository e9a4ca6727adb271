-- Whether names are among the keys at the top of a tree, in any order of the two walks.
use Rattle.std.proofs.Common.{◌≡◌, ℕ, List, [], ◌∷◌, length, refl, sym, ap, ◌∙◌, Bor}
use Rattle.std.proofs.Common.{arith, ⊎_elim}
use Rattle.std.specs.Prelude.{Bool, true, false, not, ◌&&◌, ◌||◌, ◌↔◌, IsTrue, Some}
use Rattle.std.specs.Prelude.{IsPermutation, if◌then◌else◌}
use Rattle.std.specs.BTreeSet.{BTreeSet}
use Rattle.std.specs.Cmp.Lexicographic.{slice_cmp, nat_list_cmp_total}
use Rattle.std.specs.List.{list_all, list_any}
use Rattle.std.specs.Ordering.{eq_by_cmp, is_eq, nat_cmp, ordering_reverse}
use Rattle.std.specs.Cmp.{IsEquivalence}
use Rattle.std.specs.Set.{is_member}
use Rattle.std.specs.Str.{bytes_eq}
use Rattle.std.specs.declared.cmp.Ordering.{Ordering}
use Rattle.std.specs.declared.cmp.Ordering.TheVariants.{Less, Equal, Greater}
use Rattle.std.proofs.lemmas.List.Sorted.{list_any-IsPermutation}
use Rattle.std.proofs.lemmas.List.Elements.{All-weaker}
use Rattle.std.proofs.lemmas.List.Sums.{list_all-from_AllPass}
use Rattle.std.proofs.lemmas.Cmp.{eq_by_cmp_equiv, on_total, tied_itself}
use Rattle.std.proofs.lemmas.Map.Made.{All-is_member}
use Rattle.std.proofs.lemmas.Map.Text.{is_eq-slice_cmp}
use Rattle.jsonb_value.specs.Tree.{Tree, null, boolean, number, text, extension, array, object}
use Rattle.jsonb_value.specs.Tree.{Pairs, pair}
use Rattle.jsonb_value.specs.Value.{trees_of}
use Rattle.jsonb_codec.specs.declared.constants.TheConstants.{CONTAINER_TAG}
use Rattle.jsonb_codec.specs.Doc.{type_of}
use Rattle.jsonb.specs.declared.node.Node.{Node}
use Rattle.jsonb.specs.declared.node.Node.TheVariants as nodes
use Rattle.jsonb.specs.Document.{document_tree}
use Rattle.jsonb.specs.Node.{HoldsNoScalar, items_of, members_of, node_tree, object_of, pairs_of}
use Rattle.jsonb.specs.Node.{value_of_key}
use Rattle.jsonb_functions.specs.Contains.{contained, has_top_key, is_there, some_tree}
use Rattle.jsonb_functions.specs.KeyTests.{has_name, names_cmp}
use Rattle.jsonb_functions.specs.Picked.{is_named}
use Rattle.jsonb_functions.proofs.IndexLaws.{are_equal, both, one_is}
use Rattle.jsonb_functions.proofs.KeyOrder.{flipped, key_equal, met, passed}
use Rattle.jsonb_comparable.proofs.WalkLaws.{array_items, object_members}

abbrev Names : Type 0
Names = List (Bor (List ℕ))

-- Tests that agree find the same.
pub any_same : (p q : Bor (List ℕ) → Bool) → ((x : Bor (List ℕ)) → p x ≡ q x) → (xs : Names)
    → list_any p xs ≡ list_any q xs
any_same p q same [] = refl
any_same p q same (x ∷ xs) = rw (same x, any_same p q same xs) refl

exchanged : (a b c d : Bool) → ((a || b) || (c || d)) ≡ ((a || c) || (b || d))
exchanged true b c d = refl
exchanged false true true d = refl
exchanged false true false d = refl
exchanged false false c d = refl

-- One of two tests is passed exactly if the one or the other is.
any_or : (p q : Bor (List ℕ) → Bool) (xs : Names)
    → list_any (λ x. p x || q x) xs ≡ (list_any p xs || list_any q xs)
any_or p q [] = refl
any_or p q (x ∷ xs) = ap (λ y. (p x || q x) || y) (any_or p q xs)
    ∙ exchanged (p x) (q x) (list_any p xs) (list_any q xs)

any_none : (xs : Names) → false ≡ list_any (λ x. false) xs
any_none [] = refl
any_none (x ∷ xs) = any_none xs

-- Sorted names are found as they were listed.
pub any_sorted : (names sorted : Names) (t : Tree) → IsPermutation names sorted
    → list_any (λ name. has_top_key name.now t) names
    ≡ list_any (λ name. has_top_key name.now t) sorted
any_sorted names sorted t h = list_any-IsPermutation (λ name. has_top_key name.now t) names sorted h

-- What has a name is at the top of an array, an object, or another tree.
pub top_of_array : (t : Tree) (ts : List Tree) → Some ts ≡ items_of t → (k : List ℕ)
    → has_top_key k t ≡ some_tree (λ u. contained (text k) u) (trees_of ts)
top_of_array t ts e k = rw (array_items t ts e) refl

pub top_of_object : (t : Tree) (ps : List (List ℕ × Tree)) → Some ps ≡ members_of t
    → (k : List ℕ) → has_top_key k t ≡ is_there (value_of_key k (object_of ps))
top_of_object t ps e k = rw (object_members t ps e) refl

-- No text is in a value that is not one.
other_in : (t : Tree) → type_of t ≡ CONTAINER_TAG → (k : List ℕ) → contained (text k) t ≡ false
other_in null e k = refl
other_in (boolean b) e k = refl
other_in (number x) e k = refl
other_in (text s) e k = absurd (omega (arith, e))
other_in (extension x) e k = refl
other_in (array ts) e k = refl
other_in (object ps) e k = refl

pub no_text : (node : Node) → ((s : Bor (List ℕ)) → node ≡ nodes.String s → ⊥)
    → HoldsNoScalar node → (k : List ℕ) → contained (text k) (node_tree node) ≡ false
no_text nodes.Null h c k = refl
no_text (nodes.Boolean b) h c k = refl
no_text (nodes.Number x) h c k = refl
no_text (nodes.String s) h c k = absurd (h s refl)
no_text (nodes.Extension x) h c k = refl
no_text (nodes.Container d) h c k = other_in (document_tree d) c k

pub no_text_any : (node : Node) → ((s : Bor (List ℕ)) → node ≡ nodes.String s → ⊥)
    → HoldsNoScalar node → (names : Names)
    → false ≡ list_any (λ name. contained (text name.now) (node_tree node)) names
no_text_any node h c names = any_none names
    ∙ sym (any_same (λ name. contained (text name.now) (node_tree node)) (λ name. false)
    (λ name. no_text node h c name.now) names)

eq_reversed : (o : Ordering) → is_eq (ordering_reverse o) ≡ is_eq o
eq_reversed Less = refl
eq_reversed Equal = refl
eq_reversed Greater = refl

-- A name is the key exactly if neither is greater.
same_as : (name k : List ℕ) → is_eq (slice_cmp nat_cmp k name) ≡ bytes_eq name k
same_as name k = sym (eq_reversed (slice_cmp nat_cmp k name))
    ∙ ap is_eq (sym (nat_list_cmp_total.antisymm name k)) ∙ is_eq-slice_cmp name k

pub named_text : (names : Names) (s : List ℕ)
    → is_named names s ≡ list_any (λ name. contained (text name.now) (text s)) names
named_text names s = any_same (λ name. bytes_eq name.now s)
    (λ name. contained (text name.now) (text s)) (λ name. sym (same_as name.now s)) names

-- The first member has the key, or the others decide.
there_by : (name k : List ℕ) (t : Tree) (ps : Pairs) (o : Ordering) → slice_cmp nat_cmp k name ≡ o
    → is_there (value_of_key name (object (pair k t ps)))
    ≡ (is_eq o || is_there (value_of_key name (object ps)))
there_by name k t ps Equal e = ap is_there (met name k t ps e)
there_by name k t ps Less e =
    ap is_there (passed name k t ps (λ same. let never : Less ≡ Equal =
    sym e ∙ flipped name k Equal same in absurd (cc)))
there_by name k t ps Greater e =
    ap is_there (passed name k t ps (λ same. let never : Greater ≡ Equal =
    sym e ∙ flipped name k Equal same in absurd (cc)))

pub there_first : (name : List ℕ) (left others : List (List ℕ × Tree)) (k : List ℕ) (t : Tree)
    → left ≡ (k, t) ∷ others → is_there (value_of_key name (object_of left))
    ≡ (is_eq (slice_cmp nat_cmp k name) || is_there (value_of_key name (object_of others)))
there_first name left others k t e =
    rw e (there_by name k t (pairs_of others) (slice_cmp nat_cmp k name) refl)

-- One step of a walk over the items or the members of a document.
pub text_step : (names : Names) (left others : List Tree) (t : Tree) → left ≡ t ∷ others
    → list_any (λ name. some_tree (λ u. contained (text name.now) u) (trees_of left)) names
    ≡ (list_any (λ name. contained (text name.now) t) names
    || list_any (λ name. some_tree (λ u. contained (text name.now) u) (trees_of others)) names)
text_step names left others t e = rw e (any_or (λ name. contained (text name.now) t)
    (λ name. some_tree (λ u. contained (text name.now) u) (trees_of others)) names)

pub text_end : (names : Names) (left : List Tree) → left ≡ []
    → false ≡ list_any (λ name. some_tree (λ u. contained (text name.now) u) (trees_of left)) names
text_end names left e = rw e (any_none names)

pub member_step : (names : Names) (left others : List (List ℕ × Tree)) (k : List ℕ) (t : Tree)
    → left ≡ (k, t) ∷ others
    → list_any (λ name. is_there (value_of_key name.now (object_of left))) names
    ≡ (is_named names k
    || list_any (λ name. is_there (value_of_key name.now (object_of others))) names)
member_step names left others k t e =
    any_same (λ name. is_there (value_of_key name.now (object_of left)))
    (λ name. bytes_eq name.now k || is_there (value_of_key name.now (object_of others)))
    (λ name. there_first name.now left others k t e
    ∙ ap (λ b. b || is_there (value_of_key name.now (object_of others))) (same_as name.now k)) names
    ∙ any_or (λ name. bytes_eq name.now k)
    (λ name. is_there (value_of_key name.now (object_of others))) names

pub member_end : (names : Names) (left : List (List ℕ × Tree)) → left ≡ []
    → false ≡ list_any (λ name. is_there (value_of_key name.now (object_of left))) names
member_end names left e = rw e (any_none names)

-- Names that are left in a set are those that were there and not met.
pub removed_twice : (had first others : Bool)
    → ((had && not first) && not others) ≡ (had && not (first || others))
removed_twice true true others = refl
removed_twice true false others = refl
removed_twice false first others = refl

pub removed_one : (had is : Bool) → (if is then false else had) ≡ (had && not is)
removed_one true true = refl
removed_one true false = refl
removed_one false true = refl
removed_one false false = refl

-- A set without names is what is left where each was met.
same_truth : (b c : Bool) → (b ≡ true → c ≡ true) → (c ≡ true → b ≡ true) → b ≡ c
same_truth true c f g = sym (f refl)
same_truth false true f g = g refl
same_truth false false f g = refl

met_where : (among met : Bool) → among ≡ true → (among && not met) ≡ false → met ≡ true
met_where true true e f = refl
met_where true false e f = absurd (cc)
met_where false met e f = absurd (cc)

not_met : (among met : Bool) → (among && not met) ≡ true → (among ≡ true) × (met ≡ false)
not_met true true h = absurd (cc)
not_met true false h = (refl, refl)
not_met false met h = absurd (cc)

names_laws : IsEquivalence (eq_by_cmp names_cmp)
names_laws = eq_by_cmp_equiv (on_total (λ (x : Bor (List ℕ)). x.now) nat_list_cmp_total)

-- A test that is passed by all of the names is passed by one that equals one of them.
all_passed : (P : List ℕ → Bool) (names : Names) (q : Bor (List ℕ))
    → is_member (eq_by_cmp names_cmp) names q ≡ true
    → list_all (λ name. P name.now) names ≡ true → P q.now ≡ true
all_passed P [] q h all = absurd (cc)
all_passed P (x ∷ names) q h all =
    let (here, later) = both (P x.now) (list_all (λ name. P name.now) names) all in
    ⊎_elim (λ x. x) (λ x. x) (one_is (is_eq (slice_cmp nat_cmp q.now x.now))
    (is_member (eq_by_cmp names_cmp) names q) h
    (λ same. ap P (key_equal q.now x.now (are_equal _ same)) ∙ here)
    (λ among. all_passed P names q among later))

none_left : (P : List ℕ → Bool) (names left : Names) → length left ≡ 0
    → ((q : Bor (List ℕ)) → list_any (λ x. is_eq (names_cmp q x)) left
    ≡ (is_member (eq_by_cmp names_cmp) names q && not (P q.now)))
    → list_all (λ name. P name.now) names ≡ true
none_left P names [] e h = list_all-from_AllPass (λ name. P name.now) names
    (All-weaker (λ q. is_member (eq_by_cmp names_cmp) names q ≡ true) (λ q. P q.now ≡ true)
    (λ q among. met_where _ (P q.now) among (sym (h q))) names (All-is_member names_laws names))
none_left P names (x ∷ left) e h = absurd (omega (arith, e))

some_left : (P : List ℕ → Bool) (names left : Names)
    → ((q : Bor (List ℕ)) → list_any (λ x. is_eq (names_cmp q x)) left
    ≡ (is_member (eq_by_cmp names_cmp) names q && not (P q.now)))
    → list_all (λ name. P name.now) names ≡ true → length left ≡ 0
some_left P names [] h all = refl
some_left P names (x ∷ left) h all =
    let there : list_any (λ y. is_eq (names_cmp x y)) (x ∷ left) ≡ true =
    rw (tied_itself nat_list_cmp_total x.now) refl in
    let (among, lacks) = not_met _ (P x.now) (sym (h x) ∙ there) in
    let never : true ≡ false = sym (all_passed P names x among all) ∙ lacks in absurd (cc)

pub all_met : (P : List ℕ → Bool) (names : Names) (set : BTreeSet (Bor (List ℕ))) (b : Bool)
    → (IsTrue b ↔ (length set.keys ≡ 0))
    → ((q : Bor (List ℕ)) → has_name set q
    ≡ (is_member (eq_by_cmp names_cmp) names q && not (P q.now)))
    → b ≡ list_all (λ name. P name.now) names
all_met P names set b empty h = same_truth b (list_all (λ name. P name.now) names)
    (λ is. none_left P names set.keys (empty.0 is) h)
    (λ all. empty.1 (some_left P names set.keys h all))
