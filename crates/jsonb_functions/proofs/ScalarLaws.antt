-- Looking for scalars among those of an array.
use Rattle.std.proofs.Common.{◌≡◌, ◌+◌, ◌++◌, ℕ, List, [], ◌∷◌, length, refl, sym}
use Rattle.std.proofs.Common.{ap, ◌∙◌, Bool, Bor, true, false, arith, nat_lt}
use Rattle.std.specs.Prelude.{◌||◌, Result, Ok, Err, is_ok, IsPermutation}
use Rattle.std.specs.List.{list_any}
use Rattle.std.specs.List.Sorted.{IsBinarySearchResult, IsSearchInRange, IsSorted}
use Rattle.std.specs.Ordering.{is_eq, on}
use Rattle.std.proofs.lemmas.List.Folds.{list_any-append, list_any_at, list_any_none}
use Rattle.std.proofs.lemmas.List.Sorted.{list_any-IsPermutation, searchable_from_sorted}
use Rattle.jsonb_value.specs.Tree.{Tree, Trees, tree, null, boolean, number, text}
use Rattle.jsonb_value.specs.Tree.{extension, array, object}
use Rattle.jsonb_value.specs.TreeOrder.{tree_cmp}
use Rattle.jsonb_value.specs.Value.{trees_of}
use Rattle.jsonb_value.proofs.TreeLaws.{tree_cmp_total}
use Rattle.jsonb.specs.declared.node.Node.{Node}
use Rattle.jsonb.specs.declared.node.Node.TheVariants as nodes
use Rattle.jsonb.specs.declared.extension_item.ExtensionItem.{ExtensionItem}
use Rattle.jsonb.specs.Node.{array_of, node_tree}
use Rattle.jsonb_functions.specs.ArraySets.{are_equal}
use Rattle.jsonb_functions.specs.Contains.{contained, items_or_none, some_tree}
use Rattle.jsonb_functions.specs.ContainSteps.{scalar_weight, scalar_weights}
use Rattle.jsonb_functions.specs.Scalars.{AreCollected, AreScalarsOf, HasScalars, IsScalar}
use Rattle.jsonb_functions.specs.Scalars.{IsScalarValue}
use Rattle.jsonb_functions.specs.Weight.{weight}
use Rattle.jsonb_functions.specs.declared.scalars.Scalars.{Scalars}
use Rattle.jsonb_functions.proofs.PickLaws.{not_same}
use Rattle.jsonb_functions.proofs.WalkLaws.{of_other, scalar_type}

-- No scalar is contained in a value that is an array or object.
in_array : (u : Tree) (ts : Trees) → IsScalar u → contained u (array ts) ≡ false
in_array null ts h = refl
in_array (boolean b) ts h = refl
in_array (number x) ts h = refl
in_array (text s) ts h = refl
in_array (extension e) ts h = refl
in_array (array us) ts h = absurd (h refl)
in_array (object qs) ts h = absurd (h refl)

-- ---- collecting scalars

moved : (a b c : Bool) → ((a || (b || false)) || c) ≡ (a || (b || c))
moved true b c = refl
moved false true c = refl
moved false false c = refl

-- A scalar is appended to the list.
pub appended_scalar : (ts rest : Trees) (nodes new : List Node) (x : Node) → new ≡ nodes ++ x ∷ []
    → AreCollected ts nodes (tree (node_tree x) rest) → AreCollected ts new rest
appended_scalar ts rest nodes new x more h u scalar =
    let test = λ (node : Node). are_equal (node_tree node) u in
    let others = some_tree (λ t. contained u t) rest in
    ap (λ xs. list_any test xs || others) more
    ∙ ap (λ b. b || others) (list_any-append test nodes (x ∷ []))
    ∙ moved (list_any test nodes) (test x) others
    ∙ ap (λ c. list_any test nodes || (c || others)) (sym (of_other u (node_tree x) scalar))
    ∙ h u scalar

no_more : (a : Bool) → a ≡ (a || false)
no_more true = refl
no_more false = refl

pub collected_all : (ts : Trees) (nodes : List Node) (left : List Tree) → left ≡ []
    → AreCollected ts nodes (trees_of left) → HasScalars ts nodes
collected_all ts nodes left e h u scalar =
    no_more (list_any (λ node. are_equal (node_tree node) u) nodes)
    ∙ ap (λ x. list_any (λ node. are_equal (node_tree node) u) nodes
    || some_tree (λ t. contained u t) (trees_of x)) (sym e) ∙ h u scalar

-- ---- searching

-- The order of the list does not matter.
pub sorted_scalars : (ts : Trees) (nodes sorted : List Node) → IsPermutation nodes sorted
    → HasScalars ts nodes → HasScalars ts sorted
sorted_scalars ts nodes sorted same h u scalar =
    sym (list_any-IsPermutation (λ node. are_equal (node_tree node) u) nodes sorted same)
    ∙ h u scalar

-- A search among values in order finds one exactly if it is equal to one of them.
search_finds : (xs : List Node) (x : Node) (r : Result ℕ ℕ)
    → IsSorted (on node_tree tree_cmp) xs → IsSearchInRange r (length xs)
    → IsBinarySearchResult (λ y. tree_cmp (node_tree y) (node_tree x)) xs r
    → is_ok r ≡ list_any (λ y. are_equal (node_tree y) (node_tree x)) xs
search_finds xs x (Ok i) sorted range found =
    sym (list_any_at (λ y. are_equal (node_tree y) (node_tree x)) xs i x range
    (ap is_eq (found x)))
search_finds xs x (Err i) sorted range found =
    let (less, more) =
    found (searchable_from_sorted tree_cmp_total (λ y. node_tree y) xs (node_tree x) sorted) in
    sym (list_any_none (λ y. are_equal (node_tree y) (node_tree x)) xs
    (λ j d low. not_same _ i j (nat_lt j i) refl (λ before. less j d (omega arith) before)
    (λ from. more j d from low)))

pub searched : (ts : Trees) (scalars : Scalars) (x : Node) (r : Result ℕ ℕ) (b : Bool)
    → IsScalarValue x → AreScalarsOf ts scalars
    → IsSearchInRange r (length scalars.sorted.items)
    → IsBinarySearchResult (λ y. tree_cmp (node_tree y) (node_tree x)) scalars.sorted.items r
    → b ≡ is_ok r → b ≡ some_tree (λ t. contained (node_tree x) t) ts
searched ts scalars x r b scalar h range found is =
    is ∙ search_finds scalars.sorted.items x r h.0 range found
    ∙ h.1 (node_tree x) (scalar_type x scalar)

-- A value that is no text, no data and no container weighs one.
pub plain_weight : (node : Node) → ((s : Bor (List ℕ)) → node ≡ nodes.String s → ⊥)
    → ((x : ExtensionItem) → node ≡ nodes.Extension x → ⊥) → IsScalarValue node
    → 1 ≡ weight (node_tree node)
plain_weight nodes.Null h g scalar = refl
plain_weight (nodes.Boolean b) h g scalar = refl
plain_weight (nodes.Number x) h g scalar = refl
plain_weight (nodes.String s) h g scalar = absurd (h s refl)
plain_weight (nodes.Extension x) h g scalar = absurd (g x refl)
plain_weight (nodes.Container d) h g scalar = absurd (scalar d refl)

-- ---- an array that is searched for many

pub items_here : (t : Tree) (ts : List Tree) → t ≡ array_of ts → items_or_none t ≡ trees_of ts
items_here t ts e = rw e refl

pub scalars_first : (ts : List Tree) (t : Tree) (others : List Tree) → ts ≡ t ∷ others
    → scalar_weights (trees_of ts) ≡ scalar_weight t + scalar_weights (trees_of others)
scalars_first ts t others e = rw e refl

pub scalar_weighed : (node : Node) → IsScalarValue node
    → scalar_weight (node_tree node) ≡ weight (node_tree node)
scalar_weighed nodes.Null scalar = refl
scalar_weighed (nodes.Boolean b) scalar = refl
scalar_weighed (nodes.Number x) scalar = refl
scalar_weighed (nodes.String s) scalar = refl
scalar_weighed (nodes.Extension x) scalar = refl
scalar_weighed (nodes.Container d) scalar = absurd (scalar d refl)
