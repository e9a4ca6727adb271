-- What a document is written as without the members that are null.
use Rattle.std.proofs.Common.{◌≡◌, ◌≢◌, ℕ, List, true, false, refl, ap, arith}
use Rattle.jsonb_value.specs.Tree as trees
use Rattle.jsonb_value.specs.Tree.{Tree, null, boolean, number, text, extension, array, object}
use Rattle.jsonb_value.specs.Tree.{Trees, no_trees, tree, Pairs, pair}
use Rattle.jsonb_codec.specs.declared.constants.TheConstants.{NULL_TAG, CONTAINER_TAG}
use Rattle.jsonb_codec.specs.Doc.{type_of}
use Rattle.jsonb_functions.specs.Stripped.{stripped, items_stripped, members_stripped}

-- ---- members that are null

pub null_by_type : (t : Tree) → type_of t ≡ NULL_TAG → t ≡ null
null_by_type null e = refl
null_by_type (boolean true) e = absurd (omega (arith, e))
null_by_type (boolean false) e = absurd (omega (arith, e))
null_by_type (number x) e = absurd (omega (arith, e))
null_by_type (text s) e = absurd (omega (arith, e))
null_by_type (extension x) e = absurd (omega (arith, e))
null_by_type (array ts) e = absurd (omega (arith, e))
null_by_type (object ps) e = absurd (omega (arith, e))

pub kept_pair : (k : List ℕ) (t : Tree) (ps : Pairs) → t ≢ null
    → members_stripped (pair k t ps) ≡ pair k (stripped t) (members_stripped ps)
kept_pair k null ps h = absurd (h refl)
kept_pair k (boolean b) ps h = refl
kept_pair k (number x) ps h = refl
kept_pair k (text s) ps h = refl
kept_pair k (extension x) ps h = refl
kept_pair k (array ts) ps h = refl
kept_pair k (object qs) ps h = refl

pub left_out : (ps others : Pairs) (k : List ℕ) (t : Tree) → ps ≡ pair k t others
    → type_of t ≡ NULL_TAG → members_stripped ps ≡ members_stripped others
left_out ps others k t e n = rw (e, null_by_type t n) refl

pub kept_first : (ps others : Pairs) (k : List ℕ) (t : Tree) → ps ≡ pair k t others
    → (type_of t ≡ NULL_TAG → ⊥)
    → members_stripped ps ≡ pair k (stripped t) (members_stripped others)
kept_first ps others k t e h = rw e (kept_pair k t others (λ n. h (ap type_of n)))

-- ---- what is written

pub scalar_stripped : (t : Tree) → (type_of t ≡ CONTAINER_TAG → ⊥) → stripped t ≡ t
scalar_stripped (array ts) h = absurd (h refl)
scalar_stripped (object ps) h = absurd (h refl)
scalar_stripped null h = refl
scalar_stripped (boolean b) h = refl
scalar_stripped (number x) h = refl
scalar_stripped (text s) h = refl
scalar_stripped (extension x) h = refl

pub count_stripped : (ts : Trees) → trees.count (items_stripped ts) ≡ trees.count ts
count_stripped no_trees = refl
count_stripped (tree t ts) = omega (arith, count_stripped ts)
