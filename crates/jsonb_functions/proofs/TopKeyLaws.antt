-- A key that exists has its hash among those of the document, and how the hashes are appended.
use Rattle.std.proofs.Common.{◌≡◌, ◌++◌, ℕ, List, [], ◌∷◌, refl, sym, ap, ◌∙◌, append_assoc, inl}
use Rattle.std.proofs.Common.{inr}
use Rattle.std.specs.Prelude.{Bool, true, false, ◌⊎◌, if◌then◌else◌, Option, Some, length, nat_eq}
use Rattle.std.specs.Prelude.{◌==◌, ◌&&◌}
use Rattle.std.specs.Cmp.Lexicographic.{pointwise}
use Rattle.jsonb_value.specs.Tree.{Tree, null, boolean, number, text, extension, array, object}
use Rattle.jsonb_value.specs.Tree.{Trees, no_trees, tree, Pairs, no_pairs, pair}
use Rattle.jsonb_value.specs.Value.{trees_of}
use Rattle.std.proofs.Common.{arith, Bor}
use Rattle.jsonb_codec.specs.declared.constants.TheConstants.{CONTAINER_TAG}
use Rattle.jsonb_codec.specs.Doc.{type_of}
use Rattle.jsonb.specs.declared.node.Node.{Node}
use Rattle.jsonb.specs.declared.node.Node.TheVariants as nodes
use Rattle.jsonb.specs.Document.{document_tree}
use Rattle.jsonb.specs.Node.{value_of_key, pairs_of, array_of, object_of, node_tree, HoldsNoScalar}
use Rattle.jsonb_functions.specs.Contains.{contained, some_tree, is_there, has_top_key}
use Rattle.jsonb_functions.specs.IndexHash.{IsAmong}
use Rattle.jsonb_functions.specs.TopKeys.{hash_of_key, text_hashes, item_hashes, member_hashes}
use Rattle.jsonb_functions.specs.TopKeys.{top_hashes}
use Rattle.jsonb_functions.proofs.IndexLaws.{both, one_is, are_equal, same_key}
use Rattle.jsonb_functions.proofs.KeyOrder.{key_equal}

among_first : (h : ℕ) (xs ys : List ℕ) → IsAmong h xs → IsAmong h (xs ++ ys)
among_first h [] ys i = absurd i
among_first h (x ∷ xs) ys (inl e) = inl e
among_first h (x ∷ xs) ys (inr i) = inr (among_first h xs ys i)

among_second : (h : ℕ) (xs ys : List ℕ) → IsAmong h ys → IsAmong h (xs ++ ys)
among_second h [] ys i = i
among_second h (x ∷ xs) ys i = inr (among_second h xs ys i)

text_there : (t : Tree) (k : List ℕ) → contained (text k) t ≡ true
    → IsAmong (hash_of_key k) (text_hashes t)
text_there (text s) k h =
    let same : s ≡ k = key_equal s k (are_equal _ h) in inl (ap hash_of_key (sym same))
text_there null k h = absurd (cc)
text_there (boolean b) k h = absurd (cc)
text_there (number x) k h = absurd (cc)
text_there (extension x) k h = absurd (cc)
text_there (array ts) k h = absurd (cc)
text_there (object ps) k h = absurd (cc)

item_at : (k : List ℕ) (t : Tree) (ts : Trees)
    → IsAmong (hash_of_key k) (text_hashes t) ⊎ IsAmong (hash_of_key k) (item_hashes ts)
    → IsAmong (hash_of_key k) (item_hashes (tree t ts))
item_at k t ts (inl i) = among_first (hash_of_key k) (text_hashes t) (item_hashes ts) i
item_at k t ts (inr i) = among_second (hash_of_key k) (text_hashes t) (item_hashes ts) i

item_there : (k : List ℕ) (ts : Trees) → some_tree (λ t. contained (text k) t) ts ≡ true
    → IsAmong (hash_of_key k) (item_hashes ts)
item_there k no_trees h = absurd (cc)
item_there k (tree t ts) h =
    item_at k t ts (one_is (contained (text k) t) (some_tree (λ u. contained (text k) u) ts) h
    (text_there t k) (item_there k ts))

there_at : (b : Bool) (t : Tree) (rest : Option Tree)
    → is_there (if b then Some t else rest) ≡ true → (b ≡ true) ⊎ (is_there rest ≡ true)
there_at true t rest h = inl refl
there_at false t rest h = inr h

member_at : (k j : List ℕ) (t : Tree) (ps : Pairs)
    → (((length j == length k) && pointwise nat_eq k j) ≡ true)
    ⊎ (is_there (value_of_key k (object ps)) ≡ true)
    → (is_there (value_of_key k (object ps)) ≡ true → IsAmong (hash_of_key k) (member_hashes ps))
    → IsAmong (hash_of_key k) (member_hashes (pair j t ps))
member_at k j t ps (inl e) later = inl (ap hash_of_key (same_key k j (both _ _ e).1))
member_at k j t ps (inr h) later = inr (later h)

member_there : (k : List ℕ) (ps : Pairs) → is_there (value_of_key k (object ps)) ≡ true
    → IsAmong (hash_of_key k) (member_hashes ps)
member_there k no_pairs h = absurd (cc)
member_there k (pair j t ps) h =
    member_at k j t ps (there_at _ t (value_of_key k (object ps)) h) (member_there k ps)

pub exists_hash : (t : Tree) (k : List ℕ) → has_top_key k t ≡ true
    → IsAmong (hash_of_key k) (top_hashes t)
exists_hash (array ts) k h = item_there k ts h
exists_hash (object ps) k h = member_there k ps h
exists_hash (text s) k h = text_there (text s) k h
exists_hash null k h = text_there null k h
exists_hash (boolean b) k h = text_there (boolean b) k h
exists_hash (number x) k h = text_there (number x) k h
exists_hash (extension x) k h = text_there (extension x) k h

pub names_on : (left others : List (List ℕ × Tree)) (k : List ℕ) (t : Tree)
    (now new all : List ℕ) → left ≡ (k, t) ∷ others → new ≡ now ++ (hash_of_key k ∷ [])
    → now ++ member_hashes (pairs_of left) ≡ all → new ++ member_hashes (pairs_of others) ≡ all
names_on left others k t now new all e step going =
    rw step (append_assoc now (hash_of_key k ∷ []) (member_hashes (pairs_of others))
    ∙ ap (λ x. now ++ member_hashes (pairs_of x)) (sym e) ∙ going)

no_text_in : (t : Tree) → type_of t ≡ CONTAINER_TAG → [] ≡ text_hashes t
no_text_in null e = refl
no_text_in (boolean b) e = refl
no_text_in (number x) e = refl
no_text_in (text s) e = absurd (omega (arith, e))
no_text_in (extension x) e = refl
no_text_in (array ts) e = refl
no_text_in (object ps) e = refl

-- A value that is not a text has no hash.
pub no_text : (node : Node) → ((s : Bor (List ℕ)) → node ≡ nodes.String s → ⊥)
    → HoldsNoScalar node → [] ≡ text_hashes (node_tree node)
no_text nodes.Null h c = refl
no_text (nodes.Boolean b) h c = refl
no_text (nodes.Number x) h c = refl
no_text (nodes.String s) h c = absurd (h s refl)
no_text (nodes.Extension x) h c = refl
no_text (nodes.Container d) h c = no_text_in (document_tree d) c

pub array_top : (t : Tree) (ts : List Tree) → t ≡ array_of ts
    → item_hashes (trees_of ts) ≡ top_hashes t
array_top t ts e = rw e refl

pub object_top : (t : Tree) (ps : List (List ℕ × Tree)) → t ≡ object_of ps
    → member_hashes (pairs_of ps) ≡ top_hashes t
object_top t ps e = rw e refl
