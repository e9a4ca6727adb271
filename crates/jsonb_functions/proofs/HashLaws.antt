-- The hashes of index keys are those of the parts of a tree.
use Rattle.std.proofs.Common.{◌≡◌, ◌++◌, ℕ, List, [], ◌∷◌, map, refl, sym, ap, ◌∙◌, append_assoc}
use Rattle.std.proofs.Common.{inl, inr, true}
use Rattle.jsonb_value.specs.Tree.{Tree}
use Rattle.jsonb_value.specs.Value.{trees_of}
use Rattle.jsonb.specs.declared.document.Document.{Document}
use Rattle.jsonb.specs.declared.node.Node.{Node}
use Rattle.jsonb.specs.declared.node.Node.TheVariants as nodes
use Rattle.jsonb.specs.Node.{array_of, object_of, pairs_of, node_tree}
use Rattle.jsonb_comparable.specs.Escaped.{escaped}
use Rattle.jsonb_comparable.specs.TreeKey.{tree_key}
use Rattle.jsonb_value.specs.WellFormed.{IsTree}
use Rattle.jsonb_comparable.proofs.KeyLaws.{keys_equal}
use Rattle.jsonb_functions.specs.Contains.{contains_whole}
use Rattle.jsonb_functions.specs.IndexKeys.{index_keys, members_keys, IsIn}
use Rattle.jsonb_functions.specs.IndexHash.{hash_from, hash_64, tree_hashes, items_hashes}
use Rattle.jsonb_functions.specs.IndexHash.{members_hashes, IsAmong, AreAmong}
use Rattle.jsonb_functions.proofs.IndexLaws.{whole_keys}
use Rattle.jsonb_functions.specs.HashSink.{hash_joined}

pub array_hashes : (p : List ℕ) (t : Tree) (ts : List Tree) → t ≡ array_of ts
    → items_hashes p (trees_of ts) ≡ tree_hashes p t
array_hashes p t ts e = rw e refl

pub object_hashes : (p : List ℕ) (t : Tree) (ps : List (List ℕ × Tree)) → t ≡ object_of ps
    → members_hashes p (pairs_of ps) ≡ tree_hashes p t
object_hashes p t ps e = rw e refl

scalar_hashes : (p : List ℕ) (node : Node) → ((d : Document) → node ≡ nodes.Container d → ⊥)
    → tree_hashes p (node_tree node) ≡ hash_64 (p ++ (0 ∷ tree_key (node_tree node))) ∷ []
scalar_hashes p nodes.Null h = refl
scalar_hashes p (nodes.Boolean b) h = refl
scalar_hashes p (nodes.Number x) h = refl
scalar_hashes p (nodes.String s) h = refl
scalar_hashes p (nodes.Extension x) h = refl
scalar_hashes p (nodes.Container d) h = absurd (h d refl)

-- The hash of a scalar's index key, hashed in three parts.
pub scalar_hashed : (p : List ℕ) (node : Node) (path first last : ℕ)
    → ((d : Document) → node ≡ nodes.Container d → ⊥) → path ≡ hash_64 p
    → first ≡ hash_from path (0 ∷ []) → last ≡ hash_from first (tree_key (node_tree node))
    → last ∷ [] ≡ tree_hashes p (node_tree node)
scalar_hashed p node path first last h is one two =
    let key = tree_key (node_tree node) in
    let whole : last ≡ hash_64 (p ++ (0 ∷ key)) =
    two ∙ ap (λ x. hash_from x key) (one ∙ ap (λ x. hash_from x (0 ∷ [])) is)
    ∙ sym (hash_joined p (0 ∷ key) 14695981039346656037) in
    ap (λ x. x ∷ []) whole ∙ sym (scalar_hashes p node h)

pub map_joined : {A B : Type 0} (f : A → B) (xs ys : List A) → map f (xs ++ ys)
    ≡ map f xs ++ map f ys
map_joined f [] ys = refl
map_joined f (x ∷ xs) ys = ap (λ zs. f x ∷ zs) (map_joined f xs ys)

-- What was appended, followed by the hashes of the members that are left, after one of them.
pub members_on : (p : List ℕ) (left others : List (List ℕ × Tree)) (key : List ℕ) (t : Tree)
    (path hashed : ℕ) (now new all : List ℕ) → left ≡ (key, t) ∷ others → path ≡ hash_64 p
    → hashed ≡ hash_from path (escaped key)
    → ((q : List ℕ) → hashed ≡ hash_64 q → new ≡ now ++ tree_hashes q t)
    → now ++ members_hashes p (pairs_of left) ≡ all
    → new ++ members_hashes p (pairs_of others) ≡ all
members_on p left others key t path hashed now new all e is step appended going =
    let q = p ++ escaped key in
    let at : hashed ≡ hash_64 q =
    step ∙ ap (λ x. hash_from x (escaped key)) is
    ∙ sym (hash_joined p (escaped key) 14695981039346656037) in
    let more : members_hashes p (pairs_of left)
    ≡ tree_hashes q t ++ members_hashes p (pairs_of others) =
    rw e (map_joined hash_64 (index_keys escaped tree_key q t)
    (members_keys escaped tree_key p (pairs_of others))) in
    rw (appended q at) (append_assoc now (tree_hashes q t) (members_hashes p (pairs_of others))
    ∙ ap (λ x. now ++ x) (sym more) ∙ going)

-- Hashes of keys that are among others are among theirs.
hash_of : (h : ℕ) (xs : List (List ℕ)) → IsAmong h (map hash_64 xs)
    → (x : List ℕ) × ((h ≡ hash_64 x) × IsIn x xs)
hash_of h [] i = absurd i
hash_of h (x ∷ xs) (inl e) = (x, (e, inl refl))
hash_of h (x ∷ xs) (inr i) = let (y, (e, j)) = hash_of h xs i in (y, (e, inr j))

hash_in : (h : ℕ) (x : List ℕ) (xs : List (List ℕ)) → h ≡ hash_64 x → IsIn x xs
    → IsAmong h (map hash_64 xs)
hash_in h x [] e i = absurd i
hash_in h x (y ∷ ys) e (inl same) = inl (e ∙ ap hash_64 same)
hash_in h x (y ∷ ys) e (inr i) = inr (hash_in h x ys e i)

-- What a document contains has no index key that the document has not.
pub contained_hashes : (t u : Tree) → IsTree t → IsTree u → contains_whole t u ≡ true
    → AreAmong (tree_hashes [] u) (tree_hashes [] t)
contained_hashes t u it iu h n i =
    let (x, (e, among)) = hash_of n (index_keys escaped tree_key [] u) i in
    hash_in n x (index_keys escaped tree_key [] t) e
    (whole_keys escaped tree_key (λ v w iv iw same. (keys_equal v w iv iw).1 same) t u it iu h x
    among)
