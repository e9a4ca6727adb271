-- Building a list from its front: the part that was built, and the rest.
use Rattle.std.proofs.Common.{◌≡◌, ℕ, List, [], ◌∷◌, ◌++◌, Option, Some, None, Result, Ok, Err}
use Rattle.std.proofs.Common.{IfOk, refl, sym, ap, subst, ◌∙◌}
use Rattle.std.specs.Prelude.{String, map, string_bytes, string_cmp}
use Rattle.std.specs.declared.alloc.Global.{Global}
use Rattle.std.specs.declared.cmp.Ordering.TheVariants.{Less, Greater}
use Rattle.std.specs.Ordering.{nat_cmp, ordering_reverse}
use Rattle.std.specs.Cmp.Lexicographic.{slice_cmp}
use Rattle.std.proofs.lemmas.Cmp.{nat_list_cmp_total}
use Rattle.std.proofs.lemmas.List.{map-append}
use Rattle.std.specs.BTreeMap.{insert_entry}
use Rattle.jsonb_value.specs.declared.value.Value.{Value}
use Rattle.jsonb_value.specs.declared.error.Error.{Error}
use Rattle.jsonb_value.specs.Tree.{Tree, Trees, no_trees, tree, Pairs, no_pairs, pair, Ascends}
use Rattle.jsonb_value.specs.Tree.{Ascend}
use Rattle.jsonb_value.specs.Value.{trees_of, string_pairs, tree_of}
use Rattle.jsonb_codec.specs.Doc.{Doc, IsDocument}
use Rattle.jsonb_codec.specs.Parts.{IsPayloadOf}
use Rattle.jsonb_codec.proofs.Unique.{same_tree}

-- these trees, followed by others
abbrev pub trees_and : List Tree → Trees → Trees
trees_and [] ts = ts
trees_and (u ∷ us) ts = tree u (trees_and us ts)

pub trees_and-none : (us : List Tree) → trees_and us no_trees ≡ trees_of us
trees_and-none [] = refl
trees_and-none (u ∷ us) = ap (tree u) (trees_and-none us)

pub trees_and-append : (us : List Tree) (u : Tree) (ts : Trees)
    → trees_and (us ++ (u ∷ [])) ts ≡ trees_and us (tree u ts)
trees_and-append [] u ts = refl
trees_and-append (v ∷ us) u ts = ap (tree v) (trees_and-append us u ts)

-- these pairs, followed by others
abbrev pub pairs_and : List (String Global × Tree) → Pairs → Pairs
pairs_and [] qs = qs
pairs_and (p ∷ ps) qs = pair (string_bytes p.0) p.1 (pairs_and ps qs)

pub pairs_and-none : (ps : List (String Global × Tree)) → pairs_and ps no_pairs ≡ string_pairs ps
pairs_and-none [] = refl
pairs_and-none (p ∷ ps) = ap (pair (string_bytes p.0) p.1) (pairs_and-none ps)

pub pairs_and-append : (ps : List (String Global × Tree)) (p : String Global × Tree) (qs : Pairs)
    → pairs_and (ps ++ (p ∷ [])) qs ≡ pairs_and ps (pair (string_bytes p.0) p.1 qs)
pairs_and-append [] p qs = refl
pairs_and-append (o ∷ ps) p qs = ap (pair (string_bytes o.0) o.1) (pairs_and-append ps p qs)

-- a key is greater than every key before it
below : (b k : List ℕ) (es : List (String Global × Tree)) (t : Tree) (qs : Pairs)
    → Ascends (Some b) (pairs_and es (pair k t qs)) → slice_cmp nat_cmp b k ≡ Less
below b k [] t qs h = h.0
below b k (e ∷ es) t qs h =
    nat_list_cmp_total.trans b (string_bytes e.0) k h.0 (below (string_bytes e.0) k es t qs h.1)

above : (b k : List ℕ) → slice_cmp nat_cmp b k ≡ Less → slice_cmp nat_cmp k b ≡ Greater
above b k h = nat_list_cmp_total.antisymm k b ∙ ap ordering_reverse h

-- inserting a key greater than all others appends it
pub insert_entry-append : (before : Option (List ℕ)) (es : List (String Global × Value))
    (k : String Global) (v : Value) (t : Tree) (qs : Pairs)
    → Ascends before (pairs_and (map (λ m. (m.0, tree_of m.1)) es) (pair (string_bytes k) t qs))
    → insert_entry string_cmp es k v ≡ es ++ ((k, v) ∷ [])
insert_entry-append before [] k v t qs h = refl
insert_entry-append before (e ∷ es) k v t qs h =
    let last = above (string_bytes e.0) (string_bytes k)
    (below (string_bytes e.0) (string_bytes k) (map (λ m. (m.0, tree_of m.1)) es) t qs h.1) in
    rw (last, insert_entry-append (Some (string_bytes e.0)) es k v t qs h.1)

-- bytes of one type mean one tree
pub meant : (ty : ℕ) (p : List ℕ) (t u : Tree) → IsPayloadOf ty p t → IsPayloadOf ty p u → t ≡ u
meant ty p t u h k = same_tree t u (h.0 ∙ sym k.0) p h.1 k.1

-- one more value was appended
pub trees_and-push : (vs : List Value) (v : Value) {ws : List Value} {ts us others : Trees}
    {first : Tree} → ts ≡ trees_and (map tree_of vs) us → us ≡ tree first others → tree_of v ≡ first
    → ws ≡ vs ++ (v ∷ []) → ts ≡ trees_and (map tree_of ws) others
trees_and-push vs v {others = others} whole are same more =
    cc (trees_and-append (map tree_of vs) (tree_of v) others, map-append tree_of vs (v ∷ []))

-- the pairs of a map, with the trees of their values
abbrev pub seen : List (String Global × Value) → List (String Global × Tree)
seen ms = map (λ m. (m.0, tree_of m.1)) ms

-- one more pair was appended
pub pairs_and-later : (vs : List (String Global × Value)) (k : String Global) (v : Value)
    {ws : List (String Global × Value)} {ps us others : Pairs} {key : List ℕ} {value : Tree}
    → ps ≡ pairs_and (seen vs) us → us ≡ pair key value others → string_bytes k ≡ key
    → tree_of v ≡ value → ws ≡ vs ++ ((k, v) ∷ []) → ps ≡ pairs_and (seen ws) others
pairs_and-later vs k v {others = others} whole are is same more =
    cc (
      pairs_and-append (seen vs) (k, tree_of v) others,
      map-append {B = String Global × Tree} (λ m. (m.0, tree_of m.1)) vs ((k, v) ∷ []),
    )

-- one more pair was inserted into a map, after all others
pub pairs_and-push : (vs : List (String Global × Value)) (k : String Global) (v : Value)
    {ws : List (String Global × Value)} {ps us others : Pairs} {key : List ℕ} {value : Tree}
    → Ascend ps
    → ps ≡ pairs_and (seen vs) us → us ≡ pair key value others → string_bytes k ≡ key
    → tree_of v ≡ value → ws ≡ insert_entry string_cmp vs k v → ps ≡ pairs_and (seen ws) others
pairs_and-push vs k v {ps = ps} {others = others} ascend whole are is same more =
    let front : ps ≡ pairs_and (seen vs) (pair (string_bytes k) (tree_of v) others) = cc in
    let last = insert_entry-append None vs k v (tree_of v) others (subst Ascend front ascend) in
    pairs_and-later vs k v whole are is same (more ∙ last)

-- the decoded value is the tree of the document
pub the_tree : (a b : List ℕ) (r : Result Value Error) → a ≡ b → IsDocument b
    → IfOk r (λ v. (t : Tree) → Doc a t → tree_of v ≡ t) → IfOk r (λ v. Doc b (tree_of v))
the_tree a b (Ok v) is (t, h) same =
    rw (same t (subst (λ x. Doc x t) (sym is) h)) h
the_tree a b (Err e) is doc same = tt
