-- A member that is inserted into a map, and templates that are left.
use Rattle.std.proofs.Common.{◌≡◌, ◌<◌, ◌+◌, ◌++◌, ◌∙◌, ℕ, suc, List, [], ◌∷◌, length, refl, sym, ap}
use Rattle.std.proofs.Common.{add-one, drop, drop-cons, map, subst}
use Rattle.std.specs.Prelude.{Result, Ok, slice_index_or, String, string_bytes, string_cmp}
use Rattle.std.proofs.lemmas.List.{map-append}
use Rattle.std.specs.declared.alloc.Global.{Global}
use Rattle.std.specs.declared.cmp.Ordering.{Ordering}
use Rattle.std.specs.declared.cmp.Ordering.TheVariants.{Less, Equal, Greater}
use Rattle.std.specs.Ordering.{match_ordering, ordering_reverse}
use Rattle.std.specs.BTreeMap.{insert_entry}
use Rattle.jsonb_value.specs.Tree.{Pairs, pair}
use Rattle.jsonb_value.specs.Value.{pairs_view, tree_of}
use Rattle.jsonb_value.specs.declared.value.Value.{Value}
use Rattle.jsonb_functions.specs.Joined.{put_beside, with_key}
use Rattle.jsonb_functions.proofs.KeyOrder.{flipped, key_equal}
use Rattle.jsonb_path.specs.declared.path.PathError.{PathError}
use Rattle.kohiblad_shell.specs.declared.outcome.Unanswered.{Unanswered}
use Rattle.kohiblad_shell.specs.declared.outcome.Unanswered.TheVariants.{OutOfMemory, Wrong}
use Rattle.kohiblad_shell.specs.declared.template.Template.{Template}
use Rattle.kohiblad_shell.specs.Templates.{IsStoppedBy, Values, all_after, member_views}
use Rattle.kohiblad_shell.specs.Templates.{members_after, one_value}

pairs_at : (o : Ordering) (k : String Global) (v : Value) (e : String Global × Value)
    (es later : List (String Global × Value)) → string_cmp k e.0 ≡ o
    → pairs_view later ≡ with_key (string_bytes k) (tree_of v) (pairs_view es)
    → pairs_view (match_ordering o ((k, v) ∷ e ∷ es) ((e.0, v) ∷ es) (e ∷ later))
    ≡ put_beside (ordering_reverse o) (string_bytes k) (tree_of v) (string_bytes e.0)
    (tree_of e.1) (pairs_view es) (with_key (string_bytes k) (tree_of v) (pairs_view es))
pairs_at Less k v e es later is rest = refl
pairs_at Equal k v e es later is rest =
    ap (λ j. pair j (tree_of v) (pairs_view es))
    (sym (key_equal (string_bytes k) (string_bytes e.0) is))
pairs_at Greater k v e es later is rest = ap (pair (string_bytes e.0) (tree_of e.1)) rest

-- a member that is inserted is put among the pairs
pub pairs_inserted : (es : List (String Global × Value)) (k : String Global) (v : Value)
    → pairs_view (insert_entry string_cmp es k v)
    ≡ with_key (string_bytes k) (tree_of v) (pairs_view es)
pairs_inserted [] k v = refl
pairs_inserted (e ∷ es) k v =
    let o = string_cmp k e.0 in
    rw (flipped (string_bytes k) (string_bytes e.0) o refl)
    (pairs_at o k v e es (insert_entry string_cmp es k v) refl (pairs_inserted es k v))

-- the next of what is left of a list
pub next_left : {A : Type 0} (xs ys : List A) (i : ℕ) (x : A) → xs ≡ ys → i < length xs
    → x ≡ slice_index_or xs i x → drop i ys ≡ x ∷ drop (i + 1) ys
next_left xs ys i x same low is =
    subst (λ zs. drop i zs ≡ x ∷ drop (i + 1) zs) same
    (drop-cons xs i x low ∙ ap (λ y. y ∷ drop (suc i) xs) (sym is)
    ∙ ap (λ n. x ∷ drop n xs) (sym (add-one i)))

-- one more template gave its values
pub items_more : (given : Template → Values) (all : List Template) (i : ℕ) (x : Template)
    (vs ms ws : List Value) {goal : Values} → drop i all ≡ x ∷ drop (i + 1) all
    → given x ≡ Ok (map tree_of ms) → ws ≡ vs ++ ms
    → goal ≡ all_after (map tree_of vs) (map given (drop i all))
    → goal ≡ all_after (map tree_of ws) (map given (drop (i + 1) all))
items_more given all i x vs ms ws at is more before =
    rw (more, map-append tree_of vs ms) (before ∙ rw (at, is) refl)

-- a path of the next template is given up
pub items_stop : (given : Template → Values) (all : List Template) (i : ℕ) (x : Template)
    (vs : List Value) (u : Unanswered) {goal : Values} → drop i all ≡ x ∷ drop (i + 1) all
    → IsStoppedBy (given x) u
    → goal ≡ all_after (map tree_of vs) (map given (drop i all)) → IsStoppedBy goal u
items_stop given all i x vs (Wrong fault) at (e, (is, same)) before =
    (e, (before ∙ rw (at, is) refl, same))
items_stop given all i x vs OutOfMemory at is before = tt

abbrev Members : Type 0
Members = List (String Global × Template)

-- one more template gave its one value
pub members_more : (given : Template → Values) (all : Members) (i : ℕ)
    (x : String Global × Template) (k : String Global) (v : Value)
    (es new : List (String Global × Value)) {goal : Result Pairs PathError}
    → drop i all ≡ x ∷ drop (i + 1) all → string_bytes k ≡ string_bytes x.0
    → one_value (given x.1) ≡ Ok (tree_of v)
    → pairs_view new ≡ with_key (string_bytes k) (tree_of v) (pairs_view es)
    → goal ≡ members_after (pairs_view es) (member_views given (drop i all))
    → goal ≡ members_after (pairs_view new) (member_views given (drop (i + 1) all))
members_more given all i x k v es new at key is more before =
    rw (more, key) (before ∙ rw (at, is) refl)

-- a path of the next member is given up
pub members_stop : (given : Template → Values) (all : Members) (i : ℕ)
    (x : String Global × Template) (es : List (String Global × Value)) (u : Unanswered)
    {goal : Result Pairs PathError} → drop i all ≡ x ∷ drop (i + 1) all
    → IsStoppedBy (one_value (given x.1)) u
    → goal ≡ members_after (pairs_view es) (member_views given (drop i all))
    → IsStoppedBy goal u
members_stop given all i x es (Wrong fault) at (e, (is, same)) before =
    (e, (before ∙ rw (at, is) refl, same))
members_stop given all i x es OutOfMemory at is before = tt
