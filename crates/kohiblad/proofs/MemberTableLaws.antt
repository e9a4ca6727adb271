-- A table of members finds the value of each key.
use Rattle.std.proofs.Common.{◌≡◌, ◌<◌, ◌≤◌, ℕ, zero, suc, List, [], ◌∷◌, length, refl, sym, ap}
use Rattle.std.proofs.Common.{◌∙◌, ◌++◌, Bor, arith, append_assoc, get_or, nat_lt, subst, add-one}
use Rattle.std.specs.Prelude.{true, false, Option, None, Some, Result, Ok, Err, MatchResult, map}
use Rattle.std.specs.Prelude.{IfOk, MatchOption, option_copied, option_map, slice_get}
use Rattle.std.specs.List.{HoldsAt}
use Rattle.std.proofs.lemmas.Option.{slice_get-get_or, slice_get_past}
use Rattle.std.specs.Cmp.Lexicographic.{slice_cmp, nat_list_cmp_total}
use Rattle.std.specs.declared.cmp.Ordering.TheVariants.{Less, Equal, Greater}
use Rattle.std.specs.List.Sorted.{IsBinarySearchResult, IsSearchInRange}
use Rattle.std.specs.Ordering.{is_lt, nat_cmp}
use Rattle.std.proofs.lemmas.List.Sorted.{searchable_from_sorted}
use Rattle.std.proofs.lemmas.Bool.{ltb-true, ltb-false}
use Rattle.std.proofs.lemmas.List.{append-nil, map-append}
use Rattle.jsonb_value.specs.Tree.{Ascend, Ascends, Tree, null, boolean, number, text, extension}
use Rattle.jsonb_value.specs.Tree.{array, object}
use Rattle.jsonb.specs.declared.node.Node.{Node}
use Rattle.jsonb.specs.Node.{members_of, node_tree, object_of, pairs_of, value_of_key}
use Rattle.jsonb_functions.specs.Picked.{AreSorted}
use Rattle.jsonb_functions.proofs.KeyOrder.{ascend_later, flipped, key_equal, met, passed}
use Rattle.kohiblad.specs.MemberTable.{AreMembersOf, IsTableOf}
use Rattle.kohiblad.specs.declared.member_table.MemberTable.{MemberTable}

abbrev Members : Type 0
Members = List (List ℕ × Tree)

abbrev Names : Type 0
Names = List (Bor (List ℕ))

abbrev AreKeysOf : Members → Names → Type 0
AreKeysOf ps keys = map (λ key. key.now) keys ≡ map (λ p. p.0) ps

-- Each key is below those after it.
above_first : (k : List ℕ) (keys : Names) (ps : Members) → AreKeysOf ps keys
    → Ascends (Some k) (pairs_of ps) → (j : ℕ) (d : Bor (List ℕ)) → j < length keys
    → slice_cmp nat_cmp k (get_or keys j d).now ≡ Less
above_first k [] ps e h j d low = absurd (omega (arith, low))
above_first k (x ∷ keys) [] e h j d low = absurd (cc)
above_first k (x ∷ keys) (p ∷ ps) e h zero d low =
    let same : x.now ≡ p.0 = cc in
    rw same h.0
above_first k (x ∷ keys) (p ∷ ps) e h (suc j) d low =
    let rest : AreKeysOf ps keys = cc in
    nat_list_cmp_total.trans k p.0 (get_or keys j d).now h.0
    (above_first p.0 keys ps rest h.1 j d (omega (arith, low)))

not_below : (a b : List ℕ) → slice_cmp nat_cmp a b ≡ Less → is_lt (slice_cmp nat_cmp b a) ≡ false
not_below a b e = ap is_lt (flipped a b Less e)

pub sorted_keys : (keys : Names) (ps : Members) → AreKeysOf ps keys → Ascend (pairs_of ps)
    → AreSorted keys
sorted_keys [] ps e h k d low high = absurd (omega (arith, high))
sorted_keys (x ∷ keys) [] e h k d low high = absurd (cc)
sorted_keys (x ∷ keys) (p ∷ ps) e h zero d low high =
    let same : x.now ≡ p.0 = cc in
    let rest : AreKeysOf ps keys = cc in
    not_below x.now (get_or keys 0 d).now
    (rw same (above_first p.0 keys ps rest h.1 0 d (omega (arith, high))))
sorted_keys (x ∷ keys) (p ∷ ps) e h (suc k) d low high =
    let rest : AreKeysOf ps keys = cc in
    rw add-one (rw add-one at (sorted_keys keys ps rest (ascend_later p.0 (pairs_of ps) h.1) k d
    (omega arith) (omega (arith, high))))

-- The value at the place of a key is that of the key.
found_there : (keys : Names) (values : List Node) (ps : Members) (name : Bor (List ℕ)) (i : ℕ)
    → AreKeysOf ps keys → map node_tree values ≡ map (λ p. p.1) ps → Ascend (pairs_of ps)
    → i < length keys → slice_cmp nat_cmp (get_or keys i name).now name.now ≡ Equal
    → option_map node_tree (slice_get values i) ≡ value_of_key name.now (object_of ps)
found_there [] values ps name i e f h low same = absurd (omega (arith, low))
found_there (x ∷ keys) values [] name i e f h low same = absurd (cc)
found_there (x ∷ keys) [] (p ∷ ps) name i e f h low same = absurd (cc)
found_there (x ∷ keys) (v ∷ values) (p ∷ ps) name zero e f h low same =
    let is : x.now ≡ p.0 = cc in
    let tree : node_tree v ≡ p.1 = cc in
    ap Some tree ∙ sym (met name.now p.0 p.1 (pairs_of ps) (rw is at same))
found_there (x ∷ keys) (v ∷ values) (p ∷ ps) name (suc i) e f h low same =
    let rest : AreKeysOf ps keys = cc in
    let others : map node_tree values ≡ map (λ p. p.1) ps = cc in
    let here : (get_or keys i name).now ≡ name.now = key_equal _ _ same in
    let later : slice_cmp nat_cmp p.0 name.now ≡ Less =
    subst (λ k. slice_cmp nat_cmp p.0 k ≡ Less) here
    (above_first p.0 keys ps rest h.1 i name (omega (arith, low))) in
    found_there keys values ps name i rest others (ascend_later p.0 (pairs_of ps) h.1)
    (omega (arith, low)) same
    ∙ sym (passed name.now p.0 p.1 (pairs_of ps) (λ equal.
    let never : Greater ≡ Equal = sym (flipped p.0 name.now Less later) ∙ equal in absurd (cc)))

nowhere : (keys : Names) (ps : Members) (name : Bor (List ℕ)) → AreKeysOf ps keys
    → ((j : ℕ) → j < length keys
    → slice_cmp nat_cmp (get_or keys j name).now name.now ≡ Equal → ⊥)
    → value_of_key name.now (object_of ps) ≡ None
nowhere keys [] name e h = refl
nowhere [] (p ∷ ps) name e h = absurd (cc)
nowhere (x ∷ keys) (p ∷ ps) name e h =
    let is : x.now ≡ p.0 = cc in
    let rest : AreKeysOf ps keys = cc in
    passed name.now p.0 p.1 (pairs_of ps) (λ equal. h 0 (omega arith)
    (rw is (flipped name.now p.0 Equal equal)))
    ∙ nowhere keys ps name rest (λ j low. h (suc j) (omega (arith, low)))

-- One more of what a walk passes is in a list.
pub passed_on : {A B C : Type 0} (f : A → B) (g : C → B) (xs new : List A) (x : A)
    (left others : List C) (y : C) (whole : List B) → new ≡ xs ++ x ∷ [] → left ≡ y ∷ others
    → f x ≡ g y → map f xs ++ map g left ≡ whole → map f new ++ map g others ≡ whole
passed_on f g xs new x left others y whole more e same h =
    ap (λ l. map f l ++ map g others) more
    ∙ ap (λ l. l ++ map g others) (map-append f xs (x ∷ []))
    ∙ append_assoc (map f xs) (f x ∷ []) (map g others)
    ∙ ap (λ z. map f xs ++ z ∷ map g others) same
    ∙ ap (λ l. map f xs ++ map g l) (sym e) ∙ h

pub passed_all : {A B C : Type 0} (f : A → B) (g : C → B) (xs : List A) (left : List C)
    (whole : List B) → left ≡ [] → map f xs ++ map g left ≡ whole → map f xs ≡ whole
passed_all f g xs left whole e h =
    sym (append-nil (map f xs)) ∙ ap (λ l. map f xs ++ map g l) (sym e) ∙ h

-- What a search among the keys finds.
pub table_finds : (t : Tree) (table : MemberTable) (name : Bor (List ℕ)) (r : Result ℕ ℕ)
    → IsTableOf t table → IsSearchInRange r (length table.keys.items)
    → IsBinarySearchResult (λ y. slice_cmp nat_cmp y.now name.now) table.keys.items r
    → MatchResult r (λ i. option_map node_tree (slice_get table.values.items i)
    ≡ value_of_key name.now t) (λ i. None ≡ value_of_key name.now t)
table_finds t table name (Ok i) (ps, (are, (ascend, same))) range found =
    found_there table.keys.items table.values.items ps name i are.keys are.values ascend range
    (found name) ∙ same name.now
table_finds t table name (Err i) (ps, (are, (ascend, same))) range found =
    let sorted = sorted_keys table.keys.items ps are.keys ascend in
    let (less, more) =
    found (searchable_from_sorted nat_list_cmp_total (λ (y : Bor (List ℕ)). y.now)
    table.keys.items name.now sorted) in
    sym (nowhere table.keys.items ps name are.keys (λ j low equal. no (nat_lt j i) refl
    (λ before. less j name (omega arith) before) (λ from. more j name from low) equal))
    ∙ same name.now
  where
    no : {j : ℕ} {o : _} (b : _) → nat_lt j i ≡ b → (j < i → o ≡ Less) → (i ≤ j → o ≡ Greater)
        → o ≡ Equal → ⊥
    no {j} true e below above equal =
        let never : Less ≡ Equal = sym (below (ltb-true j i e)) ∙ equal in absurd (cc)
    no {j} false e below above equal =
        let never : Greater ≡ Equal = sym (above (ltb-false j i e)) ∙ equal in absurd (cc)

-- A tree that is no object has no members.
pub no_members : (t : Tree) → None ≡ members_of t → (name : List ℕ)
    → value_of_key name (object_of []) ≡ value_of_key name t
no_members null e name = refl
no_members (boolean b) e name = refl
no_members (number x) e name = refl
no_members (text s) e name = refl
no_members (extension x) e name = refl
no_members (array ts) e name = refl
no_members (object ps) e name = absurd (cc)

-- The table of an object's members, and the empty one of any other tree.
pub table_of : {E : Type 0} (r : Result MemberTable E) (t : Tree) (ps : Members) → t ≡ object_of ps
    → Ascend (pairs_of ps) → IfOk r (AreMembersOf ps) → IfOk r (IsTableOf t)
table_of (Ok table) t ps is ascend are =
    (ps, (are, (ascend, λ name. ap (λ u. value_of_key name u) (sym is))))
table_of (Err e) t ps is ascend are = tt

pub empty_table : (t : Tree) (table : MemberTable) → None ≡ members_of t
    → table.keys.items ≡ [] → table.values.items ≡ [] → IsTableOf t table
empty_table t table none no_keys no_values = (
  [],
  (
    record {
      keys = ap (λ l. map (λ key. key.now) l) no_keys;
      values = ap (λ l. map node_tree l) no_values;
    },
    (tt, λ name. no_members t none name),
  ),
)

-- What is read at a place.
pub read_at : {A : Type 0} (r : Option (Bor A)) (xs : List A) (i : ℕ)
    → MatchOption r (length xs ≤ i) (λ x. (i < length xs) × HoldsAt (λ y. x.now ≡ y) xs i)
    → option_copied r ≡ slice_get xs i
read_at None xs i past = sym (slice_get_past xs i past)
read_at (Some x) xs i (low, here) =
    sym (slice_get-get_or xs i x.now low ∙ ap Some (sym (here x.now)))
