-- Inserting members one by one gives the same object as building a map from all of them.
use Rattle.std.proofs.Common.{arith}
use Rattle.std.proofs.Common.{◌≡◌, List, [], ◌∷◌, ◌++◌, Bool, true, false, cond, Option, None}
use Rattle.std.proofs.Common.{Some, String, Global, refl, sym, ap, subst, ◌∙◌}
use Rattle.std.specs.String.{string_bytes, string_cmp, string_cmp_total}
use Rattle.std.specs.Ordering.{eq_by_cmp, is_eq, match_ordering, ordering_reverse}
use Rattle.std.specs.declared.cmp.Ordering.{Ordering}
use Rattle.std.specs.declared.cmp.Ordering.TheVariants.{Less, Equal, Greater}
use Rattle.std.specs.List.{AllByRecursion}
use Rattle.std.specs.List.Sorted.{IsStrictlySortedBy}
use Rattle.std.specs.Map.{keys_of, lookup, update, update_all}
use Rattle.std.specs.BTreeMap.{BTreeMap, insert_entry, is_at, IsFromIterResult}
use Rattle.std.proofs.lemmas.Cmp.{eq_by_cmp_equiv, tied_itself}
use Rattle.std.proofs.lemmas.List.Sums.{fold-append}
use Rattle.std.proofs.lemmas.Map.Keys.{IsDistinct-from_sorted, sorted_tail}
use Rattle.std.proofs.lemmas.Map.Lookups.{exact_bytes}
use Rattle.std.proofs.lemmas.Map.Made.{update_all_none}
use Rattle.jsonb_value.specs.declared.value.Value.{Value}
use Rattle.jsonb_value.specs.Reader.Content.{with_members}
use Rattle.jsonb_value.specs.Value.{pairs_view}
use Rattle.std.proofs.lemmas.Bool.{cases_Bool}
use Rattle.std.proofs.lemmas.Map.{lookup-none}
use Rattle.std.proofs.lemmas.Map.Entries.{lookup_head, lookup_tail, none_past_head, none_below_head}

abbrev Held : Type 0
Held = List (String Global × Value)

-- appending one more member inserts it last
pub with_members-push : (es ms : Held) (k : String Global) (v : Value)
    → with_members es (ms ++ (k, v) ∷ []) ≡ insert_entry string_cmp (with_members es ms) k v
with_members-push es [] k v = refl
with_members-push es (m ∷ ms) k v =
    with_members-push (insert_entry string_cmp es m.0 m.1) ms k v

-- ---- the order of keys

all_with : (P : String Global → Type 0) (es : Held) (k : String Global) (v : Value) → P k
    → AllByRecursion P (keys_of es) → AllByRecursion P (keys_of (insert_entry string_cmp es k v))
all_with P [] k v own h = (own, tt)
all_with P (e ∷ es) k v own h = by (string_cmp k e.0) (all_with P es k v own h.1)
  where
    by : (o : Ordering) → AllByRecursion P (keys_of (insert_entry string_cmp es k v))
        → AllByRecursion P
        (keys_of (match_ordering o ((k, v) ∷ e ∷ es) ((e.0, v) ∷ es)
        (e ∷ insert_entry string_cmp es k v)))
    by Less later = (own, h)
    by Equal later = h
    by Greater later = (h.0, later)

all_above : (k l : String Global) (ks : List (String Global)) → string_cmp k l ≡ Less
    → AllByRecursion (λ y. string_cmp l y ≡ Less) ks
    → AllByRecursion (λ y. string_cmp k y ≡ Less) ks
all_above k l [] below h = tt
all_above k l (m ∷ ks) below h =
    (string_cmp_total.trans k l m below h.0, all_above k l ks below h.1)

sorted_at : (o : Ordering) (e : String Global × Value) (es : Held) (k : String Global) (v : Value)
    → string_cmp k e.0 ≡ o → IsStrictlySortedBy string_cmp (keys_of (e ∷ es))
    → IsStrictlySortedBy string_cmp (keys_of (insert_entry string_cmp es k v))
    → IsStrictlySortedBy string_cmp
    (keys_of (match_ordering o ((k, v) ∷ e ∷ es) ((e.0, v) ∷ es)
    (e ∷ insert_entry string_cmp es k v)))
unfolding IsStrictlySortedBy
sorted_at Less e es k v is h later = ((is, all_above k e.0 (keys_of es) is h.0), h)
sorted_at Equal e es k v is h later = h
sorted_at Greater e es k v is h later =
    let above = string_cmp_total.antisymm e.0 k ∙ ap ordering_reverse is in
    (all_with (λ y. string_cmp e.0 y ≡ Less) es k v above h.0, later)

sorted_one : (k : String Global) (v : Value)
    → IsStrictlySortedBy string_cmp (keys_of ((k, v) ∷ []))
unfolding IsStrictlySortedBy
sorted_one k v = (tt, tt)

sorted_with : (es : Held) (k : String Global) (v : Value)
    → IsStrictlySortedBy string_cmp (keys_of es)
    → IsStrictlySortedBy string_cmp (keys_of (insert_entry string_cmp es k v))
sorted_with [] k v h = sorted_one k v
sorted_with (e ∷ es) k v h =
    sorted_at (string_cmp k e.0) e es k v refl h
    (sorted_with es k v (sorted_tail string_cmp e.0 (keys_of es) h))

sorted_with_all : (es ms : Held) → IsStrictlySortedBy string_cmp (keys_of es)
    → IsStrictlySortedBy string_cmp (keys_of (with_members es ms))
sorted_with_all es [] h = h
sorted_with_all es (m ∷ ms) h =
    sorted_with_all (insert_entry string_cmp es m.0 m.1) ms (sorted_with es m.0 m.1 h)

-- ---- the value at a key

-- the value of a map with these entries at a key
abbrev pub at : List (String Global × Value) → String Global → Option Value
at es q = lookup (is_at (string_cmp q)) es

at-head : (e : String Global × Value) (es : List (String Global × Value)) (q : String Global)
    → string_cmp q e.0 ≡ Equal → at (e ∷ es) q ≡ Some e.1
at-head e es q same = grind (arith, lookup_head)

at-own : (e : String Global × Value) (es : List (String Global × Value))
    → at (e ∷ es) e.0 ≡ Some e.1
at-own e es = at-head e es e.0 (tied_itself string_cmp_total e.0)

-- a key below the first is not among them
at-below : (e : String Global × Value) (es : List (String Global × Value)) (q : String Global)
    → IsStrictlySortedBy string_cmp (keys_of (e ∷ es)) → string_cmp q e.0 ≡ Less
    → at (e ∷ es) q ≡ None
at-below e es q sorted below = lookup-none (is_at (string_cmp q)) (e ∷ es)
    (none_below_head string_cmp_total q e es sorted below)

-- the first key does not occur again after itself
at-again : (e : String Global × Value) (es : List (String Global × Value)) (q : String Global)
    → IsStrictlySortedBy string_cmp (keys_of (e ∷ es)) → is_eq (string_cmp q e.0) ≡ true
    → at es q ≡ None
at-again e es q sorted same =
    lookup-none (is_at (string_cmp q)) es
    (none_past_head (eq_by_cmp_equiv string_cmp_total) q e es
    (IsDistinct-from_sorted string_cmp (keys_of (e ∷ es)) sorted) same)

is_none : (v : Value) (P : Type 0) → Some v ≡ None → P
is_none v P e = cc

-- two lists of ascending keys with the same value at each key
module _ (e n : String Global × Value) (es ns : List (String Global × Value))
    (ascend : IsStrictlySortedBy string_cmp (keys_of (e ∷ es)))
    (ascends : IsStrictlySortedBy string_cmp (keys_of (n ∷ ns)))
    (same : (q : String Global) → at (n ∷ ns) q ≡ at (e ∷ es) q) where
  first_by : (o : Ordering) → string_cmp n.0 e.0 ≡ o → string_cmp n.0 e.0 ≡ Equal
  first_by Less is = grind (arith, is_none, at-own, at-below)
  first_by Equal is = is
  first_by Greater is =
      is_none e.1 _
      (sym (at-own e es) ∙ sym (same e.0)
      ∙ at-below n ns e.0 ascends (string_cmp_total.antisymm e.0 n.0 ∙ ap ordering_reverse is))

  first : string_cmp n.0 e.0 ≡ Equal
  first = grind (arith, first_by)

  first_value : n.1 ≡ e.1
  first_value = grind (arith, at-own, at-head, first)

  first_key : string_bytes n.0 ≡ string_bytes e.0
  first_key = exact_bytes _ _ first

  later : (q : String Global) → at ns q ≡ at es q
  later q = grind (arith, first_key, cases_Bool, at-again, lookup_tail)

pub same_pairs : (es ns : List (String Global × Value)) → IsStrictlySortedBy string_cmp (keys_of es)
    → IsStrictlySortedBy string_cmp (keys_of ns)
    → ((q : String Global) → at ns q ≡ at es q) → pairs_view ns ≡ pairs_view es
same_pairs [] [] ascend ascends same = refl
same_pairs [] (n ∷ ns) ascend ascends same = is_none n.1 _ (sym (at-own n ns) ∙ same n.0)
same_pairs (e ∷ es) [] ascend ascends same = is_none e.1 _ (sym (at-own e es) ∙ sym (same e.0))
same_pairs (e ∷ es) (n ∷ ns) ascend ascends same =
    let ascend_es = sorted_tail string_cmp e.0 (keys_of es) ascend in
    let ascend_ns = sorted_tail string_cmp n.0 (keys_of ns) ascends in
    let others = same_pairs es ns ascend_es ascend_ns (later e n es ns ascend ascends same) in
    grind (arith, first_key, first_value, others)

abbrev same : String Global → String Global → Bool
same = eq_by_cmp string_cmp

equal : (o : Ordering) → is_eq o ≡ true → o ≡ Equal
equal o h = grind arith

twice : (b : Bool) (x y z : Option Value) → cond b x z ≡ cond b x (cond b y z)
twice b x y z = grind arith

swap : (b c : Bool) (x y z : Option Value) → (b ≡ true → c ≡ false)
    → cond c x (cond b y z) ≡ cond b y (cond c x z)
swap b c x y z h = grind arith

at_with : (es : Held) (k : String Global) (v : Value) (q : String Global)
    → at (insert_entry string_cmp es k v) q ≡ update same (at es) k (Some v) q
at_with [] k v q =
    ap (λ (b : Bool). cond b (Some v) None) ((eq_by_cmp_equiv string_cmp_total).symm q k)
at_with (e ∷ es) k v q = by (string_cmp k e.0) refl (at_with es k v q)
  where
    by : (o : Ordering) → string_cmp k e.0 ≡ o
        → at (insert_entry string_cmp es k v) q ≡ update same (at es) k (Some v) q
        → at (match_ordering o ((k, v) ∷ e ∷ es) ((e.0, v) ∷ es)
        (e ∷ insert_entry string_cmp es k v)) q
        ≡ cond (same k q) (Some v) (at (e ∷ es) q)
    by Less is later =
        ap (λ (b : Bool). cond b (Some v) (at (e ∷ es) q))
        ((eq_by_cmp_equiv string_cmp_total).symm q k)
    by Equal is later =
        let alike : same q e.0 ≡ same k q =
        (eq_by_cmp_equiv string_cmp_total).symm q e.0
        ∙ sym (ap is_eq (string_cmp_total.congr k e.0 q is)) in
        twice (same q e.0) (Some v) (Some e.1) (at es q)
        ∙ ap (λ (b : Bool). cond b (Some v) (at (e ∷ es) q)) alike
    by Greater is later =
        ap (cond (same q e.0) (Some e.1)) later
        ∙ swap (same k q) (same q e.0) (Some e.1) (Some v) (at es q)
        (λ tied. ap is_eq
        (sym (string_cmp_total.congr k q e.0 (equal (string_cmp k q) tied)) ∙ is))

at_with_all : (f : String Global → Option Value) (es ms : Held)
    → ((q : String Global) → f q ≡ at es q) → (q : String Global)
    → update_all same f ms q ≡ at (with_members es ms) q
at_with_all f es [] h q = h q
at_with_all f es (m ∷ ms) h q =
    at_with_all (update same f m.0 (Some m.1)) (insert_entry string_cmp es m.0 m.1) ms
    (λ p. ap (cond (same m.0 p) (Some m.1)) (h p) ∙ sym (at_with es m.0 m.1 p)) q

-- ---- the map

-- a map built from all entries equals the one with the others inserted one by one
pub made_at_once : (es ms all : Held) (n : BTreeMap (String Global) Value)
    → IsStrictlySortedBy string_cmp (keys_of es) → all ≡ es ++ ms
    → IsFromIterResult string_cmp all n → pairs_view n.entries ≡ pairs_view (with_members es ms)
made_at_once es ms all n sorted whole h =
    let made : IsFromIterResult string_cmp (es ++ ms) n =
    subst (λ l. IsFromIterResult string_cmp l n) whole h in
    let none : String Global → Option Value = λ _. None in
    let front : (q : String Global) → update_all same none es q ≡ at es q =
    λ q. update_all_none (eq_by_cmp_equiv string_cmp_total) same (λ x y. refl) es q
    (IsDistinct-from_sorted string_cmp (keys_of es) sorted) in
    let alike : (q : String Global) → at n.entries q ≡ at (with_members es ms) q =
    λ q. made.0 q
    ∙ ap (λ (f : String Global → Option Value). f q)
    (fold-append (λ g p. update same g p.0 (Some p.1)) none es ms)
    ∙ at_with_all (update_all same none es) es ms front q in
    same_pairs (with_members es ms) n.entries (sorted_with_all es ms sorted) made.1 alike
