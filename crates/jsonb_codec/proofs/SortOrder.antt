-- A map's keys ascend by their bytes.
use Rattle.std.proofs.Common.{◌≡◌, List, [], ◌∷◌, Some, String, Global, refl, ◌∙◌}
use Rattle.std.specs.String.{string_bytes, string_cmp, string_cmp_total}
use Rattle.std.specs.Ordering.{eq_by_cmp}
use Rattle.std.specs.declared.cmp.Ordering.TheVariants.{Less}
use Rattle.std.specs.List.{AllByRecursion}
use Rattle.std.specs.BTreeMap.{BTreeMap, IsFromIterResult}
use Rattle.std.proofs.lemmas.Cmp.{eq_by_cmp_equiv}
use Rattle.std.proofs.lemmas.Map.Keys.{IsDistinct-from_sorted}
use Rattle.std.proofs.lemmas.Map.Made.{update_all_none}
use Rattle.std.specs.List.Sorted.{IsStrictlySortedBy}
use Rattle.std.specs.Map.{keys_of}
use Rattle.jsonb_value.specs.declared.value.Value.{Value}
use Rattle.jsonb_value.specs.Tree.{Ascend, Ascends}
use Rattle.jsonb_value.specs.Value.{pairs_view}
use Rattle.jsonb_value.proofs.MemberLaws.{at, same_pairs}

Ascends-pairs_view : (k : String Global) (ms : List (String Global × Value))
    → IsStrictlySortedBy string_cmp (k ∷ keys_of ms)
    → Ascends (Some (string_bytes k)) (pairs_view ms)
unfolding IsStrictlySortedBy
Ascends-pairs_view k [] h = tt
Ascends-pairs_view k ((l, v) ∷ ms) h = (h.0.0, Ascends-pairs_view l ms h.1)

pub Ascend-pairs_view : (ms : List (String Global × Value))
    → IsStrictlySortedBy string_cmp (keys_of ms) → Ascend (pairs_view ms)
unfolding IsStrictlySortedBy
Ascend-pairs_view [] h = tt
Ascend-pairs_view ((k, v) ∷ ms) h = (tt, Ascends-pairs_view k ms h)

-- ---- a map built from pairs with ascending keys

above_all : (k l : String Global) (ms : List (String Global × Value)) → string_cmp k l ≡ Less
    → Ascends (Some (string_bytes l)) (pairs_view ms)
    → AllByRecursion (λ y. string_cmp k y ≡ Less) (keys_of ms)
above_all k l [] below h = tt
above_all k l ((m, v) ∷ ms) below h =
    let further = string_cmp_total.trans k l m below h.0 in (further, above_all k m ms further h.1)

sorted_after : (k : String Global) (ms : List (String Global × Value))
    → Ascends (Some (string_bytes k)) (pairs_view ms)
    → IsStrictlySortedBy string_cmp (k ∷ keys_of ms)
unfolding IsStrictlySortedBy
sorted_after k [] h = (tt, tt)
sorted_after k ((l, v) ∷ ms) h = ((h.0, above_all k l ms h.0 h.1), sorted_after l ms h.1)

sorted_keys : (ms : List (String Global × Value)) → Ascend (pairs_view ms)
    → IsStrictlySortedBy string_cmp (keys_of ms)
unfolding IsStrictlySortedBy
sorted_keys [] h = tt
sorted_keys ((k, v) ∷ ms) h = sorted_after k ms h.1

-- a map built from pairs with ascending keys has these pairs
pub from_ascending : (es : List (String Global × Value)) (n : BTreeMap (String Global) Value)
    → Ascend (pairs_view es) → IsFromIterResult string_cmp es n
    → pairs_view n.entries ≡ pairs_view es
from_ascending es n ascend made =
    let sorted = sorted_keys es ascend in
    let distinct = IsDistinct-from_sorted string_cmp (keys_of es) sorted in
    let same : (q : String Global) → at n.entries q ≡ at es q =
    λ q. made.0 q ∙ update_all_none (eq_by_cmp_equiv string_cmp_total) (eq_by_cmp string_cmp)
    (λ x y. refl) es q distinct in
    same_pairs es n.entries sorted made.1 same
