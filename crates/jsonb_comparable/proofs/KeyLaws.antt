-- What follows from the comparison of keys.
use Rattle.std.proofs.Common.{◌≡◌, ◌↔◌, ℕ, zero, suc, List, [], ◌∷◌, ◌++◌, refl, arith, sym, ap}
use Rattle.std.proofs.Common.{◌∙◌, subst, inl, inr, append-nil, append_assoc, take}
use Rattle.std.specs.Prelude.{Bool, true, false, cond, nat_le}
use Rattle.std.proofs.lemmas.Bool.Decides.{nat_tests}
use Rattle.std.specs.declared.cmp.Ordering.{Ordering}
use Rattle.std.specs.declared.cmp.Ordering.TheVariants.{Less, Equal, Greater}
use Rattle.std.specs.List.{All, flat_map}
use Rattle.std.specs.Ordering.{nat_cmp, ordering_then}
use Rattle.std.specs.Cmp.Lexicographic.{slice_cmp}
use Rattle.std.proofs.lemmas.Cmp.{nat_list_cmp_total, tied_itself}
use Rattle.std.proofs.lemmas.List.Elements.{All-head, All-tail}
use Rattle.jsonb_value.specs.Meaning.{Meaning, document, other_bytes, meaning_cmp}
use Rattle.jsonb_value.specs.Tree.{Tree}
use Rattle.jsonb_value.specs.TreeOrder.{tree_cmp}
use Rattle.jsonb_value.specs.WellFormed.{IsTree, AreTrees}
use Rattle.jsonb_value.specs.Value.{trees_of}
use Rattle.jsonb_value.proofs.BigEndian.{AreBytes}
use Rattle.jsonb_value.proofs.PayloadDecision.{Decided}
use Rattle.jsonb_value.proofs.TreeLaws.{then-Equal}
use Rattle.jsonb_codec.specs.Doc.{Doc, IsDocument}
use Rattle.jsonb_codec.proofs.Decision.{decide}
use Rattle.jsonb_codec.proofs.WellFormed.{IsTree-Doc}
use Rattle.jsonb.specs.ItemMeaning.{meaning_of, meaning_or_bytes}
use Rattle.jsonb_comparable.specs.Escaped.{escaped}
use Rattle.jsonb_codec.specs.Depth.{depth}
use Rattle.jsonb.specs.Node.{array_of, object_of, pairs_of}
use Rattle.jsonb.specs.Within.{limited, meaning_within}
use Rattle.jsonb.specs.declared.sort_key.SortKey.{SortKey}
use Rattle.jsonb.specs.declared.sort_key.SortKey.TheVariants as keys
use Rattle.jsonb.specs.Document.{document_bytes, document_tree}
use Rattle.jsonb.specs.SortKey.{sort_bytes, key_meaning}
use Rattle.jsonb.proofs.DocumentLaws.{tree_of_bytes}
use Rattle.jsonb_comparable.specs.TreeKey.{tree_key, trees_key, pairs_key, member_key, meaning_key}
use Rattle.jsonb_comparable.specs.KeyLaws.{IsKeyOf, IsMeaning, KeyLaws, key_by, cmp_by}
use Rattle.jsonb_comparable.proofs.Comparing.{Compared, ended, same, below, above, compared_whole}
use Rattle.jsonb_comparable.proofs.Comparing.{cmp_below, cmp_above}
use Rattle.jsonb_comparable.proofs.EscapedLaws.{escaped_decides}
use Rattle.jsonb_comparable.proofs.TreeLaws.{tree_key_decides, key_below_top, top_above_key}
use Rattle.jsonb_comparable.proofs.TreeLaws.{nothing_below_key, key_above_nothing}

-- Byte strings that differ or are the same compare by themselves,
compared_alone : {a b : List ℕ} {o : Ordering} → Compared a b o → slice_cmp nat_cmp a b ≡ o
compared_alone {a} {b} {o} h =
    let whole = compared_whole h [] [] in
    rw (append-nil a, append-nil b, then-Equal o) at whole

-- are the same where they are equal,
compared_same : {a b : List ℕ} {o : Ordering} → Compared a b o → o ≡ Equal → a ≡ b
compared_same ended e = refl
compared_same (same {x = x} h) e = ap (λ xs. x ∷ xs) (compared_same h e)
compared_same (below h) e = absurd (cc)
compared_same (above h) e = absurd (cc)

compared_equal : {a b : List ℕ} {o : Ordering} → Compared a b o → (a ≡ b) ↔ (o ≡ Equal)
compared_equal {a} {b} {o} h = (
  λ e. sym (compared_alone h) ∙ subst (λ c. slice_cmp nat_cmp a c ≡ Equal) e
      (tied_itself nat_list_cmp_total a),
  λ e. compared_same h e,
)

-- and neither begins the other.
compared_apart : {a b : List ℕ} {o : Ordering} → Compared a b o → (x y : List ℕ)
    → a ++ x ≡ b ++ y → (o ≡ Equal) × (x ≡ y)
compared_apart ended x y e = (refl, e)
compared_apart (same {a = a} {b = b} h) x y e =
    let rest : a ++ x ≡ b ++ y = cc in compared_apart h x y rest
compared_apart (below {x = m} {y = n} h) x y e = let one : m ≡ n = cc in absurd (omega arith)
compared_apart (above {x = m} {y = n} h) x y e = let one : m ≡ n = cc in absurd (omega arith)

pub keys_followed : (t u : Tree) → IsTree t → IsTree u → (x y : List ℕ)
    → slice_cmp nat_cmp (tree_key t ++ x) (tree_key u ++ y)
    ≡ ordering_then (tree_cmp t u) (slice_cmp nat_cmp x y)
keys_followed t u h g x y = compared_whole (tree_key_decides t u h g) x y

pub keys_order : (t u : Tree) → IsTree t → IsTree u
    → slice_cmp nat_cmp (tree_key t) (tree_key u) ≡ tree_cmp t u
keys_order t u h g = compared_alone (tree_key_decides t u h g)

pub keys_equal : (t u : Tree) → IsTree t → IsTree u
    → (tree_key t ≡ tree_key u) ↔ (tree_cmp t u ≡ Equal)
keys_equal t u h g = compared_equal (tree_key_decides t u h g)

pub keys_apart : (t u : Tree) → IsTree t → IsTree u → (x y : List ℕ)
    → tree_key t ++ x ≡ tree_key u ++ y → (tree_cmp t u ≡ Equal) × (x ≡ y)
keys_apart t u h g x y e = compared_apart (tree_key_decides t u h g) x y e

-- The keys of a list, one after the other, compare as the lists.
pub lists_order : (ts us : List Tree) → AreTrees (trees_of ts) → AreTrees (trees_of us)
    → slice_cmp nat_cmp (flat_map tree_key ts) (flat_map tree_key us) ≡ slice_cmp tree_cmp ts us
lists_order [] [] h g = refl
lists_order [] (u ∷ us) h g = nothing_below_key u (flat_map tree_key us)
lists_order (t ∷ ts) [] h g = key_above_nothing t (flat_map tree_key ts)
lists_order (t ∷ ts) (u ∷ us) h g =
    keys_followed t u h.0 g.0 (flat_map tree_key ts) (flat_map tree_key us)
    ∙ ap (λ o. ordering_then (tree_cmp t u) o) (lists_order ts us h.1 g.1)

meaning_key_decides : (m n : Meaning) → IsMeaning m → IsMeaning n
    → Compared (meaning_key m) (meaning_key n) (meaning_cmp m n)
unfolding meaning_key
meaning_key_decides (document t) (document u) h g = tree_key_decides t u h g
meaning_key_decides (document t) (other_bytes b) h g = key_below_top t (escaped b)
meaning_key_decides (other_bytes a) (document u) h g = top_above_key u (escaped a)
meaning_key_decides (other_bytes a) (other_bytes b) h g = same (escaped_decides a b)

decided_meaning : (b : List ℕ) → AreBytes b → (d : Decided (IsDocument b))
    → IsMeaning (meaning_or_bytes b d)
decided_meaning b bytes (inl found) = IsTree-Doc b found.0 bytes found.1
decided_meaning b bytes (inr none) = tt

pub is_meaning : (b : List ℕ) → AreBytes b → IsMeaning (meaning_of b)
unfolding meaning_of
is_meaning b bytes = decided_meaning b bytes (decide b)

limited_meaning : (b : List ℕ) (t : Tree) (c : Bool) → IsTree t
    → IsMeaning (cond c (document t) (other_bytes b))
limited_meaning b t true h = h
limited_meaning b t false h = tt

is_limited : (d : ℕ) (b : List ℕ) (m : Meaning) → IsMeaning m → IsMeaning (limited d b m)
is_limited d b (document t) h = limited_meaning b t (nat_le (depth t) d) h
is_limited d b (other_bytes others) h = tt

pub is_meaning_within : (d : ℕ) (b : List ℕ) → AreBytes b → IsMeaning (meaning_within d b)
is_meaning_within d b bytes = is_limited d b (meaning_of b) (is_meaning b bytes)

-- A beginning of a key that is above another key decides,
cut_decides : {a b : List ℕ} {o : Ordering} → Compared a b o → (n : ℕ)
    → slice_cmp nat_cmp (take n a) b ≡ Greater → o ≡ Greater
cut_decides ended zero e = absurd (cc)
cut_decides ended (suc n) e = absurd (cc)
cut_decides (same h) zero e = absurd (cc)
cut_decides (same {x = x} {a = a} {b = b} h) (suc n) e =
    cut_decides h n (grind (arith, nat_tests, e))
cut_decides (below h) zero e = absurd (cc)
cut_decides (below {x = x} {y = y} h) (suc n) e = grind (arith, nat_tests, e, cmp_below x y h)
cut_decides (above h) n e = refl

-- and so do beginnings of one length that differ.
both_cut_decide : {a b : List ℕ} {o : Ordering} → Compared a b o → (n : ℕ)
    → slice_cmp nat_cmp (take n a) (take n b) ≡ Less → o ≡ Less
both_cut_decide ended zero e = absurd (cc)
both_cut_decide ended (suc n) e = absurd (cc)
both_cut_decide (same h) zero e = absurd (cc)
both_cut_decide (same {x = x} {a = a} {b = b} h) (suc n) e =
    both_cut_decide h n (grind (arith, nat_tests, e))
both_cut_decide (below h) n e = refl
both_cut_decide (above h) zero e = absurd (cc)
both_cut_decide (above {x = x} {y = y} h) (suc n) e = grind (arith, nat_tests, e, cmp_above x y h)

pub keys_cut : (t u : Tree) → IsTree t → IsTree u → (n : ℕ)
    → slice_cmp nat_cmp (take n (tree_key t)) (tree_key u) ≡ Greater → tree_cmp t u ≡ Greater
keys_cut t u h g n e = cut_decides (tree_key_decides t u h g) n e

pub keys_both_cut : (t u : Tree) → IsTree t → IsTree u → (n : ℕ)
    → slice_cmp nat_cmp (take n (tree_key t)) (take n (tree_key u)) ≡ Less → tree_cmp t u ≡ Less
keys_both_cut t u h g n e = both_cut_decide (tree_key_decides t u h g) n e

-- The keys of a list of bytes, one after the other, compare as the lists.
nothing_below_meaning : (m : Meaning) (xs : List ℕ)
    → slice_cmp nat_cmp [] (meaning_key m ++ xs) ≡ Less
unfolding meaning_key
nothing_below_meaning (document t) xs = nothing_below_key t xs
nothing_below_meaning (other_bytes b) xs = refl

meaning_above_nothing : (m : Meaning) (xs : List ℕ)
    → slice_cmp nat_cmp (meaning_key m ++ xs) [] ≡ Greater
unfolding meaning_key
meaning_above_nothing (document t) xs = key_above_nothing t xs
meaning_above_nothing (other_bytes b) xs = refl

meaning_lists : (ms ns : List Meaning) → All IsMeaning ms → All IsMeaning ns
    → slice_cmp nat_cmp (flat_map meaning_key ms) (flat_map meaning_key ns)
    ≡ slice_cmp meaning_cmp ms ns
meaning_lists [] [] h g = refl
meaning_lists [] (n ∷ ns) h g = nothing_below_meaning n (flat_map meaning_key ns)
meaning_lists (m ∷ ms) [] h g = meaning_above_nothing m (flat_map meaning_key ms)
meaning_lists (m ∷ ms) (n ∷ ns) h g =
    let first =
    meaning_key_decides m n (All-head IsMeaning m ms h) (All-head IsMeaning n ns g) in
    let rest = meaning_lists ms ns (All-tail IsMeaning m ms h) (All-tail IsMeaning n ns g) in
    compared_whole first (flat_map meaning_key ms) (flat_map meaning_key ns)
    ∙ ap (λ o. ordering_then (meaning_cmp m n) o) rest

-- A key beside all others.
lists_after : (m : Meaning) (ms ns : List Meaning) → IsMeaning m → All IsMeaning ms
    → All IsMeaning ns
    → slice_cmp nat_cmp (meaning_key m ++ flat_map meaning_key ms) (flat_map meaning_key ns)
    ≡ slice_cmp meaning_cmp (m ∷ ms) ns
lists_after m ms [] is h g = meaning_above_nothing m (flat_map meaning_key ms)
lists_after m ms (n ∷ ns) is h g =
    let first = meaning_key_decides m n is (All-head IsMeaning n ns g) in
    let rest = meaning_lists ms ns h (All-tail IsMeaning n ns g) in
    compared_whole first (flat_map meaning_key ms) (flat_map meaning_key ns)
    ∙ ap (λ o. ordering_then (meaning_cmp m n) o) rest

pub is_key_of : (m : Meaning) → IsMeaning m → IsKeyOf m (meaning_key m)
is_key_of m is = record {
  order = λ n of. compared_alone (meaning_key_decides m n is of);
  equal = λ n of. compared_equal (meaning_key_decides m n is of);
  followed = λ n of x y. compared_whole (meaning_key_decides m n is of) x y;
  no_beginning = λ n of x y e. compared_apart (meaning_key_decides m n is of) x y e;
  lists = λ ms ns h g. lists_after m ms ns is h g;
}

-- A key that is appended is that of a tree that a document has, or of other bytes.
pub key_of_sorted : (key : SortKey) → ((t : Tree) → Doc (sort_bytes key) t → IsTree t)
    → IsKeyOf (key_meaning key) (meaning_key (key_meaning key))
key_of_sorted key trees = is_key_of (key_meaning key) (meant key trees) where
  meant : (key : SortKey) → ((t : Tree) → Doc (sort_bytes key) t → IsTree t)
      → IsMeaning (key_meaning key)
  meant (keys.Document d) trees =
      trees (document_tree d) (tree_of_bytes (document_bytes d) d refl)
  meant (keys.Other bytes) trees = tt

-- Bytes whose meanings are trees or other bytes have keys with the laws.
abbrev pub AreMeanings : (List ℕ → Meaning) → Type 0
AreMeanings means = (b : List ℕ) → AreBytes b → IsMeaning (means b)

keys_decide : (means : List ℕ → Meaning) → AreMeanings means → (l r : List ℕ)
    → AreBytes l → AreBytes r → Compared (key_by means l) (key_by means r) (cmp_by means l r)
keys_decide means are l r h g =
    meaning_key_decides (means l) (means r) (are l h) (are r g)

lists_decide : (means : List ℕ → Meaning) → AreMeanings means → (ls rs : List (List ℕ))
    → All AreBytes ls → All AreBytes rs
    → slice_cmp nat_cmp (flat_map (key_by means) ls) (flat_map (key_by means) rs)
    ≡ slice_cmp (cmp_by means) ls rs
lists_decide means are [] [] h g = refl
lists_decide means are [] (r ∷ rs) h g =
    nothing_below_meaning (means r) (flat_map (key_by means) rs)
lists_decide means are (l ∷ ls) [] h g =
    meaning_above_nothing (means l) (flat_map (key_by means) ls)
lists_decide means are (l ∷ ls) (r ∷ rs) h g =
    let first = keys_decide means are l r (All-head AreBytes l ls h) (All-head AreBytes r rs g) in
    let rest =
    lists_decide means are ls rs (All-tail AreBytes l ls h) (All-tail AreBytes r rs g) in
    compared_whole first (flat_map (key_by means) ls) (flat_map (key_by means) rs)
    ∙ ap (λ o. ordering_then (cmp_by means l r) o) rest

pub meanings_laws : (means : List ℕ → Meaning) → AreMeanings means → KeyLaws means
meanings_laws means are = record {
  order = λ l r h g. compared_alone (keys_decide means are l r h g);
  equal = λ l r h g. compared_equal (keys_decide means are l r h g);
  followed = λ l r h g x y. compared_whole (keys_decide means are l r h g) x y;
  no_beginning = λ l r h g x y e. compared_apart (keys_decide means are l r h g) x y e;
  lists = lists_decide means are;
  cut = λ l r h g n e. cut_decides (keys_decide means are l r h g) n e;
  cut_both = λ l r h g n e. both_cut_decide (keys_decide means are l r h g) n e;
}

-- The keys of the parts are parts of the key.
items_key : (ts : List Tree) → trees_key (trees_of ts) ≡ flat_map tree_key ts ++ (0 ∷ [])
unfolding tree_key
items_key [] = refl
items_key (t ∷ ts) =
    ap (λ xs. tree_key t ++ xs) (items_key ts)
    ∙ sym (append_assoc (tree_key t) (flat_map tree_key ts) (0 ∷ []))

pub array_key : (ts : List Tree)
    → tree_key (array_of ts) ≡ 192 ∷ (flat_map tree_key ts ++ (0 ∷ []))
unfolding tree_key
array_key ts = ap (λ xs. 192 ∷ xs) (items_key ts)

members_key : (ps : List (List ℕ × Tree))
    → pairs_key (pairs_of ps) ≡ flat_map member_key ps ++ (0 ∷ [])
unfolding tree_key
members_key [] = refl
members_key (p ∷ ps) =
    ap (λ xs. escaped p.0 ++ (tree_key p.1 ++ xs)) (members_key ps)
    ∙ sym (append_assoc (escaped p.0) (tree_key p.1) (flat_map member_key ps ++ (0 ∷ [])))
    ∙ sym (append_assoc (member_key p) (flat_map member_key ps) (0 ∷ []))

pub object_key : (ps : List (List ℕ × Tree))
    → tree_key (object_of ps) ≡ 176 ∷ (flat_map member_key ps ++ (0 ∷ []))
unfolding tree_key
object_key ps = ap (λ xs. 176 ∷ xs) (members_key ps)

-- The key of a document is that of its tree.
pub key_of_tree : (t : Tree) → meaning_key (document t) ≡ tree_key t
unfolding meaning_key
key_of_tree t = refl
