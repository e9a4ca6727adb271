-- What a walk has left to compare, and that a document has more bytes than weight.
use Rattle.std.proofs.Common.{◌≡◌, ℕ, suc, ◌+◌, ◌*◌, ◌≤◌, List, ◌∷◌, length, inl, inr, refl}
use Rattle.std.proofs.Common.{ap, sym, arith, length-append}
use Rattle.std.specs.Prelude.{◌≢◌, false, Option, None, Some, IfNone, MatchOption}
use Rattle.std.specs.Borrow.{Bor}
use Rattle.std.proofs.lemmas.Bool.{eq-eqb, ne_eqb}
use Rattle.std.specs.Ordering.{is_eq, nat_cmp, ordering_then}
use Rattle.std.specs.Cmp.Lexicographic.{slice_cmp}
use Rattle.std.specs.declared.cmp.Ordering.{Ordering}
use Rattle.std.specs.declared.cmp.Ordering.TheVariants.{Less, Equal, Greater}
use Rattle.std.proofs.lemmas.Nat.{mul-le}
use Rattle.jsonb_value.specs.ExtCode.{ExtCode}
use Rattle.jsonb_value.specs.Order.{extension_cmp, extension_data}
use Rattle.jsonb_value.specs.Tree.{Extension, binary, date, timestamp, timestamp_tz, interval}
use Rattle.jsonb_value.specs.Tree.{opaque, Tree, text, extension, array}
use Rattle.jsonb_value.specs.Tree.{object, Trees, no_trees, tree, Pairs, no_pairs, pair, pair_count}
use Rattle.jsonb_value.specs.Value.{trees_of}
use Rattle.jsonb_codec.specs.Doc.{type_of, Children, Keys, Values, Payload, Doc}
use Rattle.jsonb_codec.proofs.Words.{length-word-append}
use Rattle.jsonb_codec.proofs.Entries.{length-One, length-One-payloads, length-Keys}
use Rattle.jsonb_codec.proofs.Containers.{array_container, object_container, length-Container}
use Rattle.jsonb.specs.declared.extension_item.ExtensionItem.{ExtensionItem}
use Rattle.jsonb.specs.declared.node.Node.{Node}
use Rattle.jsonb.specs.declared.node.Node.TheVariants as nodes
use Rattle.jsonb.specs.Node.{HoldsNoScalar, node_tree, pairs_of}
use Rattle.jsonb_functions.specs.ArraySets.{are_equal}
use Rattle.jsonb_functions.specs.ContainSteps.{compare_steps, shared_length}
use Rattle.jsonb_functions.specs.ContainWalks.{length_or_none}
use Rattle.jsonb_functions.specs.Weight.{pair_weights, weight, weights}
use Rattle.jsonb_functions.proofs.KeyOrder.{is_eq_false, key_equal}

-- What is left of a walk over items or members.
pub items_weights : (ts : List Tree) (t : Tree) (others : List Tree) → ts ≡ t ∷ others
    → weights (trees_of ts) ≡ weight t + weights (trees_of others)
items_weights ts t others e = rw e refl

pub members_weights : (ps : List (List ℕ × Tree)) (k : List ℕ) (t : Tree)
    (others : List (List ℕ × Tree)) → ps ≡ (k, t) ∷ others
    → pair_weights (pairs_of ps) ≡ suc (length k + (weight t + pair_weights (pairs_of others)))
members_weights ps k t others e = rw e refl

-- Texts and data of which one is longer differ.
pub texts_differ : (s r : List ℕ) → length s ≢ length r → is_eq (slice_cmp nat_cmp s r) ≡ false
texts_differ s r h =
    is_eq_false (slice_cmp nat_cmp s r) (λ e. h (ap length (key_equal s r e)))

pub texts_apart : (r : Option ℕ) (s t : List ℕ) (u v : Tree) → u ≡ text s → v ≡ text t
    → MatchOption r (length s ≢ length t) (λ n. (n ≡ length s) × (length s ≡ length t))
    → IfNone r (are_equal u v ≡ false)
texts_apart None s t u v e f h = rw (e, f) (texts_differ s t h)
texts_apart (Some n) s t u v e f h = tt

-- What is compared of two that are equally long, and of two of which one is longer.
shared_same : (r : Option ℕ) (s t : List ℕ)
    → MatchOption r (length s ≢ length t) (λ n. (n ≡ length s) × (length s ≡ length t))
    → shared_length s t ≡ length_or_none r
shared_same None s t h = rw (ne_eqb (length s) (length t) h) refl
shared_same (Some n) s t h = rw (eq-eqb (length s) (length t) h.1) (sym h.0)

pub texts_compared : (r : Option ℕ) (s t : List ℕ) (u v : Tree) → u ≡ text s → v ≡ text t
    → MatchOption r (length s ≢ length t) (λ n. (n ≡ length s) × (length s ≡ length t))
    → compare_steps u v ≡ suc (length_or_none r)
texts_compared r s t u v e f h = rw (e, f) (ap suc (shared_same r s t h))

second_equal : (a b : Ordering) → ordering_then a b ≡ Equal → b ≡ Equal
second_equal Equal b e = e
second_equal Less b e = absurd (cc)
second_equal Greater b e = absurd (cc)

pub data_differ : (d e : Extension) → length (extension_data d) ≢ length (extension_data e)
    → is_eq (extension_cmp d e) ≡ false
data_differ d e h =
    is_eq_false (extension_cmp d e) (λ same. h (ap length (key_equal (extension_data d)
    (extension_data e) (second_equal _ _ (second_equal _ _ same)))))

pub data_apart : (r : Option ℕ) (s t : List ℕ) (d e : Extension) (u v : Tree)
    → u ≡ extension d → v ≡ extension e → s ≡ extension_data d → t ≡ extension_data e
    → MatchOption r (length s ≢ length t) (λ n. (n ≡ length s) × (length s ≡ length t))
    → IfNone r (are_equal u v ≡ false)
data_apart None s t d e u v f g i j h = rw (f, g) (data_differ d e (rw (i, j) at h))
data_apart (Some n) s t d e u v f g i j h = tt

pub data_compared : (r : Option ℕ) (s t : List ℕ) (d e : Extension) (u v : Tree)
    → u ≡ extension d → v ≡ extension e → s ≡ extension_data d → t ≡ extension_data e
    → MatchOption r (length s ≢ length t) (λ n. (n ≡ length s) × (length s ≡ length t))
    → compare_steps u v ≡ suc (length_or_none r)
data_compared r s t d e u v f g i j h =
    rw (f, g) (ap suc (shared_same r (extension_data d) (extension_data e) (rw (i, j) at h)))

plain_steps : (t u : Tree) → ((a : List ℕ) → t ≡ text a → ⊥)
    → ((x : Extension) → t ≡ extension x → ⊥) → compare_steps t u ≡ 1
plain_steps (text a) u h g = absurd (h a refl)
plain_steps (extension x) u h g = absurd (g x refl)
plain_steps t u h g = refl

-- A value that means a text is one, and so of data.
text_node : (node : Node) (a : List ℕ) → HoldsNoScalar node → node_tree node ≡ text a
    → (s : Bor (List ℕ)) × (node ≡ nodes.String s)
text_node (nodes.String s) a h e = (s, refl)
text_node nodes.Null a h e = absurd (cc)
text_node (nodes.Boolean b) a h e = absurd (cc)
text_node (nodes.Number x) a h e = absurd (cc)
text_node (nodes.Extension x) a h e = absurd (cc)
text_node (nodes.Container d) a h e = absurd (omega (arith, rw e at h))

data_node : (node : Node) (x : Extension) → HoldsNoScalar node → node_tree node ≡ extension x
    → (item : ExtensionItem) × (node ≡ nodes.Extension item)
data_node (nodes.Extension item) x h e = (item, refl)
data_node nodes.Null x h e = absurd (cc)
data_node (nodes.Boolean b) x h e = absurd (cc)
data_node (nodes.Number y) x h e = absurd (cc)
data_node (nodes.String s) x h e = absurd (cc)
data_node (nodes.Container d) x h e = absurd (omega (arith, rw e at h))

-- Of a value that is no text and has no data one step is taken.
pub plainly_compared : (left : Node) (u : Tree) → ((s : Bor (List ℕ)) → left ≡ nodes.String s → ⊥)
    → ((x : ExtensionItem) → left ≡ nodes.Extension x → ⊥) → HoldsNoScalar left
    → compare_steps (node_tree left) u ≡ 1
plainly_compared left u h g scalar =
    plain_steps (node_tree left) u
    (λ s is. let (x, e) = text_node left s scalar is in h x e)
    (λ d is. let (x, e) = data_node left d scalar is in g x e)

-- A document has more bytes than weight: an entry word of four bytes for each value and each key.
abbrev keys_weight : Pairs → ℕ
keys_weight no_pairs = 0
keys_weight (pair k t ps) = length k + keys_weight ps

abbrev values_weight : Pairs → ℕ
values_weight no_pairs = 0
values_weight (pair k t ps) = weight t + values_weight ps

both_weights : (ps : Pairs)
    → pair_weights ps ≡ pair_count ps + (keys_weight ps + values_weight ps)
both_weights no_pairs = refl
both_weights (pair k t ps) = omega (arith, both_weights ps)

keys_bound : (ps : Pairs) (e p : List ℕ) → Keys ps e p
    → keys_weight ps ≤ length p
keys_bound no_pairs e p h = omega arith
keys_bound (pair k t ps) e p h = omega (
  arith,
  length-One-payloads h,
  ap length h.means.0,
  keys_bound ps _ _ h.others,
)

extension_bound : (e : Extension) (p : List ℕ) → ExtCode p e
    → length (extension_data e) ≤ length p
extension_bound (binary bytes) p h = omega (arith, ap length h)
extension_bound (date d) p h = omega arith
extension_bound (timestamp t) p h = omega arith
extension_bound (timestamp_tz t) p h = omega arith
extension_bound (interval i) p h = omega arith
extension_bound (opaque tag bytes) p h = omega (arith, ap length h.1)

mutual
  payload_bound : (t : Tree) (p : List ℕ) → Payload t p → weight t ≤ length p + 4
      × (type_of t ≡ 1342177280 → weight t ≤ length p)
  payload_bound (array ts) p h = omega (
    arith,
    length-Container (array_container ts p h),
    items_bound ts _ _ h.later.items,
  )
  payload_bound (object ps) p h =
      let b = h.1.later in
      omega (
        arith,
        length-Container (object_container ps p h),
        length-append b.key_entries b.value_entries,
        length-append b.key_payloads b.value_payloads,
        length-Keys ps _ _ b.keys,
        both_weights ps,
        keys_bound ps _ _ b.keys,
        values_bound ps _ _ b.values,
      )
  payload_bound (text s) p h = omega (arith, ap length h.0)
  payload_bound (extension e) p h = omega (arith, extension_bound e p h)
  payload_bound t p h = grind arith

  items_bound : (ts : Trees) (e p : List ℕ) → Children ts e p → weights ts ≤ length e + length p
  items_bound no_trees e p h = omega arith
  items_bound (tree t ts) e p h = omega (
    arith,
    length-One h,
    length-One-payloads h,
    payload_bound t _ h.means,
    items_bound ts _ _ h.others,
  )

  values_bound : (ps : Pairs) (e p : List ℕ) → Values ps e p
      → values_weight ps ≤ length e + length p
  values_bound no_pairs e p h = omega arith
  values_bound (pair k t ps) e p h = omega (
    arith,
    length-One h,
    length-One-payloads h,
    payload_bound t _ h.means,
    values_bound ps _ _ h.others,
  )

document_bound : (b : List ℕ) (t : Tree) → Doc b t → weight t ≤ length b
document_bound b t (inl h) = omega (
  arith,
  payload_bound t h.1.payload h.1.means,
  ap length h.1.parts,
  length-word-append,
)
document_bound b t (inr h) = (payload_bound t b h.1).1 h.0

pub weights_below : (b d : List ℕ) (t u : Tree) → Doc b t → Doc d u
    → weight t * weight u ≤ length b * length d
weights_below b d t u h i = mul-le (weight t) (weight u) (length b) (length d)
    (document_bound b t h) (document_bound d u i)
