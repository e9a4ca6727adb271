-- An array or object: a header, the entry words of its children, and their payloads. An object's
-- children are its keys, then its values.
use Rattle.std.proofs.Common.{◌≡◌, ◌⊎◌, ℕ, ◌+◌, ◌*◌, ◌^◌, ◌<◌, List, ◌++◌, length, inl, inr, refl}
use Rattle.std.proofs.Common.{ap, subst, ◌∙◌, arith, length-append, append_assoc}
use Rattle.jsonb_value.specs.Tree.{Tree, array, object, Trees, no_trees, Pairs, no_pairs, pair}
use Rattle.jsonb_value.specs.Tree.{count, pair_count}
use Rattle.jsonb_codec.specs.WordBytes.{word}
use Rattle.jsonb_codec.specs.Doc.{type_of, PairsBody, Keys, Values, Children, Payload}
use Rattle.jsonb_codec.proofs.Words.{length-word-append}
use Rattle.jsonb_codec.proofs.Entries.{keys_and, values_of, Values-children}

-- keys followed by other children are children
pub Children-keys_and : (ps : Pairs) (us : Trees) (ke kp e p : List ℕ) → Keys ps ke kp
    → Children us e p → Children (keys_and ps us) (ke ++ e) (kp ++ p)
Children-keys_and no_pairs us ke kp e p k h = rw (k.no_entries, k.no_payloads) h
Children-keys_and (pair key t ps) us ke kp e p k h = record {
  payload = k.payload;
  other_entries = k.other_entries ++ e;
  other_payloads = k.other_payloads ++ p;
  entries_are = rw k.entries_are (append_assoc _ k.other_entries e);
  payloads_are = rw k.payloads_are (append_assoc k.payload k.other_payloads p);
  short = k.short;
  means = k.means;
  others = Children-keys_and ps us _ _ e p k.others h;
}

count-keys_and : (ps : Pairs) (us : Trees) → count (keys_and ps us) ≡ pair_count ps + count us
count-keys_and no_pairs us = omega arith
count-keys_and (pair k t ps) us = omega (arith, count-keys_and ps us)

pub count-values_of : (ps : Pairs) → count (values_of ps) ≡ pair_count ps
count-values_of no_pairs = refl
count-values_of (pair k t ps) = omega (arith, count-values_of ps)

abbrev pub members : Tree → Trees
members (array ts) = ts
members (object ps) = keys_and ps (values_of ps)
members t = no_trees

-- the kind in its header
abbrev pub kind_of : Tree → ℕ
kind_of (array ts) = 2147483648
kind_of t = 1073741824

abbrev pub count_of : Tree → ℕ
count_of (array ts) = count ts
count_of (object ps) = pair_count ps
count_of t = 0

pub two_kinds : (t : Tree) → (kind_of t ≡ 2147483648) ⊎ (kind_of t ≡ 1073741824)
two_kinds (array ts) = inl refl
two_kinds t = inr refl

-- the number of its children
pub count-members : (t : Tree) → type_of t ≡ 1342177280
    → ((kind_of t ≡ 2147483648) × (count (members t) ≡ count_of t))
    ⊎ ((kind_of t ≡ 1073741824) × (count (members t) ≡ 2 * count_of t))
count-members (array ts) is = inl (refl, refl)
count-members (object ps) is = grind (arith, count-keys_and, count-values_of)
count-members t is = absurd (grind arith)

pub record Container (t : Tree) (b : List ℕ) : Type 0 where
  pub rest : List ℕ
  pub parts : b ≡ word (kind_of t + count_of t) ++ rest
  pub few : count_of t < 2 ^ 29
  pub entries : List ℕ
  pub payloads : List ℕ
  pub body : rest ≡ entries ++ payloads
  pub items : Children (members t) entries payloads

abbrev pub array_container : (ts : Trees) (b : List ℕ) → Payload (array ts) b
    → Container (array ts) b
array_container ts b h = record {
  rest = h.rest;
  parts = h.parts;
  few = h.later.few;
  entries = h.later.entries;
  payloads = h.later.payloads;
  body = h.later.parts;
  items = h.later.items;
}

pub pairs_body : (ps : Pairs) (n : ℕ) (rest : List ℕ) → (k : PairsBody n (Keys ps) (Values ps) rest)
    → rest ≡ (k.key_entries ++ k.value_entries) ++ (k.key_payloads ++ k.value_payloads)
pairs_body ps n rest k = rw append_assoc k.parts

abbrev pub object_container : (ps : Pairs) (b : List ℕ) → Payload (object ps) b
    → Container (object ps) b
object_container ps b (ascend, h) =
    let k = h.later in
    record {
      rest = h.rest;
      parts = h.parts;
      few = k.few;
      entries = k.key_entries ++ k.value_entries;
      payloads = k.key_payloads ++ k.value_payloads;
      body = pairs_body ps _ _ k;
      items = Children-keys_and ps (values_of ps) _ _ _ _ k.keys
          (subst (λ R. R k.value_entries k.value_payloads) (Values-children ps) k.values);
    }

pub container : (t : Tree) (b : List ℕ) → type_of t ≡ 1342177280 → Payload t b → Container t b
container (array ts) b is h = array_container ts b h
container (object ps) b is h = object_container ps b h
container t b is h = absurd (grind arith)

pub header_small : {t : Tree} {b : List ℕ} → Container t b → kind_of t + count_of t < 2 ^ 32
header_small {t} f = omega (arith, f.few, two_kinds t)

pub length-Container : {t : Tree} {b : List ℕ}
    → (f : Container t b) → length b ≡ 4 + length f.entries + length f.payloads
length-Container f = omega (
  arith,
  ap length f.parts ∙ length-word-append _ f.rest,
  ap length f.body ∙ length-append f.entries f.payloads,
)
