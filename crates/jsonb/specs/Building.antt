-- Building arrays and objects from items.
use Rattle.std.specs.Prelude.{◌≡◌, ◌<◌, ◌^◌, ⊤, ℕ, Bool, List, [], ◌∷◌, length, map}
use Rattle.std.specs.List.{list_any}
use Rattle.std.specs.Map.{keys_of, values_of}
use Rattle.std.specs.Str.{bytes_eq, IsUtf8}
use Rattle.std.specs.List.Sorted.{IsStrictlySortedBy}
use Rattle.std.specs.Ordering.{nat_cmp}
use Rattle.std.specs.Cmp.Lexicographic.{slice_cmp}
use Rattle.std.specs.BTreeMap.{insert_entry}
use Rattle.jsonb_codec.specs.declared.constants.TheConstants.{STRING_TAG}
use Rattle.jsonb_codec.specs.Shape.{Shapes, no_shapes, shape, leaf, array, object, payload}
use Rattle.jsonb.specs.ItemView.{ItemView}
use Rattle.jsonb.specs.Entry.{Code}
use Rattle.jsonb.specs.Code.{HasCode}

-- The entries are those with which the items are stored, in order.
abbrev pub AreCodes : List ItemView → List Code → Type 0
AreCodes [] codes = codes ≡ []
AreCodes (x ∷ xs) [] = ⊥
AreCodes (x ∷ xs) (c ∷ cs) = HasCode x c.type c.payload × AreCodes xs cs

-- No payload exceeds its limit of 2 ^ 28 - 1 bytes.
abbrev pub AreShort : List Code → Type 0
AreShort [] = ⊤
AreShort (c ∷ cs) = (length c.payload < 2 ^ 28) × AreShort cs

-- Entries as the leaves of an array, which have no keys.
abbrev pub leaves : List Code → Shapes
leaves [] = no_shapes
leaves (c ∷ cs) = shape [] (leaf c.type c.payload) (leaves cs)

-- Entries as the leaves of an object, at these keys.
abbrev pub keyed_leaves : List (List ℕ) → List Code → Shapes
keyed_leaves [] cs = no_shapes
keyed_leaves (k ∷ ks) [] = no_shapes
keyed_leaves (k ∷ ks) (c ∷ cs) = shape k (leaf c.type c.payload) (keyed_leaves ks cs)

-- The array with these entries.
abbrev pub array_bytes : List Code → List ℕ
array_bytes codes = payload (array (leaves codes))

-- The object with these keys and these entries of their values.
abbrev pub object_bytes : List (List ℕ) → List Code → List ℕ
object_bytes keys codes = payload (object (keyed_leaves keys codes))

-- The entries of these keys.
abbrev pub key_codes : List (List ℕ) → List Code
key_codes keys = map (λ k. record { type = STRING_TAG; payload = k }) keys

-- Each item has an entry, and no payload and not the count exceeds its limit.
pub record FitArray (xs : List ItemView) : Type 0 where
  pub codes : List Code
  pub are : AreCodes xs codes
  pub short : AreShort codes
  pub few : length codes < 2 ^ 29

-- The bytes are the array of the items' entries, in order.
pub record IsArrayOf (xs : List ItemView) (bytes : List ℕ) : Type 0 where
  pub fit : FitArray xs
  pub written : bytes ≡ array_bytes fit.codes

-- The pairs have one with this key.
abbrev pub has_key : {A : Type 0} → List (List ℕ × A) → List ℕ → Bool
has_key pairs key = list_any (bytes_eq key) (keys_of pairs)

-- The pairs after inserting one at its key's position in byte order.
abbrev pub with_pair : {A : Type 0} → List (List ℕ × A) → List ℕ → A → List (List ℕ × A)
with_pair pairs key x = insert_entry (slice_cmp nat_cmp) pairs key x

-- The pairs after inserting others one by one.
abbrev pub with_pairs : {A : Type 0} → List (List ℕ × A) → List (List ℕ × A) → List (List ℕ × A)
with_pairs pairs [] = pairs
with_pairs pairs (x ∷ xs) = with_pairs (with_pair pairs x.0 x.1) xs

-- The pairs in ascending byte order of their keys.
abbrev pub in_order : {A : Type 0} → List (List ℕ × A) → List (List ℕ × A)
in_order xs = with_pairs [] xs

-- Each value has an entry, and no key, no payload and not the count exceeds its limit.
pub record FitObject (pairs : List (List ℕ × ItemView)) : Type 0 where
  pub codes : List Code
  pub are : AreCodes (values_of pairs) codes
  pub short : AreShort codes
  pub short_keys : AreShort (key_codes (keys_of pairs))
  pub few : length codes < 2 ^ 29

-- The bytes are the object of the keys and the values' entries, in order.
pub record IsObjectOf (pairs : List (List ℕ × ItemView)) (bytes : List ℕ) : Type 0 where
  pub fit : FitObject pairs
  pub written : bytes ≡ object_bytes (keys_of pairs) fit.codes

-- Each key is UTF-8.
abbrev pub AreTexts : List (List ℕ) → Type 0
AreTexts [] = ⊤
AreTexts (k ∷ ks) = IsUtf8 k × AreTexts ks

-- The keys are UTF-8 and ascend strictly by their bytes.
pub record AreKeys (keys : List (List ℕ)) : Type 0 where
  pub texts : AreTexts keys
  pub ascend : IsStrictlySortedBy (slice_cmp nat_cmp) keys
