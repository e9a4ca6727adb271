-- The entries in the document of an array or an object, and their items.
use Rattle.std.specs.Prelude.{◌≡◌, ◌<◌, ◌^◌, ◌==◌, ◌&&◌, ℕ, Bool, List, [], ◌∷◌, length, Option}
use Rattle.std.specs.Prelude.{None, map, option_map, slice_get, Result, Ok}
use Rattle.std.specs.Map.{keys_of, values_of, lookup}
use Rattle.jsonb_value.specs.declared.error.Error.{Error}
use Rattle.jsonb_value.specs.Tree.{Tree, array, object, Trees, no_trees, tree, Pairs, no_pairs}
use Rattle.jsonb_value.specs.Tree.{pair}
use Rattle.jsonb_codec.specs.Parts.{IsPayloadOf}
use Rattle.jsonb.specs.Steps.{◌>>=◌}
use Rattle.jsonb.specs.ItemView.{ItemView}
use Rattle.jsonb.specs.Entry.{Code}
use Rattle.jsonb.specs.Item.{item_of}
use Rattle.jsonb.specs.Building.{AreShort, array_bytes, key_codes, object_bytes}

-- The entries mean these trees, in order: each has its tree's type and a payload that means the
-- tree.
abbrev pub AreCodesOf : List Code → Trees → Type 0
AreCodesOf [] ts = ts ≡ no_trees
AreCodesOf (c ∷ cs) no_trees = ⊥
AreCodesOf (c ∷ cs) (tree t ts) = IsPayloadOf c.type c.payload t × AreCodesOf cs ts

-- The keys are those of the pairs, and the entries mean their trees.
abbrev pub AreMemberEntriesOf : List (List ℕ) → List Code → Pairs → Type 0
AreMemberEntriesOf [] [] ps = ps ≡ no_pairs
AreMemberEntriesOf [] (c ∷ cs) ps = ⊥
AreMemberEntriesOf (k ∷ ks) [] ps = ⊥
AreMemberEntriesOf (k ∷ ks) (c ∷ cs) no_pairs = ⊥
AreMemberEntriesOf (k ∷ ks) (c ∷ cs) (pair l t ps) =
    (k ≡ l) × (IsPayloadOf c.type c.payload t × AreMemberEntriesOf ks cs ps)

-- The bytes are the array of these entries, which mean the trees.
pub record IsArrayOfEntries (b : List ℕ) (ts : Trees) (entries : List Code) : Type 0 where
  pub mean : AreCodesOf entries ts
  pub short : AreShort entries
  pub few : length entries < 2 ^ 29
  pub written : b ≡ array_bytes entries

-- The bytes are the object of these keys and entries, which mean the pairs.
pub record IsObjectOfEntries (b : List ℕ) (ps : Pairs) (members : List (List ℕ × Code))
    : Type 0 where
  pub mean : AreMemberEntriesOf (keys_of members) (values_of members) ps
  pub short_keys : AreShort (key_codes (keys_of members))
  pub short : AreShort (values_of members)
  pub few : length members < 2 ^ 29
  pub written : b ≡ object_bytes (keys_of members) (values_of members)

-- What was read of the keys' and of the values' entry words are the entries of these members.
abbrev pub AreEntriesOf : List (List ℕ × Code)
    → List (Result Code Error) × List (Result Code Error) → Type 0
AreEntriesOf members left =
    (left.0 ≡ map Ok (key_codes (keys_of members))) × (left.1 ≡ map Ok (values_of members))

-- The item of an entry.
abbrev pub entry_item : Code → Result ItemView Error
entry_item entry = item_of entry.type entry.payload

-- A key with the item of its value's entry.
abbrev pub member_item : List ℕ × Code → Result (List ℕ × ItemView) Error
member_item member = entry_item member.1 >>= λ x. Ok (member.0, x)

-- The entry at the first key that has the size and is accepted.
abbrev pub find_entry : (List ℕ → Bool) → ℕ → List (List ℕ × Code) → Option Code
find_entry accepts size members = lookup (λ key. (length key == size) && accepts key) members

-- The entry is that of the value at the first accepted key in the document b of the tree; none if
-- no key is accepted.
abbrev pub IsEntryAt : (List ℕ → Bool) → ℕ → List ℕ → Tree → Option Code → Type 0
IsEntryAt accepts size b (object ps) found =
    (members : List (List ℕ × Code))
    × (IsObjectOfEntries b ps members × (find_entry accepts size members ≡ found))
IsEntryAt accepts size b t found = found ≡ None

-- What is found in the document b of the tree is the item of the entry at the first accepted key;
-- nothing if there is none.
abbrev pub IsFoundIn : (List ℕ → Bool) → ℕ → List ℕ → Tree → Option ItemView → Type 0
IsFoundIn accepts size b (object ps) found =
    (members : List (List ℕ × Code))
    × (IsObjectOfEntries b ps members
    × (option_map entry_item (find_entry accepts size members) ≡ option_map Ok found))
IsFoundIn accepts size b t found = found ≡ None

-- What is found in the document b of the tree is the item of the entry at the index; nothing if
-- there is none.
abbrev pub IsItemFoundIn : ℕ → List ℕ → Tree → Option ItemView → Type 0
IsItemFoundIn index b (array ts) found =
    (entries : List Code)
    × (IsArrayOfEntries b ts entries
    × (option_map entry_item (slice_get entries index) ≡ option_map Ok found))
IsItemFoundIn index b t found = found ≡ None
