-- The results of the calls on parts of keys, as C receives them.
use Rattle.std.specs.Prelude.{◌≡◌, ◌⊎◌, ℕ, List, [], ◌∷◌, flat_map}
use Rattle.std.specs.Prelude.{Option, None, Some, map}
use Rattle.std.specs.declared.cmp.Ordering.{Ordering}
use Rattle.std.specs.declared.cmp.Ordering.TheVariants.{Less, Equal, Greater}
use Rattle.jsonb_value.specs.declared.error.Error.TheVariants.{InvalidJsonb, OutOfMemory}
use Rattle.jsonb_value.specs.Meaning.{Meaning, document}
use Rattle.jsonb_value.specs.Tree.{Tree}
use Rattle.jsonb_value.specs.TreeOrder.{tree_cmp}
use Rattle.jsonb.specs.Node.{value_of_key}
use Rattle.jsonb_comparable.specs.Sink.{length_64}
use Rattle.jsonb_comparable.specs.TreeKey.{tree_key}
use Rattle.kohiblad.specs.KeySink.{cut_into}
use Rattle.kohiblad.specs.Names.{names_in}
use Rattle.kohiblad.specs.Status.{code, other_kind, IsLongHandedOver, IsRefused}

-- The first bytes of the key are at the start of the buffer, as many as there is room, and the
-- length of the whole key is stored.
abbrev pub IsCutKey : List ℕ → List ℕ → List ℕ → ℕ → ℕ → Type 0
IsCutKey key before after size status =
    (status ≡ 0) × ((size ≡ length_64 key) × (after ≡ cut_into key before))

-- The key of a member: that of its value, or a zero byte if it is not there.
abbrev pub part_key : Option Tree → List ℕ
part_key (Some t) = tree_key t
part_key None = 0 ∷ []

-- The keys of these parts, one after another.
abbrev pub keys_of_parts : List (Option Tree) → List ℕ
keys_of_parts parts = flat_map part_key parts

-- The keys of the members with these names, one after another.
abbrev pub keys_of_members : List (List ℕ) → Tree → List ℕ
keys_of_members names t = flat_map (λ name. part_key (value_of_key name t)) names

-- The values of the members with these names, as far as they are there.
abbrev pub members_named : List (List ℕ) → Tree → List (Option Tree)
members_named names t = map (λ name. value_of_key name t) names

-- A member that is not there is below each that is; others compare by their values.
abbrev pub part_cmp : Option Tree → Option Tree → Ordering
part_cmp None None = Equal
part_cmp None (Some u) = Less
part_cmp (Some t) None = Greater
part_cmp (Some t) (Some u) = tree_cmp t u

-- The keys of the members with these names are copied, or there is not enough memory.
abbrev pub IsKeyOfList : Tree → List (List ℕ) → List ℕ → List ℕ → ℕ → ℕ → Type 0
IsKeyOfList t names before after size status =
    IsLongHandedOver (keys_of_members names t) before after size status
    ⊎ IsRefused (code OutOfMemory) before after size status

-- The keys of the members with these names are copied, if there are names.
abbrev pub IsKeyOfNames : Tree → Option (List (List ℕ)) → List ℕ → List ℕ → ℕ → ℕ → Type 0
IsKeyOfNames t None before after size status = IsRefused other_kind before after size status
IsKeyOfNames t (Some names) before after size status =
    IsLongHandedOver (keys_of_members names t) before after size status

-- The keys of the members with the names that a document gives are copied, or there is not enough
-- memory; bytes that are not a document are refused.
abbrev pub IsMembersKey : Meaning → Meaning → List ℕ → List ℕ → ℕ → ℕ → Type 0
IsMembersKey (document t) (document u) before after size status =
    IsKeyOfNames t (names_in u) before after size status
    ⊎ IsRefused (code OutOfMemory) before after size status
IsMembersKey m n before after size status = IsRefused (code InvalidJsonb) before after size status
