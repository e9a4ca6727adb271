-- The documents of parts, which are given by the type of their entry and their payload.
use Rattle.std.specs.Prelude.{◌≡◌, ◌==◌, ◌||◌, ◌&&◌, ◌^◌, ◌++◌, not, nat_le, if◌then◌else◌, ℕ, Bool}
use Rattle.std.specs.Prelude.{List, [], length, map, slice_get, Some, Result, Ok, Err}
use Rattle.std.specs.Map.{keys_of, values_of}
use Rattle.jsonb_value.specs.declared.error.Error.{Error}
use Rattle.jsonb_value.specs.declared.error.Error.TheVariants.{InvalidJsonb, InvalidJsonbJEntry}
use Rattle.jsonb_value.specs.Tree.{Tree, text, array, object}
use Rattle.jsonb_codec.specs.declared.constants.TheConstants.{NULL_TAG, STRING_TAG, NUMBER_TAG}
use Rattle.jsonb_codec.specs.declared.constants.TheConstants.{FALSE_TAG, TRUE_TAG, CONTAINER_TAG}
use Rattle.jsonb_codec.specs.declared.constants.TheConstants.{EXTENSION_TAG}
use Rattle.jsonb_codec.specs.Doc.{Doc}
use Rattle.jsonb.specs.Node.{tree_list, pair_list}
use Rattle.kohiblad.specs.Places.{entry_document}

-- Entries may have this type.
abbrev pub is_entry_type : ℕ → Bool
is_entry_type type =
    (type == NULL_TAG)
    || ((type == STRING_TAG)
    || ((type == NUMBER_TAG)
    || ((type == FALSE_TAG)
    || ((type == TRUE_TAG) || ((type == CONTAINER_TAG) || (type == EXTENSION_TAG))))))

-- The payload is too long for the entry of a scalar.
abbrev pub is_too_long : ℕ → List ℕ → Bool
is_too_long type payload = not (type == CONTAINER_TAG) && nat_le (2 ^ 28) (length payload)

-- The document of a part with this type and payload, or why there is none.
abbrev pub part_document : ℕ → List ℕ → Result (List ℕ) Error
part_document type payload =
    if not (is_entry_type type) then Err InvalidJsonbJEntry
    else if is_too_long type payload then Err InvalidJsonb
    else Ok (entry_document (record { type = type; payload = payload }))

-- The trees of all parts, by number: an array's items, or an object's keys and then its values.
abbrev pub part_trees : Tree → List Tree
part_trees (array ts) = tree_list ts
part_trees (object ps) = map text (keys_of (pair_list ps)) ++ values_of (pair_list ps)
part_trees t = []

-- The bytes are a document of the part of the tree with this number.
abbrev pub IsPartDocument : Tree → ℕ → List ℕ → Type 0
IsPartDocument t number bytes =
    (u : Tree) × ((slice_get (part_trees t) number ≡ Some u) × Doc bytes u)
