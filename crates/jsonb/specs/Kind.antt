-- The kinds of values, and the kind read from the first two words of a byte string.
use Rattle.std.specs.Prelude.{ℕ, ◌==◌, if◌then◌else◌, List, Option, Some, None, Result, Ok, Err}
use Rattle.std.specs.Ordering.{nat_cmp}
use Rattle.std.specs.declared.cmp.Ordering.{Ordering}
use Rattle.std.specs.declared.cmp.Ordering.TheVariants.{Equal}
use Rattle.jsonb_value.specs.declared.error.Error.{Error}
use Rattle.jsonb_value.specs.declared.error.Error.TheVariants.{InvalidJsonb}
use Rattle.jsonb_value.specs.Tree.{Tree, null, boolean, number, text, extension, array, object}
use Rattle.jsonb_value.specs.Tree.{count, pair_count}
use Rattle.jsonb_codec.specs.declared.constants.TheConstants.{ARRAY_CONTAINER_TAG}
use Rattle.jsonb_codec.specs.declared.constants.TheConstants.{OBJECT_CONTAINER_TAG, NULL_TAG}
use Rattle.jsonb_codec.specs.declared.constants.TheConstants.{STRING_TAG, NUMBER_TAG, FALSE_TAG}
use Rattle.jsonb_codec.specs.declared.constants.TheConstants.{TRUE_TAG, EXTENSION_TAG}
use Rattle.jsonb_codec.specs.WordBytes.{header_at}
use Rattle.jsonb_codec.specs.JEntry.{jentry_at}
use Rattle.jsonb.specs.declared.item_type.JsonbItemType.{JsonbItemType}
use Rattle.jsonb.specs.declared.item_type.JsonbItemType.TheVariants as kinds
use Rattle.jsonb.specs.Steps.{◌>>=◌}

-- The kind of a scalar whose entry has this type.
abbrev pub kind_of_type : ℕ → Result JsonbItemType Error
kind_of_type type =
    if type == NULL_TAG then Ok kinds.Null
    else if type == FALSE_TAG then Ok kinds.Boolean
    else if type == TRUE_TAG then Ok kinds.Boolean
    else if type == NUMBER_TAG then Ok kinds.Number
    else if type == STRING_TAG then Ok kinds.String
    else if type == EXTENSION_TAG then Ok kinds.Extension
    else Err InvalidJsonb

-- The kind under a header: an array or object with its count, or the kind of a scalar's entry.
abbrev pub kind_under : ℕ × ℕ → List ℕ → Result JsonbItemType Error
kind_under header bytes =
    if header.0 == ARRAY_CONTAINER_TAG then Ok (kinds.Array header.1)
    else if header.0 == OBJECT_CONTAINER_TAG then Ok (kinds.Object header.1)
    else (jentry_at bytes 4 >>= λ entry. kind_of_type entry.type_code)

-- The kind read from the first two words, whatever follows them.
unfoldable pub kind : List ℕ → Result JsonbItemType Error
kind bytes = header_at bytes 0 >>= λ header. kind_under header bytes

-- The kind of a tree.
abbrev pub kind_of_tree : Tree → JsonbItemType
kind_of_tree null = kinds.Null
kind_of_tree (boolean b) = kinds.Boolean
kind_of_tree (number x) = kinds.Number
kind_of_tree (text s) = kinds.String
kind_of_tree (extension e) = kinds.Extension
kind_of_tree (array ts) = kinds.Array (count ts)
kind_of_tree (object ps) = kinds.Object (pair_count ps)

-- The rank of a kind; a value of higher rank is greater.
abbrev pub kind_rank : JsonbItemType → ℕ
kind_rank kinds.Extension = 0
kind_rank kinds.Boolean = 1
kind_rank kinds.Number = 2
kind_rank kinds.String = 3
kind_rank (kinds.Object n) = 4
kind_rank (kinds.Array n) = 5
kind_rank kinds.Null = 6

-- The order of two values as far as their kinds determine it: if the kinds differ, or both are
-- null.
abbrev pub rank_order : JsonbItemType → JsonbItemType → Option Ordering
rank_order kinds.Null kinds.Null = Some Equal
rank_order x y =
    if kind_rank x == kind_rank y then None else Some (nat_cmp (kind_rank x) (kind_rank y))
