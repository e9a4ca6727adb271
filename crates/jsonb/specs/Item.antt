-- The item of an entry, and the item of a byte string.
use Rattle.std.specs.Prelude.{ℕ, ◌==◌, if◌then◌else◌, List, true, false, Option, Some, None}
use Rattle.std.specs.Prelude.{Result, Ok, Err}
use Rattle.jsonb_value.specs.declared.error.Error.{Error}
use Rattle.jsonb_value.specs.declared.error.Error.TheVariants.{InvalidJsonb, InvalidJsonbNumber}
use Rattle.jsonb_value.specs.declared.error.Error.TheVariants.{InvalidUtf8}
use Rattle.jsonb_value.specs.declared.number.Number.{Number}
use Rattle.jsonb_value.specs.Tree.{Extension}
use Rattle.jsonb_codec.specs.declared.constants.TheConstants.{SCALAR_CONTAINER_TAG, NULL_TAG}
use Rattle.jsonb_codec.specs.declared.constants.TheConstants.{STRING_TAG, NUMBER_TAG, FALSE_TAG}
use Rattle.jsonb_codec.specs.declared.constants.TheConstants.{TRUE_TAG, CONTAINER_TAG}
use Rattle.jsonb_codec.specs.declared.constants.TheConstants.{EXTENSION_TAG}
use Rattle.jsonb_codec.specs.WordBytes.{header_at}
use Rattle.jsonb.specs.Entry.{Code, entry_at}
use Rattle.jsonb.specs.Steps.{◌>>=◌}
use Rattle.jsonb.specs.Payloads.{is_text, number_in, extension_in, extension_error}
use Rattle.jsonb.specs.ItemView.{ItemView, null, boolean, number, text, extension, raw}

-- The item of a string's payload, which must be UTF-8.
abbrev pub text_item : List ℕ → Result ItemView Error
text_item p = if is_text p then Ok (text p) else Err InvalidUtf8

-- The item of a number's payload, given the number that it means.
abbrev pub item_of_number : List ℕ → Option Number → Result ItemView Error
item_of_number p (Some x) = Ok (number (Some p) x)
item_of_number p None = Err InvalidJsonbNumber

-- The item of a number's payload.
abbrev pub number_item : List ℕ → Result ItemView Error
number_item p = item_of_number p (number_in p)

-- The item of an extension payload, given the value that it means.
abbrev pub item_of_extension : List ℕ → Option Extension → Result ItemView Error
item_of_extension p (Some e) = Ok (extension (Some p) e)
item_of_extension p None = Err (extension_error p)

-- The item of an extension payload.
abbrev pub extension_item : List ℕ → Result ItemView Error
extension_item p = item_of_extension p (extension_in p)

-- The item of an entry with this type and payload; a container's bytes are not examined.
unfoldable pub item_of : ℕ → List ℕ → Result ItemView Error
item_of type p =
    if type == NULL_TAG then Ok null
    else if type == FALSE_TAG then Ok (boolean false)
    else if type == TRUE_TAG then Ok (boolean true)
    else if type == STRING_TAG then text_item p
    else if type == NUMBER_TAG then number_item p
    else if type == EXTENSION_TAG then extension_item p
    else if type == CONTAINER_TAG then Ok (raw p)
    else Err InvalidJsonb

-- The item of the entry under a scalar's header, which must not be a container.
unfoldable pub scalar_item : Code → Result ItemView Error
scalar_item entry =
    if entry.type == CONTAINER_TAG then Err InvalidJsonb else item_of entry.type entry.payload

-- The item under a header: all bytes of an array or object, unexamined, or the item of a scalar's
-- entry.
abbrev pub item_under : ℕ × ℕ → List ℕ → Result ItemView Error
item_under header bytes =
    if header.0 == SCALAR_CONTAINER_TAG then (entry_at bytes 4 8 >>= scalar_item)
    else Ok (raw bytes)

-- The item that a byte string holds.
unfoldable pub item_in : List ℕ → Result ItemView Error
item_in bytes = header_at bytes 0 >>= λ header. item_under header bytes
