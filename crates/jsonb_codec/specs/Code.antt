-- The stored form of values: the type of an entry, and its payload.
use Rattle.std.specs.Prelude.{ℕ, List, [], true, false}
use Rattle.jsonb_value.specs.NumCode.{number_payload}
use Rattle.jsonb_value.specs.ExtCode.{extension_of, extension_payload}
use Rattle.jsonb_codec.specs.declared.writer.code.Payload.{Payload}
use Rattle.jsonb_codec.specs.declared.writer.code.Payload.TheVariants as payloads
use Rattle.jsonb_codec.specs.declared.writer.code.StoredEntry.{StoredEntry}
use Rattle.jsonb_codec.specs.declared.writer.code.Scalar.{Scalar}
use Rattle.jsonb_codec.specs.declared.writer.code.Scalar.TheVariants as scalars
use Rattle.jsonb_codec.specs.declared.constants.TheConstants.{NULL_TAG, FALSE_TAG, TRUE_TAG}
use Rattle.jsonb_codec.specs.declared.constants.TheConstants.{STRING_TAG, NUMBER_TAG}
use Rattle.jsonb_codec.specs.declared.constants.TheConstants.{EXTENSION_TAG}

-- The bytes of a payload.
abbrev pub payload_bytes : Payload → List ℕ
payload_bytes (payloads.Bytes bytes) = bytes.now
payload_bytes (payloads.Number x) = number_payload x
payload_bytes (payloads.Extension value) = extension_payload (extension_of value)

-- The type and the payload of an entry.
abbrev pub code_of : StoredEntry → ℕ × List ℕ
code_of code = (code.type_code, payload_bytes code.payload)

-- The type and the payload with which a scalar is stored.
abbrev pub scalar_code : Scalar → ℕ × List ℕ
scalar_code scalars.Null = (NULL_TAG, [])
scalar_code (scalars.Bool false) = (FALSE_TAG, [])
scalar_code (scalars.Bool true) = (TRUE_TAG, [])
scalar_code (scalars.Text s) = (STRING_TAG, s.now)
scalar_code (scalars.Number x) = (NUMBER_TAG, number_payload x.now)
scalar_code (scalars.Extension value) = (EXTENSION_TAG, extension_payload (extension_of value))
