-- The bytes of a checked document.
use Rattle.std.specs.Prelude.{ℕ, List}
use Rattle.jsonb_codec.specs.declared.document.bytes.DocumentBytes.{DocumentBytes}

-- The bytes of a `DocumentBytes`.
abbrev pub bytes_of : DocumentBytes → List ℕ
bytes_of d = d.bytes.now
