-- The contents of a decoder.
use Rattle.std.specs.Prelude.{ℕ, List}
use Rattle.jsonb_codec.specs.declared.de.Decoder.{Decoder}

-- The bytes that are not decoded yet.
abbrev pub input_of : Decoder → List ℕ
input_of d = d.bytes.now
