-- The contents of a `RawJsonb`.
use Rattle.std.specs.Prelude.{ℕ, List}
use Rattle.jsonb.specs.declared.raw.RawJsonb.{RawJsonb}

-- The bytes of a `RawJsonb`.
abbrev pub raw_bytes : RawJsonb → List ℕ
raw_bytes raw = raw.bytes.now
