-- The bytes of a key that owns them.
use Rattle.std.specs.Prelude.{ℕ, List}
use Rattle.jsonb_comparable.specs.declared.comparable_key.ComparableKey.{ComparableKey}

-- The bytes of a key.
abbrev pub comparable_bytes : ComparableKey → List ℕ
comparable_bytes key = key.bytes.items
