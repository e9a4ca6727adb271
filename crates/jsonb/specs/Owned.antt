-- The contents of an `OwnedJsonb`.
use Rattle.std.specs.Prelude.{ℕ, List, Result, Ok, Err}
use Rattle.jsonb.specs.declared.owned.OwnedJsonb.{OwnedJsonb}

-- The bytes of an `OwnedJsonb`.
abbrev pub owned_bytes : OwnedJsonb → List ℕ
owned_bytes owned = owned.bytes.items

-- The bytes in a result, or its error.
abbrev pub result_bytes : {E : Type 0} → Result OwnedJsonb E → Result (List ℕ) E
result_bytes (Ok owned) = Ok (owned_bytes owned)
result_bytes (Err e) = Err e
