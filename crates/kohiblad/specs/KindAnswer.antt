-- The kind of a value, as C receives it.
use Rattle.std.specs.Prelude.{ℕ, Result, Ok, Err}
use Rattle.jsonb_value.specs.declared.error.Error.{Error}
use Rattle.jsonb.specs.declared.item_type.JsonbItemType.{JsonbItemType}
use Rattle.jsonb.specs.declared.item_type.JsonbItemType.TheVariants as kinds
use Rattle.kohiblad.specs.declared.documents.KohibladKind.{KohibladKind}
use Rattle.kohiblad.specs.Status.{code}

-- The number of a kind.
abbrev pub kind_number : JsonbItemType → ℕ
kind_number kinds.Null = 0
kind_number kinds.Boolean = 1
kind_number kinds.Number = 2
kind_number kinds.String = 3
kind_number kinds.Extension = 4
kind_number (kinds.Array n) = 5
kind_number (kinds.Object n) = 6

-- The number of items of an array or of pairs of an object; 0 for all other kinds.
abbrev pub child_count : JsonbItemType → ℕ
child_count (kinds.Array n) = n
child_count (kinds.Object n) = n
child_count kind = 0

-- The kind and the count, or the status of the error.
abbrev pub kind_answer : Result JsonbItemType Error → KohibladKind
kind_answer (Ok kind) = record { status = 0; kind = kind_number kind; count = child_count kind }
kind_answer (Err e) = record { status = code e; kind = 0; count = 0 }
