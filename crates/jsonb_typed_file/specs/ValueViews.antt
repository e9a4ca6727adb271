-- What a value of a column is, and what it is stored as in a document.
use Rattle.std.specs.Prelude.{ℕ, List, [], ◌∷◌}
use Rattle.std.specs.Borrow.{Bor}
use Rattle.jsonb_value.specs.ExtCode.{extension_of}
use Rattle.jsonb_value.specs.Tree.{Tree, boolean, extension, number, text}
use Rattle.jsonb_value.specs.Tree.{Pairs, no_pairs, pair}
use Rattle.jsonb_codec.specs.Canon.{payload_of}
use Rattle.jsonb_codec.specs.Doc.{type_of}
use Rattle.jsonb_typed_file.specs.declared.column.StoredValue.{StoredValue}
use Rattle.jsonb_typed_file.specs.declared.column.StoredValue.TheVariants as values

-- The tree of a value.
abbrev pub stored_view : StoredValue → Tree
stored_view (values.Boolean b) = boolean b
stored_view (values.Number x) = number x
stored_view (values.Text s) = text s.now
stored_view (values.Extension e) = extension (extension_of e)

-- The type and the payload of its entry in a document.
abbrev pub value_code : StoredValue → ℕ × List ℕ
value_code v = (type_of (stored_view v), payload_of (stored_view v))

-- The pairs of keys and values.
abbrev pub members_view : List (Bor (List ℕ) × StoredValue) → Pairs
members_view [] = no_pairs
members_view (m ∷ ms) = pair m.0.now (stored_view m.1) (members_view ms)
