-- The kinds of values in the code and in the grammar.
use Rattle.jsonb_value.specs.Reader.Reading.{Kind, null_kind, true_kind, false_kind, string_kind}
use Rattle.jsonb_value.specs.Reader.Reading.{array_kind, object_kind, number_kind}
use Rattle.jsonb_value.specs.declared.parser.reader.Kind as code
use Rattle.jsonb_value.specs.declared.parser.reader.Kind.TheVariants as kinds

-- The grammar's kind for a kind of the code.
abbrev pub kind_view : code.Kind → Kind
kind_view kinds.Null = null_kind
kind_view kinds.True = true_kind
kind_view kinds.False = false_kind
kind_view kinds.String = string_kind
kind_view kinds.Array = array_kind
kind_view kinds.Object = object_kind
kind_view kinds.Number = number_kind
