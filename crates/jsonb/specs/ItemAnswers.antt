-- The results of calls on an item, given its contents.
use Rattle.std.specs.Prelude.{ℕ, List, Option, Some, None, Result, Ok}
use Rattle.jsonb_value.specs.declared.error.Error.{Error}
use Rattle.jsonb.specs.declared.item_type.JsonbItemType.{JsonbItemType}
use Rattle.jsonb.specs.declared.item_type.JsonbItemType.TheVariants as kinds
use Rattle.jsonb.specs.Kind.{kind}
use Rattle.jsonb.specs.ItemView.{ItemView, null, boolean, number, text, extension, raw, owned}

-- The kind of an item; that of its bytes if it holds bytes.
abbrev pub kind_of_view : ItemView → Result JsonbItemType Error
kind_of_view null = Ok kinds.Null
kind_of_view (boolean b) = Ok kinds.Boolean
kind_of_view (number given x) = Ok kinds.Number
kind_of_view (text s) = Ok kinds.String
kind_of_view (extension given e) = Ok kinds.Extension
kind_of_view (raw b) = kind b
kind_of_view (owned b) = kind b

-- The bytes of a borrowed document.
abbrev pub raw_in : ItemView → Option (List ℕ)
raw_in null = None
raw_in (boolean b) = None
raw_in (number given x) = None
raw_in (text s) = None
raw_in (extension given e) = None
raw_in (raw b) = Some b
raw_in (owned b) = None

-- The text of a string.
abbrev pub text_in : ItemView → Option (List ℕ)
text_in null = None
text_in (boolean b) = None
text_in (number given x) = None
text_in (text s) = Some s
text_in (extension given e) = None
text_in (raw b) = None
text_in (owned b) = None
