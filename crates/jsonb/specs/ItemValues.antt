-- The contents of number and extension items.
use Rattle.std.specs.Prelude.{ℕ, List, Option}
use Rattle.std.specs.Option.{option_copied}
use Rattle.jsonb_value.specs.declared.number.Number.{Number}
use Rattle.jsonb_value.specs.Tree.{Extension}
use Rattle.jsonb_value.specs.ExtCode.{extension_of}
use Rattle.jsonb.specs.declared.number_item.NumberItem.{NumberItem}
use Rattle.jsonb.specs.declared.extension_item.ExtensionItem.{ExtensionItem}

-- The given bytes of a number item; none if it was made from a number.
abbrev pub number_source : NumberItem → Option (List ℕ)
number_source item = option_copied item.payload

-- The given bytes of an extension item; none if it was made from a value.
abbrev pub extension_source : ExtensionItem → Option (List ℕ)
extension_source item = option_copied item.payload

-- The number of an item.
abbrev pub number_of_item : NumberItem → Number
number_of_item item = item.number

-- The extension value of an item.
abbrev pub extension_of_item : ExtensionItem → Extension
extension_of_item item = extension_of item.value
