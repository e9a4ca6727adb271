-- The names of the errors.
use Rattle.std.specs.Prelude.{ℕ, List, codes}
use Rattle.jsonb_value.specs.declared.error.Error.{Error}
use Rattle.jsonb_value.specs.declared.error.Error.TheVariants.{
  InvalidEOF,
  InvalidJsonb,
  InvalidJsonbHeader,
  InvalidJsonbJEntry,
  InvalidJsonbNumber,
  InvalidJsonbExtension,
  InvalidUtf8,
  ObjectDuplicateKey,
  InvalidJson,
  OutOfMemory,
}

-- the bytes of a variant's name.
abbrev pub name_of : Error → List ℕ
name_of InvalidEOF = codes "InvalidEOF"
name_of InvalidJsonb = codes "InvalidJsonb"
name_of InvalidJsonbHeader = codes "InvalidJsonbHeader"
name_of InvalidJsonbJEntry = codes "InvalidJsonbJEntry"
name_of InvalidJsonbNumber = codes "InvalidJsonbNumber"
name_of InvalidJsonbExtension = codes "InvalidJsonbExtension"
name_of InvalidUtf8 = codes "InvalidUtf8"
name_of ObjectDuplicateKey = codes "ObjectDuplicateKey"
name_of InvalidJson = codes "InvalidJson"
name_of OutOfMemory = codes "OutOfMemory"
