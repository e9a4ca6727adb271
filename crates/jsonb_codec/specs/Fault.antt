-- The errors that report that bytes are not a document.
use Rattle.std.specs.Prelude.{⊤}
use Rattle.jsonb_value.specs.declared.error.Error.{Error}
use Rattle.jsonb_value.specs.declared.error.Error.TheVariants.{InvalidEOF, InvalidJsonb}
use Rattle.jsonb_value.specs.declared.error.Error.TheVariants.{InvalidJsonbHeader}
use Rattle.jsonb_value.specs.declared.error.Error.TheVariants.{InvalidJsonbJEntry}
use Rattle.jsonb_value.specs.declared.error.Error.TheVariants.{InvalidJsonbNumber}
use Rattle.jsonb_value.specs.declared.error.Error.TheVariants.{InvalidJsonbExtension, InvalidUtf8}
use Rattle.jsonb_value.specs.declared.error.Error.TheVariants.{ObjectDuplicateKey, InvalidJson}
use Rattle.jsonb_value.specs.declared.error.Error.TheVariants.{OutOfMemory}

-- The decoder can report this error for bytes that are not a document.
abbrev pub IsDecoderFault : Error → Type 0
IsDecoderFault InvalidEOF = ⊤
IsDecoderFault InvalidJsonb = ⊤
IsDecoderFault InvalidJsonbHeader = ⊤
IsDecoderFault InvalidJsonbJEntry = ⊤
IsDecoderFault InvalidJsonbNumber = ⊤
IsDecoderFault InvalidJsonbExtension = ⊤
IsDecoderFault InvalidUtf8 = ⊤
IsDecoderFault ObjectDuplicateKey = ⊥
IsDecoderFault InvalidJson = ⊥
IsDecoderFault OutOfMemory = ⊥

-- The reader of trees can report this error for bytes that are not a document; it has no errors of
-- its own for headers and entry words.
abbrev pub IsTreeFault : Error → Type 0
IsTreeFault InvalidEOF = ⊤
IsTreeFault InvalidJsonb = ⊤
IsTreeFault InvalidJsonbHeader = ⊥
IsTreeFault InvalidJsonbJEntry = ⊥
IsTreeFault InvalidJsonbNumber = ⊤
IsTreeFault InvalidJsonbExtension = ⊤
IsTreeFault InvalidUtf8 = ⊤
IsTreeFault ObjectDuplicateKey = ⊥
IsTreeFault InvalidJson = ⊥
IsTreeFault OutOfMemory = ⊥
